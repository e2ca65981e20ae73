-- The vector of a key part and that of its key.
use Rattle.std.proofs.Common.{◌≡◌, ◌≢◌, ℕ, zero, suc, ◌+◌, ◌-◌, ◌*◌, ◌/◌, ◌%◌, ◌<◌, ◌≤◌, true, false, not, List, ◌++◌, length, get_or, set, take, drop, replicate, eqb, refl, sym, ap, ◌∙◌, subst, inl, inr, ⊎_elim, arith}
use Rattle.std.specs.Prelude.{bit_xor, count_ones, if◌then◌else◌}
use Rattle.std.specs.Int.{bit_at}
use Rattle.std.proofs.lemmas.Bool.{cases_eq, agree_below_at, eqb-true, eq-eqb}
use Rattle.std.proofs.lemmas.List.{get_or-set_same, get_or-set_other, length-set, length-append, length-drop, take_at, drop_at, take_all, take-append-drop, set-set, set-get_or}
use Rattle.std.proofs.lemmas.List.Elements.{All-append}
use Rattle.std.proofs.lemmas.Nat.Bits.{bit_at-lt, bit_at-pow_other, bit_at_xor}
use lib.Count.{ones}
use Rattle.key_cells.specs.Bytes.{is_zero, IsZero}
use Rattle.key_cells.proofs.ByteLemmas.{is_zero-Decides, zeros_of}
use Rattle.cca_vectors.specs.Bits.{bit, even_byte}
use Rattle.cca_vectors.specs.PartVectors.{as_part, part_half}
use Rattle.cca_vectors.specs.Vectors.{left_of, right_of, form_of, length_of, is_part_of, single_length, right_of_double, right_of_unique, IsEven, IsAntiVariant, IsRightHalfFor, HasKeyForm, IsValid}
use Rattle.cca_vectors.specs.VectorChecks.{right_half_for}
use Rattle.cca_vectors.proofs.ClosingLemmas.{IsHalf, all_from, left_half, not_zero, right_half, tested, zero_test}
use Rattle.cca_vectors.proofs.Validity.{is_right_half, right_half_is}

-- ---- one byte

-- byte 5 of a half with bits 44 and 47 changed
abbrev turned : ℕ → ℕ
turned byte = bit_xor (bit_xor byte 8) 1

turned_twice : (byte : ℕ) → byte < 256 → turned (turned byte) ≡ byte
turned_twice byte fits = eqb-true (turned (turned byte)) byte (agree_below_at (λ b. eqb (turned (turned b)) b) (λ b. true) 256 byte refl fits)

turned_small : (byte : ℕ) → byte < 256 → turned byte / 256 ≡ 0
turned_small byte fits = eqb-true (turned byte / 256) 0 (agree_below_at (λ b. eqb (turned b / 256) 0) (λ b. true) 256 byte refl fits)

turned_fits : (byte : ℕ) → byte < 256 → turned byte < 256
turned_fits byte fits = let small : turned byte / 256 ≡ 0 = turned_small byte fits in omega arith

turned_even : (byte : ℕ) → byte < 256 → IsEven byte → IsEven (turned byte)
unfolding lib.Count.ones
turned_even byte fits even =
    let agree : eqb (count_ones (turned byte) % 2) 0 ≡ eqb (count_ones byte % 2) 0 =
    agree_below_at (λ b. eqb (count_ones (turned b) % 2) 0) (λ b. eqb (count_ones b % 2) 0) 256 byte refl fits in
    eqb-true (count_ones (turned byte) % 2) 0 (agree ∙ eq-eqb (count_ones byte % 2) 0 even)

-- the byte is turned before or after its last bit is chosen
turned_chosen : (byte : ℕ) → byte < 256 → turned (even_byte byte) ≡ even_byte (turned byte)
unfolding lib.Count.ones
turned_chosen byte fits =
    eqb-true (turned (even_byte byte)) (even_byte (turned byte))
    (agree_below_at (λ b. eqb (turned (even_byte b)) (even_byte (turned b))) (λ b. true) 256 byte refl fits)

-- the first three bits stay, and the last five are turned by themselves
turned_apart : (byte : ℕ) → byte < 256 → turned byte ≡ 32 * (byte / 32) + turned (byte % 32)
turned_apart byte fits =
    eqb-true (turned byte) (32 * (byte / 32) + turned (byte % 32))
    (agree_below_at (λ b. eqb (turned b) (32 * (b / 32) + turned (b % 32))) (λ b. true) 256 byte refl fits)

turned_last : (byte : ℕ) → byte < 256 → turned (byte % 32) ≡ turned byte % 32
turned_last byte fits =
    eqb-true (turned (byte % 32)) (turned byte % 32)
    (agree_below_at (λ b. eqb (turned (b % 32)) (turned b % 32)) (λ b. true) 256 byte refl fits)

-- byte 5 of the right half of a form goes with that of the left half
turned_right : (form byte : ℕ) → form < 8 → byte < 256 → turned (even_byte (32 * form + byte % 32)) ≡ even_byte (32 * form + turned byte % 32)
turned_right form byte three fits =
    let front : (32 * form + byte % 32) / 32 ≡ form = omega arith in
    let last : (32 * form + byte % 32) % 32 ≡ byte % 32 = omega arith in
    turned_chosen (32 * form + byte % 32) (omega arith)
    ∙ ap even_byte
    (turned_apart (32 * form + byte % 32) (omega arith)
    ∙ (ap (λ f. 32 * f + turned ((32 * form + byte % 32) % 32)) front
    ∙ ap (λ rest. 32 * form + rest) (ap turned last ∙ turned_last byte fits)))

-- bit 44 is bit 3 of its byte, and bit 47 bit 0
turned_bit : (byte j : ℕ) → j ≢ 3 → j ≢ 0 → bit_at (turned byte) j ≡ bit_at byte j
turned_bit byte j three none =
    let outer : bit_at (turned byte) j ≡ (bit_at (bit_xor byte 8) j + bit_at 1 j) % 2 = bit_at_xor (bit_xor byte 8) 1 j in
    let inner : bit_at (bit_xor byte 8) j ≡ (bit_at byte j + bit_at 8 j) % 2 = bit_at_xor byte 8 j in
    let eight : bit_at 8 j ≡ 0 = bit_at-pow_other 3 j three in
    let one : bit_at 1 j ≡ 0 = bit_at-pow_other 0 j none in
    let small : bit_at byte j < 2 = bit_at-lt byte j in
    omega arith

turned_part : (byte : ℕ) → bit_at (turned byte) 3 ≡ 1 - bit_at byte 3
turned_part byte =
    let outer : bit_at (turned byte) 3 ≡ (bit_at (bit_xor byte 8) 3 + 0) % 2 = bit_at_xor (bit_xor byte 8) 1 3 in
    let inner : bit_at (bit_xor byte 8) 3 ≡ (bit_at byte 3 + 1) % 2 = bit_at_xor byte 8 3 in
    let small : bit_at byte 3 < 2 = bit_at-lt byte 3 in
    omega arith

-- ---- one half

as_is : (half : List ℕ) → is_zero half ≡ true → part_half half ≡ half
as_is half e =
    ap (λ b. if b then half else set (set half 5 (bit_xor (get_or half 5 0) 8)) 5 (bit_xor (get_or (set half 5 (bit_xor (get_or half 5 0) 8)) 5 0) 1)) e

turned_set : (half : List ℕ) → length half ≡ 8 → is_zero half ≡ false → part_half half ≡ set half 5 (turned (get_or half 5 0))
turned_set half size e =
    ap (λ b. if b then half else set (set half 5 first) 5 (bit_xor (get_or (set half 5 first) 5 0) 1)) e
    ∙ (set-set half 5 first (bit_xor (get_or (set half 5 first) 5 0) 1)
    ∙ ap (λ b. set half 5 (bit_xor b 1)) (get_or-set_same half 5 first 0 (omega arith)))
  where
    first : ℕ
    first = bit_xor (get_or half 5 0) 8

other_byte : (half : List ℕ) (k : ℕ) → length half ≡ 8 → k ≢ 5 → get_or (part_half half) k 0 ≡ get_or half k 0
other_byte half k size ne =
    ⊎_elim (λ (e : is_zero half ≡ true). ap (λ l. get_or l k 0) (as_is half e))
    (λ (e : is_zero half ≡ false). ap (λ l. get_or l k 0) (turned_set half size e) ∙ get_or-set_other half 5 k (turned (get_or half 5 0)) 0 ne)
    (tested half)

fifth_byte : (half : List ℕ) → length half ≡ 8 → is_zero half ≡ false → get_or (part_half half) 5 0 ≡ turned (get_or half 5 0)
fifth_byte half size e = ap (λ l. get_or l 5 0) (turned_set half size e) ∙ get_or-set_same half 5 (turned (get_or half 5 0)) 0 (omega arith)

-- what holds of each byte of a half, and of its byte 5 when that is turned
each_of : (P : ℕ → Type 0) (half : List ℕ) → length half ≡ 8 → ((k : ℕ) → P (get_or half k 0)) → P (turned (get_or half 5 0)) → (k : ℕ) → P (get_or (part_half half) k 0)
each_of P half size each turned_too k =
    ⊎_elim (λ (e : is_zero half ≡ true). subst (λ l. P (get_or l k 0)) (sym (as_is half e)) (each k))
    (λ (e : is_zero half ≡ false).
    ⊎_elim (λ (five : k ≡ 5). subst P (sym (ap (λ n. get_or (part_half half) n 0) five ∙ fifth_byte half size e)) turned_too)
    (λ (ne : k ≢ 5). subst P (sym (other_byte half k size ne)) (each k))
    (cases_eq k 5))
    (tested half)

size_of_part : (half : List ℕ) → length half ≡ 8 → length (part_half half) ≡ 8
size_of_part half size =
    ⊎_elim (λ (e : is_zero half ≡ true). ap length (as_is half e) ∙ size)
    (λ (e : is_zero half ≡ false). ap length (turned_set half size e) ∙ (length-set half 5 (turned (get_or half 5 0)) ∙ size))
    (tested half)

-- all bits but 44 and 47
pub same_bit : (half : List ℕ) (n : ℕ) → length half ≡ 8 → n < 64 → n ≢ 44 → n ≢ 47 → bit (part_half half) n ≡ bit half n
same_bit half n size within part parity =
    ⊎_elim (λ (e : is_zero half ≡ true). ap (λ l. bit l n) (as_is half e))
    (λ (e : is_zero half ≡ false).
    ⊎_elim (λ (five : n / 8 ≡ 5).
    ap (λ k. bit_at (get_or (part_half half) k 0) (7 - n % 8)) five
    ∙ (ap (λ byte. bit_at byte (7 - n % 8)) (fifth_byte half size e)
    ∙ (turned_bit (get_or half 5 0) (7 - n % 8) (λ (three : 7 - n % 8 ≡ 3). part (omega arith)) (λ (none : 7 - n % 8 ≡ 0). parity (omega arith))
    ∙ ap (λ k. bit_at (get_or half k 0) (7 - n % 8)) (sym five))))
    (λ (ne : n / 8 ≢ 5). ap (λ byte. bit_at byte (7 - n % 8)) (other_byte half (n / 8) size ne))
    (cases_eq (n / 8) 5))
    (tested half)

part_bit : (half : List ℕ) → length half ≡ 8 → is_zero half ≡ false → bit (part_half half) 44 ≡ 1 - bit half 44
part_bit half size e = ap (λ byte. bit_at byte 3) (fifth_byte half size e) ∙ turned_part (get_or half 5 0)

same_form : (half : List ℕ) → length half ≡ 8 → form_of (part_half half) ≡ form_of half
same_form half size =
    ap (λ b. 4 * b + 2 * bit (part_half half) 41 + bit (part_half half) 42) (same_bit half 40 size (omega arith) (omega arith) (omega arith))
    ∙ (ap (λ b. 4 * bit half 40 + 2 * b + bit (part_half half) 42) (same_bit half 41 size (omega arith) (omega arith) (omega arith))
    ∙ ap (λ b. 4 * bit half 40 + 2 * bit half 41 + b) (same_bit half 42 size (omega arith) (omega arith) (omega arith)))

anti_part : (half : List ℕ) → length half ≡ 8 → IsAntiVariant half → IsAntiVariant (part_half half)
anti_part half size (inl zeros) = subst IsAntiVariant (sym (as_is half (zero_test half zeros))) (inl zeros)
anti_part half size (inr bits) =
    inr (
      same_bit half 30 size (omega arith) (omega arith) (omega arith) ∙ bits.0,
      same_bit half 38 size (omega arith) (omega arith) (omega arith) ∙ bits.1,
    )

part_is_half : (half : List ℕ) → IsHalf half → IsHalf (part_half half)
part_is_half half h = record {
  size = size_of_part half h.size;
  bytes = each_of (λ b. b < 256) half h.size h.bytes (turned_fits (get_or half 5 0) (h.bytes 5));
  even = each_of IsEven half h.size h.even (turned_even (get_or half 5 0) (h.bytes 5) (h.even 5));
  anti = anti_part half h.size h.anti;
}

-- a half that isn't zero is none as a part either: its bit 38 is on
counts : (half : List ℕ) → IsHalf half → is_zero half ≡ false → is_zero (part_half half) ≡ false
counts half h e =
    ⊎_elim (λ (z : is_zero (part_half half) ≡ true).
    let off : bit (part_half half) 38 ≡ 0 = ap (λ l. bit l 38) (zeros_of 8 (part_half half) (size_of_part half h.size) ((is_zero-Decides (part_half half)).0 z)) in
    absurd (omega (arith, off, same_bit half 38 h.size (omega arith) (omega arith) (omega arith), on h.anti)))
    (λ (z : is_zero (part_half half) ≡ false). z)
    (tested (part_half half))
  where
    on : IsAntiVariant half → bit half 38 ≡ 1
    on (inl zeros) = let test : is_zero half ≡ true = zero_test half zeros in cc
    on (inr bits) = bits.1

half_twice : (half : List ℕ) → IsHalf half → part_half (part_half half) ≡ half
half_twice half h =
    ⊎_elim (λ (e : is_zero half ≡ true). ap part_half (as_is half e) ∙ as_is half e)
    (λ (e : is_zero half ≡ false).
    turned_set (part_half half) (size_of_part half h.size) (counts half h e)
    ∙ (ap (λ b. set (part_half half) 5 (turned b)) (fifth_byte half h.size e)
    ∙ (ap (λ l. set l 5 (turned (turned byte))) (turned_set half h.size e)
    ∙ (set-set half 5 (turned byte) (turned (turned byte))
    ∙ (ap (set half 5) (turned_twice byte (h.bytes 5)) ∙ set-get_or half 5 0)))))
    (tested half)
  where
    byte : ℕ
    byte = get_or half 5 0

-- ---- two halves

-- the right half of a form belongs to the left half after both are made those of a part, too
right_part : (form : ℕ) (left right : List ℕ) → IsHalf left → IsHalf right → form < 8 → form ≢ 0 → form_of left ≢ 0 → IsRightHalfFor form left right
    → part_half right ≡ right_half_for form (part_half left)
right_part form left right l r three some left_some h =
    turned_set right r.size (not_zero right r.size (λ z. some (sym h.form ∙ z)))
    ∙ (ap (λ half. set half 5 (turned (get_or half 5 0))) is
    ∙ (set-set left 5 made (turned (get_or (set left 5 made) 5 0))
    ∙ (ap (λ b. set left 5 (turned b)) (get_or-set_same left 5 made 0 (omega (arith, l.size)))
    ∙ (ap (set left 5) (turned_right form byte three (l.bytes 5))
    ∙ (sym (set-set left 5 (turned byte) (even_byte (32 * form + turned byte % 32)))
    ∙ (ap (λ half. set half 5 (even_byte (32 * form + turned byte % 32))) (sym part)
    ∙ ap (λ b. set (part_half left) 5 (even_byte (32 * form + b % 32))) (sym (fifth_byte left l.size counted))))))))
  where
    byte : ℕ
    byte = get_or left 5 0

    made : ℕ
    made = even_byte (32 * form + byte % 32)

    counted : is_zero left ≡ false
    counted = not_zero left l.size left_some

    part : part_half left ≡ set left 5 (turned byte)
    part = turned_set left l.size counted

    is : right ≡ right_half_for form left
    is = right_half_is form left right l.size r.size l.bytes r.bytes h

belongs : (form : ℕ) (left right : List ℕ) → IsHalf left → IsHalf right → form < 8 → form ≢ 0 → form_of left ≢ 0 → IsRightHalfFor form left right
    → IsRightHalfFor form (part_half left) (part_half right)
belongs form left right l r three some left_some h =
    is_right_half form (part_half left) (part_half right) three (size_of_part left l.size) (part_is_half left l).bytes
    (right_part form left right l r three some left_some h)

form_part : (left right : List ℕ) → IsHalf left → IsHalf right → HasKeyForm left right → HasKeyForm (part_half left) (part_half right)
form_part left right l r (inl (single, zeros)) =
    inl (same_form left l.size ∙ single, subst IsZero (sym (as_is right (zero_test right zeros))) zeros)
form_part left right l r (inr (inl (double, h))) =
    inr (inl (same_form left l.size ∙ double, belongs right_of_double left right l r (omega arith) (omega arith) (λ z. omega (arith, double, z)) h))
form_part left right l r (inr (inr (unique, h))) =
    inr (inr (same_form left l.size ∙ unique, belongs right_of_unique left right l r (omega arith) (omega arith) (λ z. omega (arith, unique, z)) h))

-- ---- the vector

module _ (vector : List ℕ) (valid : IsValid vector) where
  left_part : IsHalf (part_half (left_of vector))
  left_part = part_is_half (left_of vector) (left_half vector valid)

  right_part_half : IsHalf (part_half (right_of vector))
  right_part_half = part_is_half (right_of vector) (right_half vector valid)

  pub left_is : left_of (as_part vector) ≡ part_half (left_of vector)
  left_is = take_at (part_half (left_of vector)) (part_half (right_of vector)) 8 left_part.size

  pub right_is : right_of (as_part vector) ≡ part_half (right_of vector)
  right_is =
      ap (take 8) (drop_at (part_half (left_of vector)) (part_half (right_of vector)) 8 left_part.size)
      ∙ take_all 8 (part_half (right_of vector)) (omega (arith, right_part_half.size))

  pub part_valid : IsValid (as_part vector)
  part_valid = record {
    whole = length-append (part_half (left_of vector)) (part_half (right_of vector)) ∙ omega (arith, left_part.size, right_part_half.size);
    bytes =
        All-append (λ b. b < 256) (part_half (left_of vector)) (part_half (right_of vector))
        (all_from (λ b. b < 256) (part_half (left_of vector)) left_part.bytes)
        (all_from (λ b. b < 256) (part_half (right_of vector)) right_part_half.bytes);
    even =
        All-append IsEven (part_half (left_of vector)) (part_half (right_of vector))
        (all_from IsEven (part_half (left_of vector)) left_part.even)
        (all_from IsEven (part_half (right_of vector)) right_part_half.even);
    left = subst IsAntiVariant (sym left_is) left_part.anti;
    right = subst IsAntiVariant (sym right_is) right_part_half.anti;
    form =
        subst (λ l. HasKeyForm l (right_of (as_part vector))) (sym left_is)
        (subst (HasKeyForm (part_half (left_of vector))) (sym right_is)
        (form_part (left_of vector) (right_of vector) (left_half vector valid) (right_half vector valid) valid.form));
  }

  whole : left_of vector ++ right_of vector ≡ vector
  whole = ap (λ r. left_of vector ++ r) (take_all 8 (drop 8 vector) behind) ∙ take-append-drop 8 vector
    where
      behind : length (drop 8 vector) ≤ 8
      behind = simp length-drop (omega (arith, valid.whole))

  pub part_twice : as_part (as_part vector) ≡ vector
  part_twice =
      ap (λ l. part_half l ++ part_half (right_of (as_part vector))) left_is
      ∙ (ap (λ r. part_half (part_half (left_of vector)) ++ part_half r) right_is
      ∙ (ap (λ l. l ++ part_half (part_half (right_of vector))) (half_twice (left_of vector) (left_half vector valid))
      ∙ (ap (λ r. left_of vector ++ r) (half_twice (right_of vector) (right_half vector valid)) ∙ whole)))

  pub part_length : length_of (as_part vector) ≡ length_of vector
  part_length =
      ap (λ form. if eqb form single_length then 8 else 16) (ap form_of left_is ∙ same_form (left_of vector) (left_half vector valid).size)

  -- a vector that isn't zero has a left half that isn't zero
  left_counts : is_zero vector ≡ false → is_zero (left_of vector) ≡ false
  left_counts some =
      ⊎_elim (λ (e : is_zero (left_of vector) ≡ true). blank e valid.form)
      (λ (e : is_zero (left_of vector) ≡ false). e)
      (tested (left_of vector))
    where
      zeros : is_zero (left_of vector) ≡ true → left_of vector ≡ replicate 8 0
      zeros e = zeros_of 8 (left_of vector) (left_half vector valid).size ((is_zero-Decides (left_of vector)).0 e)

      blank : is_zero (left_of vector) ≡ true → HasKeyForm (left_of vector) (right_of vector) → is_zero (left_of vector) ≡ false
      blank e (inl (single, right)) =
          let all : vector ≡ replicate 8 0 ++ replicate 8 0 =
          sym whole ∙ (ap (λ l. l ++ right_of vector) (zeros e) ∙ ap (λ r. replicate 8 0 ++ r) (zeros_of 8 (right_of vector) (right_half vector valid).size right)) in
          let none : is_zero vector ≡ true = ap is_zero all in
          cc
      blank e (inr (inl (double, h))) = let none : form_of (left_of vector) ≡ 0 = ap form_of (zeros e) in absurd (omega arith)
      blank e (inr (inr (unique, h))) = let none : form_of (left_of vector) ≡ 0 = ap form_of (zeros e) in absurd (omega arith)

  pub part_turned : is_zero vector ≡ false → is_part_of (as_part vector) ≡ not (is_part_of vector)
  part_turned some =
      ap (λ l. eqb (bit l 44) 1) left_is
      ∙ (ap (λ b. eqb b 1) (part_bit (left_of vector) (left_half vector valid).size (left_counts some)) ∙ other (bit (left_of vector) 44) (bit_at-lt (get_or (left_of vector) 5 0) 3))
    where
      other : (b : ℕ) → b < 2 → eqb (1 - b) 1 ≡ not (eqb b 1)
      other zero small = refl
      other (suc zero) small = refl
      other (suc (suc b)) small = absurd (omega arith)

  pub part_left : (n : ℕ) → n < 64 → n ≢ 44 → n ≢ 47 → bit (left_of (as_part vector)) n ≡ bit (left_of vector) n
  part_left n within part parity =
      ap (λ l. bit l n) left_is ∙ same_bit (left_of vector) n (left_half vector valid).size within part parity

  pub part_right : (n : ℕ) → n < 64 → n ≢ 44 → n ≢ 47 → bit (right_of (as_part vector)) n ≡ bit (right_of vector) n
  part_right n within part parity =
      ap (λ l. bit l n) right_is ∙ same_bit (right_of vector) n (right_half vector valid).size within part parity
