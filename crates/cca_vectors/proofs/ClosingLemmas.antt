-- A vector that is made one that forbids export is valid.
use Rattle.std.proofs.Common.{◌≡◌, ◌≢◌, ◌⊎◌, ℕ, ◌+◌, ◌-◌, ◌*◌, ◌/◌, ◌%◌, ◌<◌, ◌≤◌, Bool, true, false, ◌||◌, List, ◌++◌, length, get_or, set, take, drop, replicate, eqb, refl, sym, ap, ◌∙◌, subst, inl, inr, ⊎_elim, arith}
use Rattle.std.specs.Prelude.{count_ones, if◌then◌else◌}
use Rattle.std.specs.Int.{bit_at}
use Rattle.std.specs.List.{All}
use Rattle.std.proofs.lemmas.Bool.{cases_eq, cases_lt}
use Rattle.std.proofs.lemmas.List.{get_or-set_same, get_or-set_other, get_or-take, get_or-drop, get_or_past, get_or_default, length-set, length-append, length-take, length-drop, set_comm, take_at, drop_at, take_all}
use Rattle.std.proofs.lemmas.List.Elements.{All-append}
use lib.Count.{ones}
use Rattle.key_cells.specs.Bytes.{is_zero, IsZero}
use Rattle.key_cells.proofs.ByteLemmas.{is_zero-Decides, zeros_of}
use Rattle.cca_vectors.specs.Bits.{bit, even_byte}
use Rattle.cca_vectors.specs.Closing.{closed_byte, closed_half, closed_to_export, closed_zero}
use Rattle.cca_vectors.specs.Permissions.{is_exportable}
use Rattle.cca_vectors.specs.Vectors.{left_of, right_of, form_of, length_of, single_length, right_of_double, right_of_unique, IsEven, IsAntiVariant, IsRightHalfFor, HasKeyForm, IsValid}
use Rattle.cca_vectors.specs.VectorChecks.{right_half_for}
use Rattle.cca_vectors.proofs.DefaultLemmas.{valid_by_tests}
use Rattle.cca_vectors.proofs.Validity.{AreBytes, bytes_dropped, bytes_taken, even_byte_even, is_right_half, right_half_is}

-- ---- one byte

closed_fits : (byte : ℕ) → byte < 256 → closed_byte byte < 256
closed_fits byte fits =
    let seven : ℕ = (byte - 64 * (byte / 64 % 2)) / 2 in
    let small : seven < 128 = omega arith in
    omega arith

closed_even : (byte : ℕ) → byte < 256 → IsEven (closed_byte byte)
closed_even byte fits = even_byte_even (byte - 64 * (byte / 64 % 2)) (omega arith)

bit_off : (byte last : ℕ) → last < 2 → ((byte - 64 * (byte / 64 % 2)) / 2 * 2 + last) / 64 % 2 ≡ 0
bit_off byte last small = omega arith

pub closed_bit : (byte : ℕ) → bit_at (closed_byte byte) 6 ≡ 0
closed_bit byte =
    bit_off byte (count_ones ((byte - 64 * (byte / 64 % 2)) / 2) % 2) (omega arith)

-- ---- one half

zero_even : IsEven 0
unfolding ones
zero_even = refl

pub record IsHalf (half : List ℕ) : Type 0 where
  pub size : length half ≡ 8
  pub bytes : AreBytes half
  pub even : (k : ℕ) → IsEven (get_or half k 0)
  pub anti : IsAntiVariant half

pub tested : (half : List ℕ) → (is_zero half ≡ true) ⊎ (is_zero half ≡ false)
tested half = elim (is_zero half) as (λ b. (b ≡ true) ⊎ (b ≡ false)) [ true ↦ inl refl | false ↦ inr refl ]

pub closed_as_is : (half : List ℕ) → is_zero half ≡ true → closed_half half ≡ half
closed_as_is half e = ap (λ b. if b then half else set half 2 (closed_byte (get_or half 2 0))) e

closed_set : (half : List ℕ) → is_zero half ≡ false → closed_half half ≡ set half 2 (closed_byte (get_or half 2 0))
closed_set half e = ap (λ b. if b then half else set half 2 (closed_byte (get_or half 2 0))) e

pub other_byte : (half : List ℕ) (k : ℕ) → k ≢ 2 → get_or (closed_half half) k 0 ≡ get_or half k 0
other_byte half k ne =
    ⊎_elim (λ (e : is_zero half ≡ true). ap (λ l. get_or l k 0) (closed_as_is half e))
    (λ (e : is_zero half ≡ false). ap (λ l. get_or l k 0) (closed_set half e) ∙ get_or-set_other half 2 k (closed_byte (get_or half 2 0)) 0 ne)
    (tested half)

pub second_byte : (half : List ℕ) → length half ≡ 8 → is_zero half ≡ false → get_or (closed_half half) 2 0 ≡ closed_byte (get_or half 2 0)
second_byte half size e = ap (λ l. get_or l 2 0) (closed_set half e) ∙ get_or-set_same half 2 (closed_byte (get_or half 2 0)) 0 (omega arith)

-- what holds of each byte of a half, and of its byte 2 when that is closed
each_of : (P : ℕ → Type 0) (half : List ℕ) → length half ≡ 8 → ((k : ℕ) → P (get_or half k 0)) → P (closed_byte (get_or half 2 0)) → (k : ℕ) → P (get_or (closed_half half) k 0)
each_of P half size each closed k =
    ⊎_elim (λ (e : is_zero half ≡ true). subst (λ l. P (get_or l k 0)) (sym (closed_as_is half e)) (each k))
    (λ (e : is_zero half ≡ false).
    ⊎_elim (λ (two : k ≡ 2). subst P (sym (ap (λ n. get_or (closed_half half) n 0) two ∙ second_byte half size e)) closed)
    (λ (ne : k ≢ 2). subst P (sym (other_byte half k ne)) (each k))
    (cases_eq k 2))
    (tested half)

pub size_of_closed : (half : List ℕ) → length (closed_half half) ≡ length half
size_of_closed half =
    ⊎_elim (λ (e : is_zero half ≡ true). ap length (closed_as_is half e))
    (λ (e : is_zero half ≡ false). ap length (closed_set half e) ∙ length-set half 2 (closed_byte (get_or half 2 0)))
    (tested half)

-- a bit outside byte 2
other_bit : (half : List ℕ) (n : ℕ) → n / 8 ≢ 2 → bit (closed_half half) n ≡ bit half n
other_bit half n ne = ap (λ byte. bit_at byte (7 - n % 8)) (other_byte half (n / 8) ne)

same_form : (half : List ℕ) → form_of (closed_half half) ≡ form_of half
same_form half = ap (λ byte. 4 * bit_at byte 7 + 2 * bit_at byte 6 + bit_at byte 5) (other_byte half 5 (omega arith))

pub zero_test : (half : List ℕ) → IsZero half → is_zero half ≡ true
zero_test half z = (is_zero-Decides half).1 z

anti_closed : (half : List ℕ) → IsAntiVariant half → IsAntiVariant (closed_half half)
anti_closed half (inl zeros) = subst IsAntiVariant (sym (closed_as_is half (zero_test half zeros))) (inl zeros)
anti_closed half (inr bits) = inr (other_bit half 30 (omega arith) ∙ bits.0, other_bit half 38 (omega arith) ∙ bits.1)

closed_is_half : (half : List ℕ) → IsHalf half → IsHalf (closed_half half)
closed_is_half half h = record {
  size = size_of_closed half ∙ h.size;
  bytes = each_of (λ b. b < 256) half h.size h.bytes (closed_fits (get_or half 2 0) (h.bytes 2));
  even = each_of IsEven half h.size h.even (closed_even (get_or half 2 0) (h.bytes 2));
  anti = anti_closed half h.anti;
}

-- ---- two halves

pub not_zero : (half : List ℕ) → length half ≡ 8 → form_of half ≢ 0 → is_zero half ≡ false
not_zero half size ne =
    ⊎_elim (λ (e : is_zero half ≡ true).
    absurd (ne (ap form_of (zeros_of 8 half size ((is_zero-Decides half).0 e)))))
    (λ (e : is_zero half ≡ false). e)
    (tested half)

-- the right half of a form belongs to the left half after both are closed, too
right_closed : (form : ℕ) (left right : List ℕ) → IsHalf left → IsHalf right → form ≢ 0 → form_of left ≢ 0 → IsRightHalfFor form left right
    → closed_half right ≡ right_half_for form (closed_half left)
right_closed form left right l r some counted h =
    closed_set right (not_zero right r.size (λ z. some (sym h.form ∙ z)))
    ∙ (ap (λ half. set half 2 (closed_byte (get_or half 2 0))) is
    ∙ (ap (λ b. set (set left 5 made) 2 (closed_byte b)) (get_or-set_other left 5 2 made 0 (omega arith))
    ∙ (set_comm left 5 2 made y (omega arith)
    ∙ (ap (λ b. set (set left 2 y) 5 (even_byte (32 * form + b % 32))) (sym (get_or-set_other left 2 5 y 0 (omega arith)))
    ∙ ap (right_half_for form) (sym (closed_set left (not_zero left l.size counted)))))))
  where
    made : ℕ
    made = even_byte (32 * form + get_or left 5 0 % 32)

    y : ℕ
    y = closed_byte (get_or left 2 0)

    is : right ≡ right_half_for form left
    is = right_half_is form left right l.size r.size l.bytes r.bytes h

belongs : (form : ℕ) (left right : List ℕ) → IsHalf left → IsHalf right → form < 8 → form ≢ 0 → form_of left ≢ 0 → IsRightHalfFor form left right
    → IsRightHalfFor form (closed_half left) (closed_half right)
belongs form left right l r three some counted h =
    is_right_half form (closed_half left) (closed_half right) three (size_of_closed left ∙ l.size) (closed_is_half left l).bytes
    (right_closed form left right l r some counted h)

form_closed : (left right : List ℕ) → IsHalf left → IsHalf right → HasKeyForm left right → HasKeyForm (closed_half left) (closed_half right)
form_closed left right l r (inl (single, zeros)) =
    inl (same_form left ∙ single, subst IsZero (sym (closed_as_is right (zero_test right zeros))) zeros)
form_closed left right l r (inr (inl (double, h))) =
    inr (inl (same_form left ∙ double, belongs right_of_double left right l r (omega arith) (omega arith) (λ z. omega (arith, double, z)) h))
form_closed left right l r (inr (inr (unique, h))) =
    inr (inr (same_form left ∙ unique, belongs right_of_unique left right l r (omega arith) (omega arith) (λ z. omega (arith, unique, z)) h))

-- ---- the vector

pub all_from : (P : ℕ → Type 0) (xs : List ℕ) → ((k : ℕ) → P (get_or xs k 0)) → All P xs
all_from P xs each k d within = subst P (get_or_default xs k 0 d within) (each k)

pub closed_zero_valid : IsValid closed_zero
unfolding ones
closed_zero_valid = valid_by_tests 8 closed_zero (record { none = refl; whole = refl; bytes = refl; key = refl })

module _ (vector : List ℕ) (valid : IsValid vector) where
  each_even : (k : ℕ) → IsEven (get_or vector k 0)
  each_even k =
      ⊎_elim (λ (within : k < length vector). valid.even k 0 within)
      (λ (past : length vector ≤ k). subst IsEven (sym (get_or_past vector k 0 past)) zero_even)
      (cases_lt k (length vector))

  each_byte : AreBytes vector
  each_byte k =
      ⊎_elim (λ (within : k < length vector). valid.bytes k 0 within)
      (λ (past : length vector ≤ k). subst (λ b. b < 256) (sym (get_or_past vector k 0 past)) (omega arith))
      (cases_lt k (length vector))

  even_in_front : (n : ℕ) (xs : List ℕ) → ((k : ℕ) → IsEven (get_or xs k 0)) → (k : ℕ) → IsEven (get_or (take n xs) k 0)
  even_in_front n xs each k =
      ⊎_elim (λ (within : k < n). rw get_or-take (each k))
      (λ (past : n ≤ k). subst IsEven (sym (get_or_past (take n xs) k 0 (simp length-take (omega arith)))) zero_even)
      (cases_lt k n)

  even_behind : (k : ℕ) → IsEven (get_or (drop 8 vector) k 0)
  even_behind k = rw get_or-drop (each_even (8 + k))

  pub left_half : IsHalf (left_of vector)
  left_half = record {
    size = simp length-take (omega (arith, valid.whole));
    bytes = bytes_taken 8 vector each_byte;
    even = even_in_front 8 vector each_even;
    anti = valid.left;
  }

  pub right_half : IsHalf (right_of vector)
  right_half = record {
    size = simp (length-take, length-drop) (omega (arith, valid.whole));
    bytes = bytes_taken 8 (drop 8 vector) (bytes_dropped 8 vector each_byte);
    even = even_in_front 8 (drop 8 vector) even_behind;
    anti = valid.right;
  }

  abbrev pub closed : List ℕ
  closed = closed_half (left_of vector) ++ closed_half (right_of vector)

  closed_left : IsHalf (closed_half (left_of vector))
  closed_left = closed_is_half (left_of vector) left_half

  closed_right : IsHalf (closed_half (right_of vector))
  closed_right = closed_is_half (right_of vector) right_half

  pub left_is : left_of closed ≡ closed_half (left_of vector)
  left_is = take_at (closed_half (left_of vector)) (closed_half (right_of vector)) 8 closed_left.size

  pub right_is : right_of closed ≡ closed_half (right_of vector)
  right_is =
      ap (take 8) (drop_at (closed_half (left_of vector)) (closed_half (right_of vector)) 8 closed_left.size)
      ∙ take_all 8 (closed_half (right_of vector)) (omega (arith, closed_right.size))

  closed_valid : IsValid closed
  closed_valid = record {
    whole = length-append (closed_half (left_of vector)) (closed_half (right_of vector)) ∙ omega (arith, closed_left.size, closed_right.size);
    bytes =
        All-append (λ b. b < 256) (closed_half (left_of vector)) (closed_half (right_of vector))
        (all_from (λ b. b < 256) (closed_half (left_of vector)) closed_left.bytes)
        (all_from (λ b. b < 256) (closed_half (right_of vector)) closed_right.bytes);
    even =
        All-append IsEven (closed_half (left_of vector)) (closed_half (right_of vector))
        (all_from IsEven (closed_half (left_of vector)) closed_left.even)
        (all_from IsEven (closed_half (right_of vector)) closed_right.even);
    left = subst IsAntiVariant (sym left_is) closed_left.anti;
    right = subst IsAntiVariant (sym right_is) closed_right.anti;
    form =
        subst (λ l. HasKeyForm l (right_of closed)) (sym left_is)
        (subst (HasKeyForm (closed_half (left_of vector))) (sym right_is)
        (form_closed (left_of vector) (right_of vector) left_half right_half valid.form));
  }

  closed_length : length_of closed ≡ length_of vector
  closed_length = ap (λ form. if eqb form single_length then 8 else 16) (ap form_of left_is ∙ same_form (left_of vector))

  -- a vector that may be exported and isn't zero has a left half that isn't zero
  pub left_counts : is_exportable vector ≡ true → is_zero vector ≡ false → is_zero (left_of vector) ≡ false
  left_counts ex z =
      ⊎_elim (λ (e : is_zero (left_of vector) ≡ true).
      let blank : left_of vector ≡ replicate 8 0 = zeros_of 8 (left_of vector) left_half.size ((is_zero-Decides (left_of vector)).0 e) in
      let off : is_exportable vector ≡ false = ap (λ t. t || eqb (bit (left_of vector) 17) 1) z ∙ ap (λ half. eqb (bit half 17) 1) blank in
      cc)
      (λ (e : is_zero (left_of vector) ≡ false). e)
      (tested (left_of vector))

  counts : (half : List ℕ) → IsAntiVariant half → is_zero half ≡ false → bit half 38 ≡ 1
  counts half (inl zeros) e = let test : is_zero half ≡ true = zero_test half zeros in cc
  counts half (inr bits) e = bits.1

  off_in_closed : is_exportable vector ≡ true → is_zero vector ≡ false → is_exportable closed ≡ false
  off_in_closed ex z =
      ap (λ t. t || eqb (bit (left_of closed) 17) 1) some
      ∙ (ap (λ half. eqb (bit half 17) 1) left_is ∙ ap (λ b. eqb b 1) seventeen)
    where
      counted : is_zero (left_of vector) ≡ false
      counted = left_counts ex z

      seventeen : bit (closed_half (left_of vector)) 17 ≡ 0
      seventeen = ap (λ byte. bit_at byte 6) (second_byte (left_of vector) left_half.size counted) ∙ closed_bit (get_or (left_of vector) 2 0)

      on : bit (left_of closed) 38 ≡ 1
      on = ap (λ half. bit half 38) left_is ∙ (other_bit (left_of vector) 38 (omega arith) ∙ counts (left_of vector) valid.left counted)

      some : is_zero closed ≡ false
      some =
          ⊎_elim (λ (e : is_zero closed ≡ true).
          let blank : closed ≡ replicate 16 0 = zeros_of 16 closed closed_valid.whole ((is_zero-Decides closed).0 e) in
          let off : bit (left_of closed) 38 ≡ 0 = ap (λ v. bit (left_of v) 38) blank in
          absurd (omega (arith, on, off)))
          (λ (e : is_zero closed ≡ false). e)
          (tested closed)

  by_tests : (P : List ℕ → Type 0) (ex z : Bool) → is_exportable vector ≡ ex → is_zero vector ≡ z
      → (is_zero vector ≡ true → P closed_zero) → (is_exportable vector ≡ true → is_zero vector ≡ false → P closed) → (is_exportable vector ≡ false → P vector)
      → P (if ex then (if z then closed_zero else closed) else vector)
  by_tests P true true e f blank some none = blank f
  by_tests P true false e f blank some none = some e f
  by_tests P false z e f blank some none = none e

  abbrev by_case : (P : List ℕ → Type 0) → (is_zero vector ≡ true → P closed_zero) → (is_exportable vector ≡ true → is_zero vector ≡ false → P closed)
      → (is_exportable vector ≡ false → P vector) → P (closed_to_export vector)
  by_case P = by_tests P (is_exportable vector) (is_zero vector) refl refl

  zero_length : is_zero vector ≡ true → 8 ≡ length_of vector
  zero_length e = ap length_of (sym (zeros_of 16 vector valid.whole ((is_zero-Decides vector).0 e)))

  -- the vector with its export bit off is valid, that of a key of the same length, and forbids export
  pub closing_valid : IsValid (closed_to_export vector)
  closing_valid = by_case IsValid (λ _. closed_zero_valid) (λ _ _. closed_valid) (λ _. valid)

  pub closing_length : length_of (closed_to_export vector) ≡ length_of vector
  closing_length = by_case (λ v. length_of v ≡ length_of vector) zero_length (λ _ _. closed_length) (λ _. refl)

  pub closing_off : is_exportable (closed_to_export vector) ≡ false
  closing_off = by_case (λ v. is_exportable v ≡ false) (λ _. refl) off_in_closed (λ off. off)

closed_if : (ex z : Bool) (vector blank halves : List ℕ) → true ≡ ex → false ≡ z → halves ≡ (if ex then (if z then blank else halves) else vector)
closed_if true true vector blank halves e f = cc
closed_if true false vector blank halves e f = refl
closed_if false z vector blank halves e f = cc

-- a vector that may be exported and isn't zero, with both halves closed
pub closed_by_halves : (vector : List ℕ) → true ≡ is_exportable vector → false ≡ is_zero vector
    → closed_half (left_of vector) ++ closed_half (right_of vector) ≡ closed_to_export vector
closed_by_halves vector =
    closed_if (is_exportable vector) (is_zero vector) vector closed_zero (closed_half (left_of vector) ++ closed_half (right_of vector))
