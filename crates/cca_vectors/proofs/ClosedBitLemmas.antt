-- Which bits change where a vector is made one that forbids export.
use Rattle.std.proofs.Common.{◌≡◌, ◌≢◌, ◌⊎◌, ℕ, ◌+◌, ◌-◌, ◌*◌, ◌/◌, ◌%◌, ◌<◌, Bool, true, false, ◌||◌, List, length, get_or, eqb, refl, sym, ap, ◌∙◌, subst, inl, inr, ⊎_elim, arith}
use Rattle.std.specs.Prelude.{count_ones, if◌then◌else◌}
use Rattle.std.specs.Int.{bit_at}
use Rattle.std.proofs.lemmas.Bool.{cases_eq, cases_Bool}
use Rattle.key_cells.specs.Bytes.{is_zero, IsZero}
use Rattle.key_cells.proofs.ByteLemmas.{is_zero-Decides, zeros_of}
use Rattle.cca_vectors.specs.Bits.{bit}
use Rattle.cca_vectors.specs.ClosedBits.{HasClosed}
use Rattle.cca_vectors.specs.Closing.{closed_byte, closed_half, closed_to_export, closed_zero}
use Rattle.cca_vectors.specs.Permissions.{is_exportable}
use Rattle.cca_vectors.specs.Vectors.{left_of, right_of, right_of_double, right_of_unique, IsEven, IsRightHalfFor, HasKeyForm, IsValid}
use Rattle.cca_vectors.proofs.ClosingLemmas.{closed_bit, closed_as_is, other_byte, second_byte, left_half, right_half, left_is, right_is, left_counts, closed, closing_valid}

-- ---- one byte

bit_seven : (byte last : ℕ) → last < 2 → ((byte - 64 * (byte / 64 % 2)) / 2 * 2 + last) / 128 % 2 ≡ byte / 128 % 2
bit_seven byte last small = omega arith

bit_five : (byte last : ℕ) → last < 2 → ((byte - 64 * (byte / 64 % 2)) / 2 * 2 + last) / 32 % 2 ≡ byte / 32 % 2
bit_five byte last small = omega arith

bit_four : (byte last : ℕ) → last < 2 → ((byte - 64 * (byte / 64 % 2)) / 2 * 2 + last) / 16 % 2 ≡ byte / 16 % 2
bit_four byte last small = omega arith

bit_three : (byte last : ℕ) → last < 2 → ((byte - 64 * (byte / 64 % 2)) / 2 * 2 + last) / 8 % 2 ≡ byte / 8 % 2
bit_three byte last small = omega arith

bit_two : (byte last : ℕ) → last < 2 → ((byte - 64 * (byte / 64 % 2)) / 2 * 2 + last) / 4 % 2 ≡ byte / 4 % 2
bit_two byte last small = omega arith

bit_one : (byte last : ℕ) → last < 2 → ((byte - 64 * (byte / 64 % 2)) / 2 * 2 + last) / 2 % 2 ≡ byte / 2 % 2
bit_one byte last small = omega arith

abbrev Stays : ℕ → ℕ → Type 0
Stays byte p = bit_at (closed_byte byte) p ≡ bit_at byte p

-- every bit of the byte but its second and its last
closed_others : (byte p : ℕ) → p < 8 → p ≢ 6 → p ≢ 0 → Stays byte p
closed_others byte p below other last =
    let ones : ℕ = count_ones ((byte - 64 * (byte / 64 % 2)) / 2) % 2 in
    let small : ones < 2 = omega arith in
    ⊎_elim (λ (e : p ≡ 7). subst (Stays byte) (sym e) (bit_seven byte ones small)) (λ (n7 : p ≢ 7).
    ⊎_elim (λ (e : p ≡ 5). subst (Stays byte) (sym e) (bit_five byte ones small)) (λ (n5 : p ≢ 5).
    ⊎_elim (λ (e : p ≡ 4). subst (Stays byte) (sym e) (bit_four byte ones small)) (λ (n4 : p ≢ 4).
    ⊎_elim (λ (e : p ≡ 3). subst (Stays byte) (sym e) (bit_three byte ones small)) (λ (n3 : p ≢ 3).
    ⊎_elim (λ (e : p ≡ 2). subst (Stays byte) (sym e) (bit_two byte ones small)) (λ (n2 : p ≢ 2).
    let e : 1 ≡ p = omega arith in subst (Stays byte) e (bit_one byte ones small))
    (cases_eq p 2)) (cases_eq p 3)) (cases_eq p 4)) (cases_eq p 5)) (cases_eq p 7)

-- ---- one half

half_bits : (half : List ℕ) → length half ≡ 8 → is_zero half ≡ false → (n : ℕ) → n < 64 → n ≢ 17 → n ≢ 23 → bit (closed_half half) n ≡ bit half n
half_bits half size counts n within other last = ⊎_elim
    (λ (two : n / 8 ≡ 2).
    let p : ℕ = 7 - n % 8 in
    ap (λ k. bit_at (get_or (closed_half half) k 0) p) two
    ∙ ap (λ byte. bit_at byte p) (second_byte half size counts)
    ∙ closed_others (get_or half 2 0) p (omega arith) (λ e. omega arith) (λ e. omega arith)
    ∙ sym (ap (λ k. bit_at (get_or half k 0) p) two))
    (λ (ne : n / 8 ≢ 2). ap (λ byte. bit_at byte (7 - n % 8)) (other_byte half (n / 8) ne))
    (cases_eq (n / 8) 2)

half_closed : (half : List ℕ) → length half ≡ 8 → is_zero half ≡ false → IsEven (get_or (closed_half half) 2 0) → HasClosed half (closed_half half)
half_closed half size counts even = record {
  off = ap (λ byte. bit_at byte 6) (second_byte half size counts) ∙ closed_bit (get_or half 2 0);
  even = even;
  others = half_bits half size counts;
}

-- a half that is as it was, and forbids export
half_same : (half : List ℕ) → bit half 17 ≡ 0 → IsEven (get_or half 2 0) → HasClosed half half
half_same half off even = record { off = off; even = even; others = λ n within other last. refl }

zero_bit : (half : List ℕ) → length half ≡ 8 → IsZero half → bit half 17 ≡ 0
zero_bit half size zeros = ap (λ h. bit h 17) (zeros_of 8 half size zeros)

-- ---- the vector

or_off : (a b : Bool) → (a || b) ≡ false → b ≡ false
or_off true b is = cc is
or_off false b is = is

not_one : (b : ℕ) → b < 2 → eqb b 1 ≡ false → b ≡ 0
not_one b small is = ⊎_elim
    (λ (one : b ≡ 1). let wrong : eqb b 1 ≡ true = ap (λ x. eqb x 1) one in cc)
    (λ (other : b ≢ 1). omega arith)
    (cases_eq b 1)

closed_as : (ex z : Bool) (vector blank halves : List ℕ) → ex ≡ true → z ≡ false → (if ex then (if z then blank else halves) else vector) ≡ halves
closed_as true false vector blank halves e f = refl
closed_as true true vector blank halves e f = cc f
closed_as false z vector blank halves e f = cc e

stays_as : (ex : Bool) (vector other : List ℕ) → ex ≡ false → (if ex then other else vector) ≡ vector
stays_as true vector other e = cc e
stays_as false vector other e = refl

module _ (vector : List ℕ) (valid : IsValid vector) (some : is_zero vector ≡ false) where
  abbrev Both : List ℕ → Type 0
  Both new = HasClosed (left_of vector) (left_of new) × HasClosed (right_of vector) (right_of new)

  same_bit : (form : ℕ) → IsRightHalfFor form (left_of vector) (right_of vector) → bit (right_of vector) 17 ≡ bit (left_of vector) 17
  same_bit form right = right.others 17 (omega arith) (λ e. omega arith) (λ e. omega arith) (λ e. omega arith) (λ e. omega arith)

  -- the export bit of the right half is that of the left one, or off
  right_bit : bit (left_of vector) 17 ≡ 0 → HasKeyForm (left_of vector) (right_of vector) → bit (right_of vector) 17 ≡ 0
  right_bit off (inl (form, zeros)) = zero_bit (right_of vector) (right_half vector valid).size zeros
  right_bit off (inr (inl (double, right))) = same_bit right_of_double right ∙ off
  right_bit off (inr (inr (unique, right))) = same_bit right_of_unique right ∙ off

  as_it_was : is_exportable vector ≡ false → Both vector
  as_it_was none =
      let small : bit (left_of vector) 17 < 2 = omega arith in
      let off : bit (left_of vector) 17 ≡ 0 = not_one (bit (left_of vector) 17) small (or_off (is_zero vector) (eqb (bit (left_of vector) 17) 1) none) in
      (half_same (left_of vector) off ((left_half vector valid).even 2), half_same (right_of vector) (right_bit off valid.form) ((right_half vector valid).even 2))

  new_valid : is_exportable vector ≡ true → IsValid (closed vector valid)
  new_valid ex = subst IsValid (closed_as (is_exportable vector) (is_zero vector) vector closed_zero (closed vector valid) ex some) (closing_valid vector valid)

  by_halves : is_exportable vector ≡ true → Both (closed vector valid)
  by_halves ex = (
    subst (HasClosed (left_of vector)) (sym (left_is vector valid))
        (half_closed (left_of vector) (left_half vector valid).size (left_counts vector valid ex some)
        (subst (λ h. IsEven (get_or h 2 0)) (left_is vector valid) ((left_half (closed vector valid) (new_valid ex)).even 2))),
    subst (HasClosed (right_of vector)) (sym (right_is vector valid)) (by_right (cases_Bool (is_zero (right_of vector)))),
  )
    where
      even : IsEven (get_or (closed_half (right_of vector)) 2 0)
      even = subst (λ h. IsEven (get_or h 2 0)) (right_is vector valid) ((right_half (closed vector valid) (new_valid ex)).even 2)

      by_right : (is_zero (right_of vector) ≡ true) ⊎ (is_zero (right_of vector) ≡ false) → HasClosed (right_of vector) (closed_half (right_of vector))
      by_right (inl zeros) = subst (HasClosed (right_of vector)) (sym (closed_as_is (right_of vector) zeros))
          (half_same (right_of vector) (zero_bit (right_of vector) (right_half vector valid).size ((is_zero-Decides (right_of vector)).0 zeros)) ((right_half vector valid).even 2))
      by_right (inr counts) = half_closed (right_of vector) (right_half vector valid).size counts even

  pub halves_closed : Both (closed_to_export vector)
  halves_closed = ⊎_elim
      (λ (ex : is_exportable vector ≡ true). subst Both (sym (closed_as (is_exportable vector) (is_zero vector) vector closed_zero (closed vector valid) ex some)) (by_halves ex))
      (λ (none : is_exportable vector ≡ false). subst Both (sym (stays_as (is_exportable vector) vector (if is_zero vector then closed_zero else closed vector valid) none)) (as_it_was none))
      (cases_Bool (is_exportable vector))
