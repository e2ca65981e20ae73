-- A vector breaks no rule exactly where it is valid.
use Rattle.std.proofs.Common.{◌≡◌, ◌≢◌, ◌⊎◌, ◌↔◌, ℕ, ◌+◌, ◌-◌, ◌*◌, ◌/◌, ◌%◌, ◌<◌, ◌≤◌, Bool, true, false, not, ◌&&◌, ◌||◌, List, [], ◌∷◌, None, length, get_or, take, drop, eqb, refl, sym, ap, ◌∙◌, subst, inl, inr, ⊎_elim, arith}
use Rattle.std.specs.Prelude.{count_ones}
use Rattle.std.specs.Int.{bit_at}
use Rattle.std.specs.List.{All}
use Rattle.std.specs.Bool.{Decides}
use Rattle.std.specs.Str.{bytes_eq}
use Rattle.std.proofs.lemmas.Bool.{cases_eq, cases_lt, agree_below_at, eqb-true, eq-eqb}
use Rattle.std.proofs.lemmas.Bool.Decides.{Decides-eqb, Decides-by_and, Decides-and, Decides-or, Decides-like}
use Rattle.std.proofs.lemmas.Nat.Bits.{same_from_bits_below}
use Rattle.std.proofs.lemmas.Slice.Eq.{bytes_eq-Decides}
use Rattle.std.proofs.lemmas.List.{get_or-set_same, get_or-set_other, length-set, ext_get_or, length-take, length-drop, get_or-take, get_or-drop, get_or_past, get_or_default}
use Rattle.key_cells.specs.Bytes.{is_zero}
use Rattle.key_cells.proofs.ByteLemmas.{is_zero-Decides}
use Rattle.cca_vectors.specs.Bits.{bit, even_byte}
use Rattle.cca_vectors.specs.Checks.{check, first_failing}
use Rattle.cca_vectors.specs.Vectors.{left_of, right_of, form_of, single_length, left_of_double, right_of_double, left_of_unique, right_of_unique, IsEven, IsAntiVariant, IsRightHalfFor, HasKeyForm, IsValid}
use Rattle.cca_vectors.specs.VectorChecks.{is_even, is_anti_variant, right_half_for, has_form, vector_checks}

-- ---- one byte

-- a byte with an even number of ones is the one that its first seven bits make
pub even_byte_is : (byte : ℕ) → byte < 256 → IsEven byte → byte ≡ even_byte byte
unfolding lib.Count.ones
even_byte_is byte fits even =
    let agree : eqb (count_ones byte % 2) 0 ≡ eqb byte (even_byte byte) =
    agree_below_at (λ b. eqb (count_ones b % 2) 0) (λ b. eqb b (even_byte b)) 256 byte refl fits in
    eqb-true byte (even_byte byte) (sym agree ∙ eq-eqb (count_ones byte % 2) 0 even)

pub even_byte_even : (byte : ℕ) → byte < 256 → IsEven (even_byte byte)
unfolding lib.Count.ones
even_byte_even byte fits =
    eqb-true (count_ones (even_byte byte) % 2) 0
    (agree_below_at (λ b. eqb (count_ones (even_byte b) % 2) 0) (λ b. true) 256 byte refl fits)

-- ---- the tests and the facts

pub is_even-Decides : (bytes : List ℕ) → Decides (is_even bytes) (All IsEven bytes)
is_even-Decides =
    Decides-by_and (λ b. eqb (count_ones b % 2) 0) IsEven is_even (λ b. Decides-eqb (count_ones b % 2) 0) refl (λ _ _. refl)

pub is_anti_variant-Decides : (half : List ℕ) → Decides (is_anti_variant half) (IsAntiVariant half)
is_anti_variant-Decides half =
    Decides-or (is_zero half) (eqb (bit half 30) 0 && eqb (bit half 38) 1) (is_zero-Decides half)
    (Decides-and (eqb (bit half 30) 0) (eqb (bit half 38) 1) (Decides-eqb (bit half 30) 0) (Decides-eqb (bit half 38) 1))

-- ---- the right half

-- each byte of a half
abbrev pub AreBytes : List ℕ → Type 0
AreBytes bytes = (k : ℕ) → get_or bytes k 0 < 256

-- bit j of byte i, counted from the least significant one
bit_in : (bytes : List ℕ) (i j : ℕ) → j < 8 → bit bytes (8 * i + (7 - j)) ≡ bit_at (get_or bytes i 0) j
bit_in bytes i j within =
    let byte : (8 * i + (7 - j)) / 8 ≡ i = omega arith in
    let place : 7 - (8 * i + (7 - j)) % 8 ≡ j = omega arith in
    rw (byte, place) refl

-- a byte that begins with a form and goes on as the last five bits of another, but for the last bit
first_seven : (form left right : ℕ) → left < 256 → right < 256
    → 4 * (right / 128 % 2) + 2 * (right / 64 % 2) + right / 32 % 2 ≡ form
    → right / 16 % 2 ≡ left / 16 % 2 → right / 8 % 2 ≡ left / 8 % 2 → right / 4 % 2 ≡ left / 4 % 2 → right / 2 % 2 ≡ left / 2 % 2
    → right / 2 ≡ (32 * form + left % 32) / 2
first_seven form left right left_fits right_fits is b43 b44 b45 b46 = omega arith

pub right_half_is : (form : ℕ) (left right : List ℕ) → length left ≡ 8 → length right ≡ 8 → AreBytes left → AreBytes right
    → IsRightHalfFor form left right → right ≡ right_half_for form left
right_half_is form left right long_left long_right left_fits right_fits h =
    ext_get_or 0 right (right_half_for form left) same_length each
  where
    made : ℕ
    made = even_byte (32 * form + get_or left 5 0 % 32)

    same_length : length right ≡ length (right_half_for form left)
    same_length = long_right ∙ sym long_left ∙ sym (length-set left 5 made)

    fifth : get_or right 5 0 ≡ made
    fifth =
        let seven : get_or right 5 0 / 2 ≡ (32 * form + get_or left 5 0 % 32) / 2 =
        first_seven form (get_or left 5 0) (get_or right 5 0) (left_fits 5) (right_fits 5) h.form
        (h.others 43 (omega arith) (omega arith) (omega arith) (omega arith) (omega arith))
        (h.others 44 (omega arith) (omega arith) (omega arith) (omega arith) (omega arith))
        (h.others 45 (omega arith) (omega arith) (omega arith) (omega arith) (omega arith))
        (h.others 46 (omega arith) (omega arith) (omega arith) (omega arith) (omega arith)) in
        even_byte_is (get_or right 5 0) (right_fits 5) h.even ∙ ap (λ half. half * 2 + count_ones half % 2) seven

    other : (i : ℕ) → i < 8 → i ≢ 5 → get_or right i 0 ≡ get_or left i 0
    other i within ne =
        same_from_bits_below 8 (get_or right i 0) (get_or left i 0) (right_fits i) (left_fits i)
        (λ j inside. sym (bit_in right i j inside)
        ∙ h.others (8 * i + (7 - j)) (omega arith) (omega arith) (omega arith) (omega arith) (omega arith)
        ∙ bit_in left i j inside)

    each : (i : ℕ) → i < length right → get_or right i 0 ≡ get_or (right_half_for form left) i 0
    each i within =
        let inside : i < 8 = omega arith in
        ⊎_elim (λ same. rw same (fifth ∙ sym (get_or-set_same left 5 made 0 (omega arith))))
        (λ ne. other i inside ne ∙ sym (get_or-set_other left 5 i made 0 ne))
        (cases_eq i 5)

in_four : (j : ℕ) → 0 < j → j < 5 → (j ≡ 1) ⊎ ((j ≡ 2) ⊎ ((j ≡ 3) ⊎ (j ≡ 4)))
in_four j low high =
    ⊎_elim (λ (e : j ≡ 1). inl e)
    (λ (n1 : j ≢ 1). inr (⊎_elim (λ (e : j ≡ 2). inl e)
    (λ (n2 : j ≢ 2). inr (⊎_elim (λ (e : j ≡ 3). inl e) (λ (n3 : j ≢ 3). inr (omega arith)) (cases_eq j 3)))
    (cases_eq j 2)))
    (cases_eq j 1)

-- a byte that begins with a form has the form
form_made : (form rest last : ℕ) → form < 8 → rest < 32 → last < 2
    → 4 * (((32 * form + rest) / 2 * 2 + last) / 128 % 2) + 2 * (((32 * form + rest) / 2 * 2 + last) / 64 % 2) + ((32 * form + rest) / 2 * 2 + last) / 32 % 2 ≡ form
form_made form rest last three five one = omega arith

pub is_right_half : (form : ℕ) (left right : List ℕ) → form < 8 → length left ≡ 8 → AreBytes left → right ≡ right_half_for form left → IsRightHalfFor form left right
is_right_half form left right three long_left left_fits e = record {
  form = rw fifth (form_made form (get_or left 5 0 % 32) (count_ones ((32 * form + get_or left 5 0 % 32) / 2) % 2) three (omega arith) (omega arith));
  even = rw fifth (even_byte_even (32 * form + get_or left 5 0 % 32) (omega arith));
  others = same;
}
  where
    made : ℕ
    made = even_byte (32 * form + get_or left 5 0 % 32)

    fifth : get_or right 5 0 ≡ made
    fifth = ap (λ half. get_or half 5 0) e ∙ get_or-set_same left 5 made 0 (omega arith)

    inside : (j : ℕ) → 0 < j → j < 5 → bit_at (get_or right 5 0) j ≡ bit_at (get_or left 5 0) j
    inside j low high = rw fifth
        (elim (in_four j low high) [
          | inl e ↦ rw e (omega arith)
          | inr (inl e) ↦ rw e (omega arith)
          | inr (inr (inl e)) ↦ rw e (omega arith)
          | inr (inr (inr e)) ↦ rw e (omega arith)
        ])

    same : (n : ℕ) → n < 64 → n ≢ 40 → n ≢ 41 → n ≢ 42 → n ≢ 47 → bit right n ≡ bit left n
    same n within n40 n41 n42 n47 =
        ⊎_elim (λ (five : n / 8 ≡ 5). rw five (inside (7 - n % 8) (omega arith) (omega arith)))
        (λ (ne : n / 8 ≢ 5). ap (λ byte. bit_at byte (7 - n % 8))
        (ap (λ half. get_or half (n / 8) 0) e ∙ get_or-set_other left 5 (n / 8) made 0 ne))
        (cases_eq (n / 8) 5)

last_two : {A B C : Type 0} → (A ⊎ B) ⊎ C → A ⊎ (B ⊎ C)
last_two (inl (inl a)) = inl a
last_two (inl (inr b)) = inr (inl b)
last_two (inr c) = inr (inr c)

first_two : {A B C : Type 0} → A ⊎ (B ⊎ C) → (A ⊎ B) ⊎ C
first_two (inl a) = inl (inl a)
first_two (inr (inl b)) = inl (inr b)
first_two (inr (inr c)) = inr c

-- the left half has this form, and the right half is the one of the other form that belongs to it
is_doubled-Decides : (of_left of_right : ℕ) (left right : List ℕ) → of_right < 8 → length left ≡ 8 → length right ≡ 8 → AreBytes left → AreBytes right
    → Decides (eqb (form_of left) of_left && bytes_eq right (right_half_for of_right left)) ((form_of left ≡ of_left) × IsRightHalfFor of_right left right)
is_doubled-Decides of_left of_right left right three long_left long_right left_fits right_fits =
    Decides-and (eqb (form_of left) of_left) (bytes_eq right (right_half_for of_right left)) (Decides-eqb (form_of left) of_left)
    (Decides-like (bytes_eq right (right_half_for of_right left)) (is_right_half of_right left right three long_left left_fits)
    (right_half_is of_right left right long_left long_right left_fits right_fits)
    (bytes_eq-Decides right (right_half_for of_right left)))

pub has_form-Decides : (left right : List ℕ) → length left ≡ 8 → length right ≡ 8 → AreBytes left → AreBytes right → Decides (has_form left right) (HasKeyForm left right)
has_form-Decides left right long_left long_right left_fits right_fits =
    Decides-like (single || double || unique) last_two first_two
    (Decides-or (single || double) unique
    (Decides-or single double
    (Decides-and (eqb (form_of left) single_length) (is_zero right) (Decides-eqb (form_of left) single_length) (is_zero-Decides right))
    (is_doubled-Decides left_of_double right_of_double left right (omega arith) long_left long_right left_fits right_fits))
    (is_doubled-Decides left_of_unique right_of_unique left right (omega arith) long_left long_right left_fits right_fits))
  where
    single : Bool
    single = eqb (form_of left) single_length && is_zero right

    double : Bool
    double = eqb (form_of left) left_of_double && bytes_eq right (right_half_for right_of_double left)

    unique : Bool
    unique = eqb (form_of left) left_of_unique && bytes_eq right (right_half_for right_of_unique left)

-- ---- the whole vector

-- three rules in order, none of which is broken
none_of_three : (first second third : Bool)
    → (first_failing (check 14 (not first) ∷ check 15 (not second) ∷ check 16 (not third) ∷ []) ≡ None)
    ↔ (first && second && third ≡ true)
none_of_three true true true = (λ _. refl, λ _. refl)
none_of_three true true false = (λ h. cc, λ h. cc)
none_of_three true false third = (λ h. cc, λ h. cc)
none_of_three false second third = (λ h. cc, λ h. cc)

-- what a byte array gives: each of its numbers is a byte
all_bytes : (vector : List ℕ) → AreBytes vector → All (λ byte. byte < 256) vector
all_bytes vector fits k d within = subst (λ byte. byte < 256) (get_or_default vector k 0 d within) (fits k)

pub bytes_taken : (n : ℕ) (bytes : List ℕ) → AreBytes bytes → AreBytes (take n bytes)
bytes_taken n bytes fits k =
    ⊎_elim (λ (within : k < n). rw get_or-take (fits k))
    (λ (past : n ≤ k). rw (get_or_past (take n bytes) k 0 (simp length-take (omega arith))) (omega arith))
    (cases_lt k n)

pub bytes_dropped : (n : ℕ) (bytes : List ℕ) → AreBytes bytes → AreBytes (drop n bytes)
bytes_dropped n bytes fits k = rw get_or-drop (fits (n + k))

module _ (vector : List ℕ) (whole : length vector ≡ 16) (fits : AreBytes vector) where
  decides_form : Decides (has_form (left_of vector) (right_of vector)) (HasKeyForm (left_of vector) (right_of vector))
  decides_form =
      has_form-Decides (left_of vector) (right_of vector) (simp (length-take, length-drop) (omega arith)) (simp (length-take, length-drop) (omega arith))
      (bytes_taken 8 vector fits) (bytes_taken 8 (drop 8 vector) (bytes_dropped 8 vector fits))

  decides_all : Decides (is_even vector && (is_anti_variant (left_of vector) && is_anti_variant (right_of vector)) && has_form (left_of vector) (right_of vector))
      ((All IsEven vector × (IsAntiVariant (left_of vector) × IsAntiVariant (right_of vector))) × HasKeyForm (left_of vector) (right_of vector))
  decides_all =
      Decides-and (is_even vector && (is_anti_variant (left_of vector) && is_anti_variant (right_of vector))) (has_form (left_of vector) (right_of vector))
      (Decides-and (is_even vector) (is_anti_variant (left_of vector) && is_anti_variant (right_of vector)) (is_even-Decides vector)
      (Decides-and (is_anti_variant (left_of vector)) (is_anti_variant (right_of vector))
      (is_anti_variant-Decides (left_of vector)) (is_anti_variant-Decides (right_of vector))))
      decides_form

  three : (first_failing (vector_checks vector) ≡ None)
      ↔ (is_even vector && (is_anti_variant (left_of vector) && is_anti_variant (right_of vector)) && has_form (left_of vector) (right_of vector) ≡ true)
  three = none_of_three (is_even vector) (is_anti_variant (left_of vector) && is_anti_variant (right_of vector)) (has_form (left_of vector) (right_of vector))

  -- no rule is broken exactly where the vector is valid
  pub valid_from_none : first_failing (vector_checks vector) ≡ None → IsValid vector
  valid_from_none none =
      let facts : (All IsEven vector × (IsAntiVariant (left_of vector) × IsAntiVariant (right_of vector))) × HasKeyForm (left_of vector) (right_of vector)
      = decides_all.0 (three.0 none) in
      record { whole = whole; bytes = all_bytes vector fits; even = facts.0.0; left = facts.0.1.0; right = facts.0.1.1; form = facts.1 }

  pub none_from_valid : IsValid vector → first_failing (vector_checks vector) ≡ None
  none_from_valid valid = three.1 (decides_all.1 ((valid.even, (valid.left, valid.right)), valid.form))
