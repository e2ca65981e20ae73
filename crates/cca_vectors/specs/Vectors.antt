-- A control vector: 16 bytes, of which the first 8 belong to the left half of a key and the last 8 to
-- its right half. The bits of each half are counted from 0.
use Rattle.std.specs.Prelude.{◌≡◌, ◌≢◌, ◌⊎◌, ℕ, ◌+◌, ◌*◌, ◌%◌, ◌<◌, Bool, List, length, slice_index, slice_range, count_ones, ◌==◌, if◌then◌else◌}
use Rattle.std.specs.List.{All}
use Rattle.key_cells.specs.Bytes.{IsZero}
use Rattle.cca_vectors.specs.Bits.{bit}

-- the vector of the left half of the key
abbrev pub left_of : List ℕ → List ℕ
left_of vector = slice_range vector 0 8

-- the vector of its right half
abbrev pub right_of : List ℕ → List ℕ
right_of vector = slice_range vector 8 16

-- the key form, bits 40 to 42 of a half, as a number of three bits
abbrev pub form_of : List ℕ → ℕ
form_of half = 4 * bit half 40 + 2 * bit half 41 + bit half 42

-- the form 000, the forms 010 and 001 of the halves of a double-length key, and the forms 110 and 101 of the halves of
-- one whose halves are guaranteed unique
abbrev pub single_length : ℕ
single_length = 0

abbrev pub left_of_double : ℕ
left_of_double = 2

abbrev pub right_of_double : ℕ
right_of_double = 1

abbrev pub left_of_unique : ℕ
left_of_unique = 6

abbrev pub right_of_unique : ℕ
right_of_unique = 5

-- how many bytes the key has
abbrev pub length_of : List ℕ → ℕ
length_of vector = if form_of (left_of vector) == single_length then 8 else 16

-- the key-part bit
abbrev pub is_part_of : List ℕ → Bool
is_part_of vector = bit (left_of vector) 44 == 1

-- a byte has an even number of ones
abbrev pub IsEven : ℕ → Type 0
IsEven byte = count_ones byte % 2 ≡ 0

-- bit 30 is off and bit 38 is on, in a half that isn't all zero
abbrev pub IsAntiVariant : List ℕ → Type 0
IsAntiVariant half = IsZero half ⊎ ((bit half 30 ≡ 0) × (bit half 38 ≡ 1))

-- the right half of this form that belongs to a left half: bit 47 is as the parity of its byte asks, and all other bits
-- but those of the form are those of the left half
pub record IsRightHalfFor (right_form : ℕ) (left right : List ℕ) : Type 0 where
  pub form : form_of right ≡ right_form
  pub even : IsEven (slice_index right 5)
  pub others : (n : ℕ) → n < 64 → n ≢ 40 → n ≢ 41 → n ≢ 42 → n ≢ 47 → bit right n ≡ bit left n

-- a single-length key with no right half, a double-length key, or one whose halves are guaranteed unique
abbrev pub HasKeyForm : List ℕ → List ℕ → Type 0
HasKeyForm left right =
    ((form_of left ≡ single_length) × IsZero right)
    ⊎ (((form_of left ≡ left_of_double) × IsRightHalfFor right_of_double left right)
    ⊎ ((form_of left ≡ left_of_unique) × IsRightHalfFor right_of_unique left right))

-- 16 bytes of even parity whose halves are anti-variant and have a key form
pub record IsValid (vector : List ℕ) : Type 0 where
  pub whole : length vector ≡ 16
  pub bytes : All (λ byte. byte < 256) vector
  pub even : All IsEven vector
  pub left : IsAntiVariant (left_of vector)
  pub right : IsAntiVariant (right_of vector)
  pub form : HasKeyForm (left_of vector) (right_of vector)
