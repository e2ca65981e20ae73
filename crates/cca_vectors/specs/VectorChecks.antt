-- The rules that a control vector can break, in their order, as tests. Each test is the fact of the same
-- name in `Vectors`.
use Rattle.std.specs.Prelude.{ℕ, ◌+◌, ◌*◌, ◌%◌, Bool, not, ◌&&◌, ◌||◌, List, [], ◌∷◌, slice_index, slice_set, count_ones, ◌==◌}
use Rattle.std.specs.List.{list_all}
use Rattle.std.specs.Str.{bytes_eq}
use Rattle.key_cells.specs.Bytes.{is_zero}
use Rattle.cca_vectors.specs.declared.control_vector.VectorFault.{VectorFault}
use Rattle.cca_vectors.specs.declared.control_vector.VectorFault.TheVariants.{Parity, AntiVariant, Form}
use Rattle.cca_vectors.specs.Bits.{bit, even_byte}
use Rattle.cca_vectors.specs.Checks.{Check, check}
use Rattle.cca_vectors.specs.Vectors.{left_of, right_of, form_of, single_length, left_of_double, right_of_double, left_of_unique, right_of_unique}

abbrev pub is_even : List ℕ → Bool
is_even = list_all (λ byte. count_ones byte % 2 == 0)

abbrev pub is_anti_variant : List ℕ → Bool
is_anti_variant half = is_zero half || (bit half 30 == 0 && bit half 38 == 1)

-- the left half with another form in bits 40 to 42, and with bit 47 as the parity of its byte asks
abbrev pub right_half_for : ℕ → List ℕ → List ℕ
right_half_for form left = slice_set left 5 (even_byte (32 * form + slice_index left 5 % 32))

abbrev pub has_form : List ℕ → List ℕ → Bool
has_form left right =
    (form_of left == single_length && is_zero right)
    || (form_of left == left_of_double && bytes_eq right (right_half_for right_of_double left))
    || (form_of left == left_of_unique && bytes_eq right (right_half_for right_of_unique left))

-- rule 14, parity; rule 15, anti-variant bits; rule 16, key form
abbrev pub vector_checks : List ℕ → List Check
vector_checks vector =
    check 14 (not (is_even vector))
    ∷ check 15 (not (is_anti_variant (left_of vector) && is_anti_variant (right_of vector)))
    ∷ check 16 (not (has_form (left_of vector) (right_of vector)))
    ∷ []

-- the rule that a fault says is broken
abbrev pub rule_of : VectorFault → ℕ
rule_of Parity = 14
rule_of AntiVariant = 15
rule_of Form = 16
