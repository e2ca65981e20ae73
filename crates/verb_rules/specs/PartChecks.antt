-- The rules of a key part that is combined with a further part, by the control vector of the key so far.
use Rattle.std.specs.Prelude.{ℕ, not, List, [], ◌∷◌, ◌++◌, ◌==◌}
use Rattle.cca_vectors.specs.Checks.{Check, check}
use Rattle.cca_vectors.specs.Vectors.{length_of, is_part_of}

-- rule 32 of a further part: it hasn't the key's length in bytes
abbrev pub part_length_checks : List ℕ → ℕ → List Check
part_length_checks vector length = check 32 (not (length == length_of vector)) ∷ []

-- rule 35: the key is whole
abbrev pub whole_key_checks : List ℕ → List Check
whole_key_checks vector = check 35 (not (is_part_of vector)) ∷ []

abbrev pub combining_checks : List ℕ → ℕ → List Check
combining_checks vector length = part_length_checks vector length ++ whole_key_checks vector
