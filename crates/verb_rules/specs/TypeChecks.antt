-- The rules on the types of keys that are generated.
use Rattle.std.specs.Prelude.{ℕ, not, is_none, List, [], ◌∷◌}
use Rattle.cca_vectors.specs.declared.key_length.Length.{Length}
use Rattle.cca_vectors.specs.declared.key_type.KeyType.{KeyType}
use Rattle.cca_vectors.specs.Checks.{Check, check}
use Rattle.cca_vectors.specs.DefaultVectors.{default_for, default_vector}
use Rattle.cca_vectors.specs.KeyTypes.{is_pair}

-- rule 24: the types aren't a pair
abbrev pub pair_checks : KeyType → KeyType → List Check
pair_checks first second = check 24 (not (is_pair first second)) ∷ []

-- rule 32 of a type: it has no control vector of this length
abbrev pub length_checks : KeyType → Length → List Check
length_checks kind length = check 32 (is_none (default_for kind length)) ∷ []

-- the same of a key that is brought in by parts of so many bytes
abbrev pub size_checks : KeyType → ℕ → List Check
size_checks kind size = check 32 (is_none (default_vector kind size)) ∷ []
