-- The control vectors of types are those of whole keys.
use Rattle.std.proofs.Common.{◌≡◌, ℕ, Bool, true, false, List, [], ◌∷◌, Option, None, Some, eqb, refl, ap, ◌∙◌}
use Rattle.std.specs.Prelude.{IfSome, is_none, not, option_map, unwrap_or, if◌then◌else◌}
use Rattle.key_cells.specs.Bytes.{is_zero}
use Rattle.cca_vectors.specs.Checks.{check, first_failing}
use Rattle.cca_vectors.specs.DefaultVectors.{default_vector, double_default, single_default, vector_with}
use Rattle.cca_vectors.specs.PartVectors.{as_part}
use Rattle.cca_vectors.specs.Vectors.{IsValid, is_part_of}
use Rattle.cca_vectors.specs.declared.key_type.KeyType.{KeyType}
use Rattle.cca_vectors.specs.declared.key_type.KeyType.TheVariants.{Data, Datac, Datam, Datamv, Cipher, Encipher, Decipher, Mac, Macver, Exporter, Importer, Okeyxlat, Ikeyxlat}
use Rattle.cca_vectors.proofs.DefaultLemmas.{default_valid}
use Rattle.cca_vectors.proofs.PartLemmas.{part_turned, part_twice}
use Rattle.key_transport.specs.Generated.{HasLength, vector_for}

-- a vector that isn't all zero, and isn't that of a part
pub record IsWhole (vector : List ℕ) : Type 0 where
  pub some : is_zero vector ≡ false
  pub whole : is_part_of vector ≡ false

abbrev single_vector : ℕ → List ℕ
single_vector left = vector_with left 0

single_whole : (kind : KeyType) → IfSome (option_map single_vector (single_default kind)) IsWhole
single_whole Data = record { some = refl; whole = refl }
single_whole Datac = tt
single_whole Datam = tt
single_whole Datamv = tt
single_whole Cipher = record { some = refl; whole = refl }
single_whole Encipher = record { some = refl; whole = refl }
single_whole Decipher = record { some = refl; whole = refl }
single_whole Mac = record { some = refl; whole = refl }
single_whole Macver = record { some = refl; whole = refl }
single_whole Exporter = tt
single_whole Importer = tt
single_whole Okeyxlat = tt
single_whole Ikeyxlat = tt

double_whole : (kind : KeyType) → IfSome (double_default kind) IsWhole
double_whole Data = record { some = refl; whole = refl }
double_whole Datac = record { some = refl; whole = refl }
double_whole Datam = record { some = refl; whole = refl }
double_whole Datamv = record { some = refl; whole = refl }
double_whole Cipher = tt
double_whole Encipher = tt
double_whole Decipher = tt
double_whole Mac = record { some = refl; whole = refl }
double_whole Macver = record { some = refl; whole = refl }
double_whole Exporter = record { some = refl; whole = refl }
double_whole Importer = record { some = refl; whole = refl }
double_whole Okeyxlat = record { some = refl; whole = refl }
double_whole Ikeyxlat = record { some = refl; whole = refl }

by_length : (single double : Bool) (one two : Option (List ℕ)) → IfSome one IsWhole → IfSome two IsWhole → IfSome (if single then one else (if double then two else None)) IsWhole
by_length true double one two h k = h
by_length false true one two h k = k
by_length false false one two h k = tt

default_whole : (kind : KeyType) (size : ℕ) → IfSome (default_vector kind size) IsWhole
default_whole kind size =
    by_length (eqb size 8) (eqb size 16) (option_map single_vector (single_default kind)) (double_default kind) (single_whole kind) (double_whole kind)

-- what holds of the vector where there is one
pub where_had : (P : List ℕ → Type 0) (o : Option (List ℕ)) → first_failing (check 32 (is_none o) ∷ []) ≡ None → IfSome o P → P (unwrap_or o [])
where_had P None has h = cc
where_had P (Some v) has h = h

valid : (kind : KeyType) (size : ℕ) → HasLength kind size → IsValid (vector_for kind size)
valid kind size has = where_had IsValid (default_vector kind size) has (default_valid kind size)

whole : (kind : KeyType) (size : ℕ) → HasLength kind size → IsWhole (vector_for kind size)
whole kind size has = where_had IsWhole (default_vector kind size) has (default_whole kind size)

-- made that of a part and that of the whole key again, the vector of a type is itself
pub type_twice : (kind : KeyType) (size : ℕ) → HasLength kind size → as_part (as_part (vector_for kind size)) ≡ vector_for kind size
type_twice kind size has = part_twice (vector_for kind size) (valid kind size has)

pub type_part : (kind : KeyType) (size : ℕ) → HasLength kind size → is_part_of (as_part (vector_for kind size)) ≡ true
type_part kind size has =
    part_turned (vector_for kind size) (valid kind size has) (whole kind size has).some ∙ ap not (whole kind size has).whole
