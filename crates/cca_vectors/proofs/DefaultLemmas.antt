-- The default vectors break no rule.
use Rattle.std.proofs.Common.{◌≡◌, ℕ, zero, suc, ◌<◌, Bool, true, false, List, [], ◌∷◌, Option, None, Some, Result, Ok, Err, length, get_or, eqb, ltb, refl, sym, ap, subst, arith}
use Rattle.std.specs.Prelude.{IfSome, IfOk, IfErr, option_map, if◌then◌else◌}
use Rattle.std.specs.List.{list_all}
use Rattle.std.specs.Result.{result_ok}
use Rattle.std.proofs.lemmas.Bool.{eqb-true, and_parts}
use borrow.Author.Tests.{ltb-true}
use lib.Count.{ones}
use Rattle.cca_vectors.specs.Checks.{first_failing}
use Rattle.cca_vectors.specs.DefaultVectors.{default_for, default_vector, double_default, single_default, size_of, vector_with, with_unique_halves}
use Rattle.cca_vectors.specs.VectorChecks.{vector_checks, rule_of}
use Rattle.cca_vectors.specs.Vectors.{IsValid, length_of}
use Rattle.cca_vectors.specs.declared.control_vector.VectorFault.{VectorFault}
use Rattle.cca_vectors.specs.declared.key_length.Length.{Length}
use Rattle.cca_vectors.specs.declared.key_length.Length.TheVariants.{Eight, Sixteen, Unique}
use Rattle.cca_vectors.specs.declared.key_type.KeyType.{KeyType}
use Rattle.cca_vectors.specs.declared.key_type.KeyType.TheVariants.{Data, Datac, Datam, Datamv, Cipher, Encipher, Decipher, Mac, Macver, Exporter, Importer, Okeyxlat, Ikeyxlat}
use Rattle.cca_vectors.proofs.Validity.{valid_from_none}

-- ---- tests that compute

-- the vector of a key of n bytes, which breaks no rule
pub record Passes (n : ℕ) (vector : List ℕ) : Type 0 where
  pub none : first_failing (vector_checks vector) ≡ None
  pub whole : length vector ≡ 16
  pub bytes : list_all (λ b. ltb b 256) vector ≡ true
  pub key : length_of vector ≡ n

abbrev single_vector : ℕ → List ℕ
single_vector left = vector_with left 0

single_passes : (kind : KeyType) → IfSome (option_map single_vector (single_default kind)) (Passes 8)
unfolding ones
single_passes Data = record { none = refl; whole = refl; bytes = refl; key = refl }
single_passes Datac = tt
single_passes Datam = tt
single_passes Datamv = tt
single_passes Cipher = record { none = refl; whole = refl; bytes = refl; key = refl }
single_passes Encipher = record { none = refl; whole = refl; bytes = refl; key = refl }
single_passes Decipher = record { none = refl; whole = refl; bytes = refl; key = refl }
single_passes Mac = record { none = refl; whole = refl; bytes = refl; key = refl }
single_passes Macver = record { none = refl; whole = refl; bytes = refl; key = refl }
single_passes Exporter = tt
single_passes Importer = tt
single_passes Okeyxlat = tt
single_passes Ikeyxlat = tt

double_passes : (kind : KeyType) → IfSome (double_default kind) (Passes 16)
unfolding ones
double_passes Data = record { none = refl; whole = refl; bytes = refl; key = refl }
double_passes Datac = record { none = refl; whole = refl; bytes = refl; key = refl }
double_passes Datam = record { none = refl; whole = refl; bytes = refl; key = refl }
double_passes Datamv = record { none = refl; whole = refl; bytes = refl; key = refl }
double_passes Cipher = tt
double_passes Encipher = tt
double_passes Decipher = tt
double_passes Mac = record { none = refl; whole = refl; bytes = refl; key = refl }
double_passes Macver = record { none = refl; whole = refl; bytes = refl; key = refl }
double_passes Exporter = record { none = refl; whole = refl; bytes = refl; key = refl }
double_passes Importer = record { none = refl; whole = refl; bytes = refl; key = refl }
double_passes Okeyxlat = record { none = refl; whole = refl; bytes = refl; key = refl }
double_passes Ikeyxlat = record { none = refl; whole = refl; bytes = refl; key = refl }

unique_passes : (kind : KeyType) → IfSome (option_map with_unique_halves (double_default kind)) (Passes 16)
unfolding ones
unique_passes Data = record { none = refl; whole = refl; bytes = refl; key = refl }
unique_passes Datac = record { none = refl; whole = refl; bytes = refl; key = refl }
unique_passes Datam = record { none = refl; whole = refl; bytes = refl; key = refl }
unique_passes Datamv = record { none = refl; whole = refl; bytes = refl; key = refl }
unique_passes Cipher = tt
unique_passes Encipher = tt
unique_passes Decipher = tt
unique_passes Mac = record { none = refl; whole = refl; bytes = refl; key = refl }
unique_passes Macver = record { none = refl; whole = refl; bytes = refl; key = refl }
unique_passes Exporter = record { none = refl; whole = refl; bytes = refl; key = refl }
unique_passes Importer = record { none = refl; whole = refl; bytes = refl; key = refl }
unique_passes Okeyxlat = record { none = refl; whole = refl; bytes = refl; key = refl }
unique_passes Ikeyxlat = record { none = refl; whole = refl; bytes = refl; key = refl }

by_length : (length : ℕ) (single double : Bool) (one two : Option (List ℕ)) → eqb length 8 ≡ single → eqb length 16 ≡ double
    → IfSome one (Passes 8) → IfSome two (Passes 16) → IfSome (if single then one else (if double then two else None)) (Passes length)
by_length length true double one two is other h k = subst (λ n. IfSome one (Passes n)) (sym (eqb-true length 8 is)) h
by_length length false true one two is other h k = subst (λ n. IfSome two (Passes n)) (sym (eqb-true length 16 other)) k
by_length length false false one two is other h k = tt

pub default_passes : (kind : KeyType) (length : ℕ) → IfSome (default_vector kind length) (Passes length)
default_passes kind length =
    by_length length (eqb length 8) (eqb length 16) (option_map single_vector (single_default kind)) (double_default kind) refl refl
    (single_passes kind) (double_passes kind)

pub default_for_passes : (kind : KeyType) (length : Length) → IfSome (default_for kind length) (Passes (size_of length))
default_for_passes kind Eight = default_passes kind 8
default_for_passes kind Sixteen = default_passes kind 16
default_for_passes kind Unique = unique_passes kind

-- ---- the facts

each_below : (xs : List ℕ) → list_all (λ b. ltb b 256) xs ≡ true → (k : ℕ) → get_or xs k 0 < 256
each_below [] h k = omega arith
each_below (x ∷ xs) h zero = ltb-true x 256 (and_parts (ltb x 256) (list_all (λ b. ltb b 256) xs) h).0
each_below (x ∷ xs) h (suc k) = each_below xs (and_parts (ltb x 256) (list_all (λ b. ltb b 256) xs) h).1 k

pub valid_by_tests : (n : ℕ) (vector : List ℕ) → Passes n vector → IsValid vector
valid_by_tests n vector passes = valid_from_none vector passes.whole (each_below vector passes.bytes) passes.none

pub if_some_gives : {A : Type 0} (o : Option A) (P Q : A → Type 0) → ((x : A) → P x → Q x) → IfSome o P → IfSome o Q
if_some_gives None P Q gives h = tt
if_some_gives (Some x) P Q gives h = gives x h

pub default_valid : (kind : KeyType) (length : ℕ) → IfSome (default_vector kind length) IsValid
default_valid kind length =
    if_some_gives (default_vector kind length) (Passes length) IsValid (valid_by_tests length) (default_passes kind length)

pub default_length : (kind : KeyType) (length : ℕ) → IfSome (default_vector kind length) (λ vector. length_of vector ≡ length)
default_length kind length =
    if_some_gives (default_vector kind length) (Passes length) (λ vector. length_of vector ≡ length) (λ vector passes. passes.key) (default_passes kind length)

pub default_for_valid : (kind : KeyType) (length : Length) → IfSome (default_for kind length) IsValid
default_for_valid kind length =
    if_some_gives (default_for kind length) (Passes (size_of length)) IsValid (valid_by_tests (size_of length)) (default_for_passes kind length)

pub default_for_length : (kind : KeyType) (length : Length) → IfSome (default_for kind length) (λ vector. length_of vector ≡ size_of length)
default_for_length kind length =
    if_some_gives (default_for kind length) (Passes (size_of length)) (λ vector. length_of vector ≡ size_of length) (λ vector passes. passes.key)
    (default_for_passes kind length)

-- a vector that breaks no rule is accepted
pub accepted : (vector : List ℕ) → first_failing (vector_checks vector) ≡ None → (r : Result (List ℕ) VectorFault) → IfOk r (λ v. v ≡ vector)
    → IfErr r (λ fault. first_failing (vector_checks vector) ≡ Some (rule_of fault)) → result_ok r ≡ Some vector
accepted vector passes (Ok v) is h = ap Some is
accepted vector passes (Err fault) is h = cc
