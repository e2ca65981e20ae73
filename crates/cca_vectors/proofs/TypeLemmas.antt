-- Each type has a name of its own.
use Rattle.std.proofs.Common.{◌≡◌, ◌↔◌, ℕ, Bool, true, false, List, [], ◌∷◌, Option, Some, refl, ap, subst, ◌∙◌}
use Rattle.std.specs.Prelude.{find, if◌then◌else◌}
use Rattle.std.specs.Str.{bytes_eq}
use Rattle.std.proofs.lemmas.Slice.Eq.{bytes_eq-Decides}
use Rattle.cca_vectors.specs.KeyTypes.{key_types, type_name, type_named}
use Rattle.cca_vectors.specs.declared.key_type.KeyType.{KeyType}
use Rattle.cca_vectors.specs.declared.key_type.KeyType.TheVariants.{Data, Datac, Datam, Datamv, Cipher, Encipher, Decipher, Mac, Macver, Exporter, Importer, Okeyxlat, Ikeyxlat}

found_by : {A : Type 0} (p : A → Bool) (b : Bool) (x k : A) (rest : Option A) → p x ≡ b → (rest ≡ Some k → p k ≡ true) → (if b then Some x else rest) ≡ Some k → p k ≡ true
found_by p true x k rest test later h = let same : x ≡ k = cc in subst (λ y. p y ≡ true) same test
found_by p false x k rest test later h = later h

-- what is found passes the test
found_passes : {A : Type 0} (p : A → Bool) (xs : List A) (k : A) → find p xs ≡ Some k → p k ≡ true
found_passes p [] k h = cc
found_passes p (x ∷ xs) k h = found_by p (p x) x k (find p xs) refl (found_passes p xs k) h

named : (kind : KeyType) → type_named (type_name kind) ≡ Some kind
named Data = refl
named Datac = refl
named Datam = refl
named Datamv = refl
named Cipher = refl
named Encipher = refl
named Decipher = refl
named Mac = refl
named Macver = refl
named Exporter = refl
named Importer = refl
named Okeyxlat = refl
named Ikeyxlat = refl

-- a text names a type exactly where it is the type's name
pub names_type : (text : List ℕ) (kind : KeyType) → (type_named text ≡ Some kind) ↔ (text ≡ type_name kind)
names_type text kind = (
  λ h. (bytes_eq-Decides text (type_name kind)).0 (found_passes (λ k. bytes_eq text (type_name k)) key_types kind h),
  λ e. ap type_named e ∙ named kind,
)
