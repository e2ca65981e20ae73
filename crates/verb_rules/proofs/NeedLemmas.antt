-- A key of any class breaks no rule of any key.
use Rattle.std.proofs.Common.{◌≡◌, ℕ, Bool, true, not, List, None, Some, refl, ap}
use Rattle.std.specs.Prelude.{if◌then◌else◌}
use Rattle.cca_vectors.specs.Checks.{first_failing}
use Rattle.cca_vectors.specs.Classes.{class_of}
use Rattle.cca_vectors.specs.declared.key_class.Class.{Class}
use Rattle.cca_vectors.specs.declared.key_class.Class.TheVariants as class
use Rattle.verb_rules.specs.Classes.{classes_of, has}
use Rattle.verb_rules.specs.KeyChecks.{use_checks}
use Rattle.verb_rules.specs.Needs.{any_key, every_class}

pub every_has : (c : Class) → has (classes_of every_class) c ≡ true
every_has class.Data = refl
every_has class.Cipher = refl
every_has class.Mac = refl
every_has class.Exporter = refl
every_has class.Importer = refl
every_has class.Other = refl

pub any_use : (vector : List ℕ) → first_failing (use_checks any_key vector) ≡ None
any_use vector = ap (λ (b : Bool). if not b then Some 19 else None) (every_has (class_of vector))
