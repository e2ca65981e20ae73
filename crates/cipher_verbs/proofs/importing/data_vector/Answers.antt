use Rattle.std.proofs.Common.{◌≡◌, None, Some, Result, Ok, Err, refl, sym, ◌∙◌}
use Rattle.std.specs.Prelude.{IsOk, IfErr}
use Rattle.std.proofs.lemmas.Option.{none-some}
use lib.Count.{ones}
use Rattle.cca_vectors.specs.Checks.{first_failing}
use Rattle.cca_vectors.specs.VectorChecks.{vector_checks, rule_of}
use Rattle.cca_vectors.specs.declared.control_vector.VectorFault.{VectorFault}
use Rattle.cipher_verbs.specs.Imported.{data_vector}
use Rattle.cipher_verbs.proofs.importing.data_vector.Goals as goal

passes : first_failing (vector_checks data_vector) ≡ None
unfolding ones
passes = refl

ok_from : {V : Type 0} (r : Result V VectorFault) → IfErr r (λ fault. first_failing (vector_checks data_vector) ≡ Some (rule_of fault)) → IsOk r
ok_from (Ok v) h = refl
ok_from (Err fault) h = absurd (none-some (rule_of fault) (sym passes ∙ h))

pub unwrap-requires : goal.unwrap-requires
unwrap-requires c = ok_from c.vector_of.result c.vector_of.ensures.refused
