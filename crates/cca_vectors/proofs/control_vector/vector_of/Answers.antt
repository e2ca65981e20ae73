-- No rule is broken exactly where the vector is valid.
use Rattle.std.proofs.Common.{◌≡◌, None, Some, refl, sym, ◌∙◌, true≢false}
use Rattle.std.proofs.lemmas.Option.{none-some}
use Rattle.cca_vectors.specs.VectorChecks.{rule_of}
use Rattle.cca_vectors.proofs.Validity.{valid_from_none, none_from_valid}
use Rattle.cca_vectors.proofs.control_vector.vector_of.Goals as goal

pub returns-in-Some-clause-valid : goal.returns-in-Some-clause-valid
returns-in-Some-clause-valid c = (
  λ h. absurd (true≢false (sym h)),
  λ valid.
      let broken : Some (rule_of c.in-Some.fault) ≡ None =
      c.in-Some.ensures ∙ none_from_valid c.args.bytes.now c.told-bytes c.fits-bytes valid in
      absurd (none-some (rule_of c.in-Some.fault) (sym broken)),
)

pub invariant_of-result : goal.invariant_of-result
invariant_of-result c = valid_from_none c.args.bytes.now c.told-bytes c.fits-bytes (sym c.in_default.ensures)

pub returns-clause-valid : goal.returns-clause-valid
returns-clause-valid c =
    (λ _. valid_from_none c.args.bytes.now c.told-bytes c.fits-bytes (sym c.in_default.ensures), λ _. refl)
