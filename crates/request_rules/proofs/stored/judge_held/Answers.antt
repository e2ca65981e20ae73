use Rattle.std.proofs.Common.{◌∙◌, sym, ap}
use Rattle.cca_machine.specs.declared.granted.Grant.{Grant}
use Rattle.cca_machine.proofs.KnownLabels.{cell_is}
use Rattle.request_rules.proofs.LabelsRead.{find_is}
use Rattle.request_rules.proofs.stored.judge_held.Goals as goal

pub returns-in-Ok-clause-asked : goal.returns-in-Ok-clause-asked
returns-in-Ok-clause-asked c = λ s bench agrees. (
  find_is s c.args.records.now agrees c.args.text.now ∙ c.in-Ok.ensures.passes,
  (
    ap (λ (g : Grant). g.place) c.of_place.ensures ∙ sym (cell_is s c.args.records.now agrees c.args.text.now ∙ c.in-Ok.ensures.is),
    ap (λ (g : Grant). g.key) c.of_place.ensures,
  ),
)

pub returns-in-Err-clause-asked : goal.returns-in-Err-clause-asked
returns-in-Err-clause-asked c = λ s bench agrees. find_is s c.args.records.now agrees c.args.text.now ∙ c.in-Err.ensures
