use Rattle.std.proofs.Common.{[], sym, subst}
use Rattle.cca_machine.specs.declared.asking.Ask.TheVariants.{External}
use Rattle.request_rules.specs.Judging.{IsAsked, IsShaped}
use Rattle.request_rules.proofs.LabelsRead.{external_asked, external_shape}
use Rattle.request_rules.proofs.judging.judge_external.Goals as goal

pub returns-clause-asked : goal.returns-clause-asked
returns-clause-asked c = λ s bench loaded.
    subst (IsAsked s bench c.args.digits.now (External c.args.need.now)) (sym c.answer_of.ensures)
    (external_asked c.args.digits.now c.token_bytes.result c.token_bytes.ensures c.args.need.now c.args.held.now s bench loaded c.judge_key.result
    c.requires.asked c.judge_key.ensures.judges c.judge_key.ensures.age (λ transport. c.judge_key.ensures.denoted_under transport c.requires.asked))

pub returns-clause-shaped : goal.returns-clause-shaped
returns-clause-shaped c =
    subst (IsShaped [] c.args.digits.now (External c.args.need.now)) (sym c.answer_of.ensures)
    (external_shape c.args.need.now c.judge_key.result c.judge_key.ensures.halves)
