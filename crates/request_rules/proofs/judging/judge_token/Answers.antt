use Rattle.std.proofs.Common.{[], sym, subst}
use Rattle.cca_machine.specs.declared.asking.Ask.TheVariants.{Token}
use Rattle.request_rules.specs.Judging.{IsAsked, IsKeyedAnswer, IsShaped}
use Rattle.request_rules.proofs.LabelsRead.{judged_shape, token_asked, token_keyed}
use Rattle.request_rules.proofs.judging.judge_token.Goals as goal

pub returns-clause-asked : goal.returns-clause-asked
returns-clause-asked c = λ s bench loaded.
    subst (IsAsked s bench c.args.digits.now (Token c.args.need.now)) (sym c.answer_of.ensures)
    (token_asked c.args.digits.now c.token_bytes.result c.token_bytes.ensures c.args.need.now c.args.held.now s bench loaded c.judge_key.result
    c.judge_key.ensures.judges (c.judge_key.ensures.denoted s.registers bench loaded c.requires.asked))

pub returns-clause-shaped : goal.returns-clause-shaped
returns-clause-shaped c =
    subst (IsShaped [] c.args.digits.now (Token c.args.need.now)) (sym c.answer_of.ensures)
    (judged_shape c.args.need.now c.judge_key.result c.judge_key.ensures.halves (c.judge_key.ensures.internal c.requires.asked) c.judge_key.ensures.double)

pub returns-clause-keyed : goal.returns-clause-keyed
returns-clause-keyed c = λ m bench loaded.
    subst (IsKeyedAnswer m c.args.digits.now (Token c.args.need.now)) (sym c.answer_of.ensures)
    (token_keyed c.args.digits.now c.token_bytes.result c.token_bytes.ensures c.args.need.now c.args.held.now m bench c.judge_key.result
    (c.judge_key.ensures.internal c.requires.asked) (c.judge_key.ensures.denoted m bench loaded c.requires.asked))
