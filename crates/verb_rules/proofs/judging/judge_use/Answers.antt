use Rattle.std.proofs.Common.{sym}
use Rattle.verb_rules.proofs.JudgeLemmas.{double_passed}
use Rattle.verb_rules.proofs.judging.judge_use.Goals as goal

pub returns-in-None-clause-double : goal.returns-in-None-clause-double
returns-in-None-clause-double c = λ asked. double_passed c.args.need.now c.args.token.now.vector (sym c.in-None.ensures) asked
