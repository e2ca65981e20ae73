use Rattle.std.proofs.Common.{arith}
use Rattle.verb_rules.specs.Rules.{rule_number}
use Rattle.cca_machine.specs.Refusals.{refusal_of}
use Rattle.request_verbs.proofs.Generating.{first_refused, pair_refused, second_judged}
use Rattle.request_verbs.proofs.verbs.csnbkgn.judge_two.Goals as goal

pub returns-in-Some : goal.returns-in-Some
returns-in-Some c = record {
  is = first_refused c.args.first c.args.second c.args.length (refusal_of c.in-Some.refusal) c.in_default.ensures c.in-Some.ensures.is;
  short = c.in-Some.ensures.short;
}

pub returns-in-Err : goal.returns-in-Err
returns-in-Err c = record {
  is = pair_refused c.args.first c.args.second c.args.length (rule_number c.in-Err.rule) c.in-Err.ensures;
  short = omega (arith);
}

pub returns : goal.returns
returns c = second_judged c.args.first c.args.second c.args.length c.judge_one-2.result c.in_default.ensures c.in_default-judge_one.ensures c.judge_one-2.ensures
