use Rattle.std.proofs.Common.{◌≡◌, None, Some, sym}
use Rattle.verb_rules.specs.StoredKeys.{IsRead}
use Rattle.verb_rules.proofs.DenotedLemmas.{denoted_refused, judged_with}
use Rattle.verb_rules.proofs.JudgeLemmas.{if_ok_gives}
use Rattle.verb_rules.proofs.StoredLemmas.{is_read, stands_for, use_of_key}
use Rattle.key_tokens.specs.TokenChecks.{rule_of}
use Rattle.verb_rules.proofs.judging.judge_stored.Goals as goal

pub returns-in-Err-clause-stored : goal.returns-in-Err-clause-stored
returns-in-Err-clause-stored c = λ m bench loaded.
    denoted_refused m c.args.token.now (rule_of c.in-Err.field-0) c.in-Err.ensures.refused

pub returns-in-Some-clause-stored : goal.returns-in-Some-clause-stored
returns-in-Some-clause-stored c = λ m bench loaded.
    use_of_key c.args.held.now c.args.token.now c.in-Ok.read c.in-Ok.ensures.token bench c.args.need.now c.in-Some.age _ c.judge_use.result
    (stands_for c.args.held.now c.args.token.now c.in-Ok.read c.in-Ok.ensures.token m bench loaded c.in-Ok.ensures.accepted (Some c.in-Some.age) (sym c.in-Some.ensures))
    c.judge_use.ensures.judges c.judge_use.ensures.judged

pub returns-in-Some-clause-read : goal.returns-in-Some-clause-read
returns-in-Some-clause-read c =
    if_ok_gives c.judge_use.result (λ judged. judged ≡ judged_with c.in-Ok.read (Some c.in-Some.age)) (IsRead c.args.held.now c.args.token.now)
    (λ judged is. is_read c.args.held.now c.args.token.now c.in-Ok.read c.in-Ok.ensures.token c.in-Some.age judged c.in-Ok.ensures.layout.1 (sym c.in-Some.ensures)
    c.in-Ok.ensures.layout.0.right is)
    c.judge_use.ensures.judged

pub returns-in-None-clause-stored : goal.returns-in-None-clause-stored
returns-in-None-clause-stored c = λ m bench loaded.
    stands_for c.args.held.now c.args.token.now c.in-Ok.read c.in-Ok.ensures.token m bench loaded c.in-Ok.ensures.accepted None (sym c.in-None.ensures)
