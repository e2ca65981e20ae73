use Rattle.std.proofs.Common.{refl, sym, subst, ◌∙◌}
use Rattle.record_bodies.specs.RecordBody.{IsKept}
use Rattle.record_bodies.proofs.ExitLaws.{never}
use Rattle.record_bodies.proofs.TwoLaws.{first_of_two, second_of_two, holds_ahead, kept_ahead, beside_ahead, token_ahead, holds_turned, under_turned, token_turned, same_patterns, other_patterns, kept_under, pattern_read}
use Rattle.record_bodies.proofs.reading.token_of_two.Goals.{else-eq-via-then-eq+else-eq-2, else-eq-via-else-eq}
use Rattle.record_bodies.proofs.reading.token_of_two.Goals as goal

pub second_token-requires : goal.second_token-requires
second_token-requires c = tt

pub returns-in-None-clause-none : goal.returns-in-None-clause-none
returns-in-None-clause-none c _ held = c.in-None.ensures.none refl (first_of_two c.args.pattern.now c.args.ahead c.args.token.now c.args.second.now held) (second_of_two c.args.pattern.now c.args.ahead c.args.token.now c.args.second.now held)

pub returns-in-None-clause-some : goal.returns-in-None-clause-some
returns-in-None-clause-some c is = never is

pub returns-in-None-clause-kept : goal.returns-in-None-clause-kept
returns-in-None-clause-kept c = tt

pub returns-in-None-clause-found : goal.returns-in-None-clause-found
returns-in-None-clause-found c = tt

pub pattern_in-first-requires : goal.pattern_in-first-requires
pattern_in-first-requires c = tt

pub eq-requires : goal.eq-requires
eq-requires c = tt

pub eq-requires-then-eq : goal.eq-requires-then-eq
eq-requires-then-eq c = tt

pub eq-requires-in-None-ahead : goal.eq-requires-in-None-ahead
eq-requires-in-None-ahead c = tt

pub returns-then-eq-2-clause-none : goal.returns-then-eq-2-clause-none
returns-then-eq-2-clause-none c is _ = never (sym is)

pub returns-then-eq-2-clause-kept : goal.returns-then-eq-2-clause-kept
returns-then-eq-2-clause-kept c = kept_under c.args.pattern.now c.pattern_in-first.result c.args.token.now (c.in-Some.ensures.first refl) c.pattern_in-first.ensures (same_patterns c.eq.result c.pattern_in-first.result c.args.pattern.now c.eq.ensures c.if-eq.true)

pub returns-then-eq-2-clause-some : goal.returns-then-eq-2-clause-some
returns-then-eq-2-clause-some c _ =
    holds_ahead c.args.pattern.now c.args.ahead c.in-Some-ahead.ahead c.in-Some-ahead.is c.args.token.now c.args.second.now (returns-then-eq-2-clause-kept c) (c.in-Some.ensures.second refl)
    (same_patterns c.eq-then-eq.result c.args.second.now.pattern c.in-Some-ahead.ahead c.eq-then-eq.ensures c.if-eq-2.true)

pub returns-then-eq-2-clause-found : goal.returns-then-eq-2-clause-found
returns-then-eq-2-clause-found c = token_ahead c.args.pattern.now c.args.ahead c.in-Some-ahead.ahead c.in-Some-ahead.is c.args.token.now c.args.second.now

pub returns-else-eq-clause-none : goal.returns-else-eq-clause-none
returns-else-eq-clause-none c _ held =
    elim c.else-eq.branch [
      | else-eq-via-then-eq+else-eq-2 w ↦ other_patterns w.eq-then-eq.result c.args.second.now.pattern c.in-Some-ahead.ahead w.eq-then-eq.ensures w.if-eq-2.false
          (beside_ahead c.args.pattern.now c.args.ahead c.in-Some-ahead.ahead c.in-Some-ahead.is c.args.token.now c.args.second.now held)
      | else-eq-via-else-eq w ↦ other_patterns c.eq.result c.pattern_in-first.result c.args.pattern.now c.eq.ensures w.if-eq.false
          (pattern_read c.args.pattern.now c.pattern_in-first.result c.args.token.now (kept_ahead c.args.pattern.now c.args.ahead c.in-Some-ahead.ahead c.in-Some-ahead.is c.args.token.now c.args.second.now held) c.pattern_in-first.ensures)
    ]

pub returns-else-eq-clause-some : goal.returns-else-eq-clause-some
returns-else-eq-clause-some c is = never is

pub returns-else-eq-clause-kept : goal.returns-else-eq-clause-kept
returns-else-eq-clause-kept c = tt

pub returns-else-eq-clause-found : goal.returns-else-eq-clause-found
returns-else-eq-clause-found c = tt

pub returns-then-eq-3-clause-none : goal.returns-then-eq-3-clause-none
returns-then-eq-3-clause-none c is _ = never (sym is)

pub returns-then-eq-3-clause-some : goal.returns-then-eq-3-clause-some
returns-then-eq-3-clause-some c _ =
    holds_turned c.args.pattern.now c.args.ahead c.in-None-ahead.is c.args.token.now c.args.second.now (c.in-Some.ensures.first refl) (c.in-Some.ensures.second refl)
    (same_patterns c.eq-in-None-ahead.result c.args.second.now.pattern c.args.pattern.now c.eq-in-None-ahead.ensures c.if-eq-3.true)

pub returns-then-eq-3-clause-kept : goal.returns-then-eq-3-clause-kept
returns-then-eq-3-clause-kept c = subst (λ p. IsKept c.in-Some.turned p) (same_patterns c.eq-in-None-ahead.result c.args.second.now.pattern c.args.pattern.now c.eq-in-None-ahead.ensures c.if-eq-3.true) c.in-Some.ensures.sound

pub returns-then-eq-3-clause-found : goal.returns-then-eq-3-clause-found
returns-then-eq-3-clause-found c = c.in-Some.ensures.found ∙ token_turned c.args.pattern.now c.args.ahead c.in-None-ahead.is c.args.token.now c.args.second.now

pub returns-else-eq-3-clause-none : goal.returns-else-eq-3-clause-none
returns-else-eq-3-clause-none c _ held =
    other_patterns c.eq-in-None-ahead.result c.args.second.now.pattern c.args.pattern.now c.eq-in-None-ahead.ensures c.if-eq-3.false
    (under_turned c.args.pattern.now c.args.ahead c.in-None-ahead.is c.args.token.now c.args.second.now held)

pub returns-else-eq-3-clause-some : goal.returns-else-eq-3-clause-some
returns-else-eq-3-clause-some c is = never is

pub returns-else-eq-3-clause-kept : goal.returns-else-eq-3-clause-kept
returns-else-eq-3-clause-kept c = tt

pub returns-else-eq-3-clause-found : goal.returns-else-eq-3-clause-found
returns-else-eq-3-clause-found c = tt
