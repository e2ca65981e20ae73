use Rattle.std.proofs.Common.{None, Some, true, false, sym, ap, ◌∙◌}
use Rattle.key_tokens.specs.declared.key_token.Age.TheVariants.{Current, Old}
use Rattle.record_bodies.specs.Ages.{has_old_key}
use Rattle.verb_rules.proofs.DenotedLemmas.{denoted_refused}
use Rattle.key_tokens.specs.TokenChecks.{rule_of}
use Rattle.reencipher.proofs.TokenLaws.{register_current, register_old, denoted_for, age_for}
use Rattle.reencipher.proofs.tokens.old_key.Goals as goal

pub returns-in-Err-clause-old : goal.returns-in-Err-clause-old
returns-in-Err-clause-old c m bench loaded =
    sym (ap has_old_key (denoted_refused m c.args.token.now (rule_of c.in-Err.field-0) c.in-Err.ensures.refused))

pub returns-then-has_pattern-clause-old : goal.returns-then-has_pattern-clause-old
returns-then-has_pattern-clause-old c m bench loaded =
    sym (age_for m c.args.held.now bench c.args.token.now c.in-Ok.token loaded c.in-Ok.ensures.accepted c.in-Ok.ensures.token (Some Current)
    (register_current c.args.held.now c.in-Ok.token.pattern (sym c.if-has_pattern.true ∙ c.has_pattern.ensures.tells)))

pub returns-then-not-has_pattern-clause-old : goal.returns-then-not-has_pattern-clause-old
returns-then-not-has_pattern-clause-old c m bench loaded =
    sym (age_for m c.args.held.now bench c.args.token.now c.in-Ok.token loaded c.in-Ok.ensures.accepted c.in-Ok.ensures.token None
    (register_old c.args.held.now c.in-Ok.token.pattern false (sym c.if-has_pattern.false ∙ c.has_pattern.ensures.tells) (sym c.if-not-has_pattern.true ∙ c.has_pattern-2.ensures.tells)))

pub returns-clause-key : goal.returns-clause-key
returns-clause-key c m bench loaded =
    denoted_for m c.args.held.now bench c.args.token.now c.in-Ok.token loaded c.in-Ok.ensures.accepted c.in-Ok.ensures.token (Some Old)
    (register_old c.args.held.now c.in-Ok.token.pattern true (sym c.if-has_pattern.false ∙ c.has_pattern.ensures.tells) (sym c.if-not-has_pattern.false ∙ c.has_pattern-2.ensures.tells))

pub returns-clause-old : goal.returns-clause-old
returns-clause-old c m bench loaded = sym (ap has_old_key (returns-clause-key c m bench loaded))

pub returns-clause-halves : goal.returns-clause-halves
returns-clause-halves c = c.in-Ok.ensures.layout.0.right
