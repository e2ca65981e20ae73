use Rattle.std.proofs.Common.{Some, sym, ap, ◌∙◌}
use Rattle.key_tokens.specs.declared.key_token.Age.TheVariants.{Current}
use Rattle.key_tokens.specs.TokenChecks.{rule_of}
use Rattle.verb_rules.proofs.DenotedLemmas.{denoted_refused}
use Rattle.record_bodies.specs.Further.{has_current_key}
use Rattle.reencipher.proofs.TokenLaws.{register_current, denoted_for, not_current}
use Rattle.reencipher.proofs.tokens.current_key.Goals as goal

pub returns-in-Err-clause-current : goal.returns-in-Err-clause-current
returns-in-Err-clause-current c m bench loaded =
    sym (ap has_current_key (denoted_refused m c.args.token.now (rule_of c.in-Err.field-0) c.in-Err.ensures.refused))

pub returns-then-not-has_pattern-clause-current : goal.returns-then-not-has_pattern-clause-current
returns-then-not-has_pattern-clause-current c m bench loaded =
    sym (not_current m c.args.held.now bench c.args.token.now c.in-Ok.token loaded c.in-Ok.ensures.accepted c.in-Ok.ensures.token (sym c.if-not-has_pattern.true ∙ c.has_pattern.ensures.tells))

pub returns-clause-key : goal.returns-clause-key
returns-clause-key c m bench loaded =
    denoted_for m c.args.held.now bench c.args.token.now c.in-Ok.token loaded c.in-Ok.ensures.accepted c.in-Ok.ensures.token (Some Current)
    (register_current c.args.held.now c.in-Ok.token.pattern (sym c.if-not-has_pattern.false ∙ c.has_pattern.ensures.tells))

pub returns-clause-current : goal.returns-clause-current
returns-clause-current c m bench loaded = sym (ap has_current_key (returns-clause-key c m bench loaded))

pub returns-clause-halves : goal.returns-clause-halves
returns-clause-halves c = c.in-Ok.ensures.layout.0.right
