use Rattle.std.proofs.Common.{length, ap, sym, subst, ◌∙◌, ◌≤◌, ℕ}
use Rattle.std.specs.Prelude.{unwrap_or, ◌==◌}
use Rattle.audit_trail.proofs.FieldLaws.{before_first, within_field}
use Rattle.audit_trail.proofs.fields.text_length.Goals as goal

pub returns-clause-text : goal.returns-clause-text
returns-clause-text c = c.unwrap_or.ensures ∙ ap (λ o. unwrap_or o (length c.args.field.now)) c.first_zero.ensures ∙ before_first (λ byte. byte == 0) c.args.field.now

pub returns-clause-within : goal.returns-clause-within
returns-clause-within c = subst (λ (n : ℕ). n ≤ length c.args.field.now) (sym (returns-clause-text c)) (within_field (λ byte. byte == 0) c.args.field.now)
