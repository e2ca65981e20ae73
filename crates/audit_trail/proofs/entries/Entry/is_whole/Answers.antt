use Rattle.std.proofs.Common.{⊎_elim, arith}
use Rattle.std.proofs.lemmas.Bool.{both_ways}
use Rattle.audit_trail.proofs.entries.Entry.is_whole.Goals as goal

pub returns-then-verb : goal.returns-then-verb
returns-then-verb c = (
  λ yes. record {
    rule = c.if-verb.true.0;
    role = c.holds_role-role.ensures.0 c.if-verb.true.1;
    verb = c.holds_verb-verb.ensures.0 c.if-verb.true.2;
    label = c.holds_label-label.ensures.0 yes;
  },
  λ is. c.holds_label-label.ensures.1 is.label,
)

pub returns-else-verb : goal.returns-else-verb
returns-else-verb c = (
  λ yes. absurd (both_ways _ (search) yes),
  λ is. absurd (
      ⊎_elim (λ w. both_ways c.holds_verb-verb.result w.2 (c.holds_verb-verb.ensures.1 is.verb))
      (λ other. ⊎_elim (λ w. both_ways c.holds_role-role.result w.1 (c.holds_role-role.ensures.1 is.role)) (λ high. omega (arith, high, is.rule))
      other)
      c.if-verb.either),
)
