use Rattle.std.proofs.Common.{◌≡◌, ◌∙◌, ℕ, Bool, List, ap}
use Rattle.cca_roles.specs.Roles.{points_of}
use Rattle.cca_vectors.specs.Checks.{first_failing}
use Rattle.cca_machine.specs.State.{State}
use Rattle.cca_machine.specs.Verdict.{checks_of_role}
use Rattle.request_rules.proofs.general.general_rule.Goals as goal

-- the same role, points and need of the master key, the same rule
module _ (s : State) {role role_now : List ℕ} {points points_now : ℕ} {master master_now : Bool} where
  same_rule : role ≡ role_now → points ≡ points_now → master ≡ master_now
      → first_failing (checks_of_role s (points_of role s.roles) points master) ≡ first_failing (checks_of_role s (points_of role_now s.roles) points_now master_now)
  same_rule role_is points_is master_is =
      ap (λ (r : List ℕ). first_failing (checks_of_role s (points_of r s.roles) points master)) role_is
      ∙ ap (λ (p : ℕ). first_failing (checks_of_role s (points_of role_now s.roles) p master)) points_is
      ∙ ap (λ (b : Bool). first_failing (checks_of_role s (points_of role_now s.roles) points_now b)) master_is

pub returns-clause-rule : goal.returns-clause-rule
returns-clause-rule c = λ s bench roles loaded.
    c.role_rule.ensures.rule s bench roles loaded ∙ same_rule s c.role_name.ensures c.needed_by-needed.ensures.points c.needed_by-needed.ensures.master
