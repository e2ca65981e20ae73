use Rattle.std.proofs.Common.{◌∙◌, ℕ, true, ap}
use Rattle.cca_roles.specs.Roles.{points_of}
use Rattle.cca_vectors.specs.Checks.{first_failing}
use Rattle.cca_machine.specs.Verdict.{checks_of_role}
use Rattle.store_unload.proofs.judging.move_rule.Goals as goal

pub returns : goal.returns
returns c = record {
  rule = λ s bench roles loaded.
      c.role_rule.ensures.rule s bench roles loaded
      ∙ ap (λ (p : ℕ). first_failing (checks_of_role s (points_of c.args.role.now s.roles) p true)) c.union.ensures;
}
