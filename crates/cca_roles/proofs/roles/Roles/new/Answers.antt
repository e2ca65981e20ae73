use Rattle.std.proofs.Common.{◌∷◌, ℕ, List, Option, None, Some, replicate, sym, ap, subst, ◌∙◌}
use Rattle.cca_roles.specs.RoleNames.{default_name}
use Rattle.cca_roles.specs.Roles.{AreRoles, role}
use Rattle.cca_roles.proofs.TableLaws.{blank_table}
use Rattle.cca_roles.proofs.roles.Roles.new.Goals as goal

pub invariant_of-result : goal.invariant_of-result
invariant_of-result c = subst (λ (r : Option _). AreRoles (r ∷ replicate 31 None))
    (sym (ap (λ (n : List ℕ). Some (role n c.all.result)) c.default_role.ensures ∙ ap (λ (p : ℕ). Some (role default_name p)) c.all.ensures)) blank_table
