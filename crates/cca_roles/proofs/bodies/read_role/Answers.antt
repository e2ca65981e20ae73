use Rattle.std.proofs.Common.{◌≡◌, List, ℕ, refl, sym, ap, subst, ◌∙◌}
use Rattle.cca_roles.specs.RoleBody.{ReadsRole, role_in, points_in}
use Rattle.cca_roles.specs.Roles.{role}
use Rattle.cca_roles.proofs.BodyLaws.{reads_again}
use Rattle.cca_roles.proofs.bodies.read_role.Goals as goal
use Rattle.key_cells.proofs.AnswerLemmas.{not_true}

pub returns-in_err-name-clause-none : goal.returns-in_err-name-clause-none
returns-in_err-name-clause-none c _ r reads = c.in_err-name.ensures.none refl (reads_again c.args.body.now r reads).name

pub returns-in_err-points-clause-none : goal.returns-in_err-points-clause-none
returns-in_err-points-clause-none c _ r reads = c.in_err-points.ensures.none refl (reads_again c.args.body.now r reads).points

pub returns-else-is_body_of-clause-none : goal.returns-else-is_body_of-clause-none
returns-else-is_body_of-clause-none c _ r reads =
    let same : role_in c.args.body.now ≡ role c.in_ok-name.name c.in_ok-points.points =
    ap (λ (n : List ℕ). role n (points_in c.args.body.now)) (sym c.in_ok-name.ensures.found) ∙ ap (role c.in_ok-name.name) (sym c.in_ok-points.ensures.found) in
    not_true c.is_body_of.result c.if-is_body_of.false (c.is_body_of.ensures.1 (subst (ReadsRole c.args.body.now) same (reads_again c.args.body.now r reads)))
