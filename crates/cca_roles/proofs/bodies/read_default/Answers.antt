use Rattle.std.proofs.Common.{List, ℕ, Some, sym, ap, ◌∙◌}
use Rattle.std.proofs.lemmas.Slice.Eq.{bytes_eq-Decides}
use Rattle.cca_roles.specs.RoleNames.{default_name}
use Rattle.cca_roles.specs.Roles.{role}
use Rattle.cca_roles.proofs.BodyLaws.{slot_blank, slot_of_role, reads_no_default, role_not_blank}
use Rattle.cca_roles.proofs.bodies.read_default.Goals as goal
use Rattle.key_cells.proofs.AnswerLemmas.{not_true}

pub returns-then-is_blank-clause-found : goal.returns-then-is_blank-clause-found
returns-then-is_blank-clause-found c =
    ap (λ (n : List ℕ). Some (role n c.all.result)) c.default_role-default_name.ensures ∙ ap (λ (p : ℕ). Some (role default_name p)) c.all.ensures
    ∙ sym (slot_blank 0 c.args.body.now (c.is_blank.ensures.0 c.if-is_blank.true))

pub returns-then-is-clause-found : goal.returns-then-is-clause-found
returns-then-is-clause-found c = sym (slot_of_role 0 c.args.body.now c.in_ok-role.role c.in_ok-role.ensures.reads)

pub returns-else-is-clause-none : goal.returns-else-is-clause-none
returns-else-is-clause-none c _ =
    reads_no_default c.args.body.now c.in_ok-role.role (role_not_blank c.args.body.now c.in_ok-role.role c.in_ok-role.ensures.reads) c.in_ok-role.ensures.reads
    (λ is. not_true c.is.result c.if-is.false (c.is.ensures ∙ (bytes_eq-Decides c.in_ok-role.role.name c.default_role-default_name.result).1 (is ∙ sym c.default_role-default_name.ensures)))
