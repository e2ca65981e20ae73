use Rattle.std.proofs.Common.{sym, ap, subst, ◌∙◌}
use Rattle.std.specs.Prelude.{is_some}
use Rattle.cca_roles.specs.Directory.{IsFresh, IsHeld}
use Rattle.cca_roles.specs.Roles.{names, name_of}
use Rattle.cca_roles.proofs.DirectoryLaws.{held_somewhere, held_nowhere}
use Rattle.cca_roles.proofs.roles.Roles.holds_name_of.Goals as goal

pub returns-in-Some-clause-held : goal.returns-in-Some-clause-held
returns-in-Some-clause-held c is_held =
    let held = held_somewhere c.in-Some.role.name (names c.args.self.now) (sym (c.is_some.ensures ∙ ap (λ o. is_some o) c.place_of.ensures.found) ∙ is_held) in
    subst (λ o. IsHeld o (names c.args.self.now)) (sym (ap name_of c.in-Some.is)) held

pub returns-in-Some-clause-fresh : goal.returns-in-Some-clause-fresh
returns-in-Some-clause-fresh c no_name =
    subst (λ o. IsFresh o (names c.args.self.now)) (sym (ap name_of c.in-Some.is))
    (held_nowhere c.in-Some.role.name (names c.args.self.now) (sym (c.is_some.ensures ∙ ap (λ o. is_some o) c.place_of.ensures.found) ∙ no_name))
