use Rattle.std.proofs.Common.{List, Option, subst}
use Rattle.cca_roles.specs.Directory.{AreApart}
use Rattle.cca_roles.specs.Roles.{AreRoles, names, name_of}
use Rattle.cca_roles.specs.declared.roles.Role.{Role}
use Rattle.cca_roles.proofs.DirectoryLaws.{fresh_apart}
use Rattle.cca_roles.proofs.roles.Roles.put.Goals as goal

pub returns-then-holds_name_of-clause-roles : goal.returns-then-holds_name_of-clause-roles
returns-then-holds_name_of-clause-roles c = subst AreRoles c.self.view_is c.self.invariant

pub set_place-requires-clause-apart : goal.set_place-requires-clause-apart
set_place-requires-clause-apart c =
    fresh_apart (name_of c.args.slot) (names c.args.self.now) c.args.place (subst (λ (r : List (Option Role)). AreApart (names r)) c.self.view_is c.self.invariant.apart) (c.holds_name_of.ensures.fresh c.if-holds_name_of.false)
