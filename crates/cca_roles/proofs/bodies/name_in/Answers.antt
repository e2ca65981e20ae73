use Rattle.std.proofs.Common.{◌≤◌, length, drop, arith}
use Rattle.std.specs.Prelude.{slice_index}
use Rattle.std.proofs.lemmas.List.{length-take, length-drop}
use Rattle.cca_roles.specs.RoleBody.{name_in}
use Rattle.cca_roles.specs.NameLaws.{role_short}
use Rattle.cca_roles.proofs.bodies.name_in.Goals as goal

pub returns-then-length-gt8-clause-none : goal.returns-then-length-gt8-clause-none
returns-then-length-gt8-clause-none c _ is =
    let short : length (name_in c.args.body.now) ≤ 8 = role_short (name_in c.args.body.now) is in
    omega (arith, short, c.if-length-gt8.true, c.told-body, length-take (slice_index c.args.body.now 1) (drop 2 c.args.body.now), length-drop 2 c.args.body.now)
