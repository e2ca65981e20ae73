use Rattle.std.proofs.Common.{◌≤◌, length, drop, arith}
use Rattle.std.specs.Prelude.{slice_index}
use Rattle.std.proofs.lemmas.List.{length-take, length-drop}
use Rattle.record_bodies.specs.RecordBody.{label_in}
use Rattle.cca_roles.specs.NameLaws.{label_short}
use Rattle.record_bodies.proofs.bodies.label_in.Goals as goal

pub returns-then-length-gt64-clause-none : goal.returns-then-length-gt64-clause-none
returns-then-length-gt64-clause-none c _ is =
    let short : length (label_in c.args.body.now) ≤ 64 = label_short (label_in c.args.body.now) is in
    omega (arith, short, c.if-length-gt64.true, c.told-body, length-take (slice_index c.args.body.now 1) (drop 2 c.args.body.now), length-drop 2 c.args.body.now)
