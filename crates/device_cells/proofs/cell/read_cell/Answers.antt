use Rattle.std.proofs.Common.{◌≡◌, length, rules}
use Rattle.std.proofs.lemmas.Result.{on_ok_weaker}
use Rattle.device_cells.proofs.Replacing.{body_read}
use Rattle.device_cells.proofs.cell.read_cell.Goals as goal

pub returns-clause-bytes : goal.returns-clause-bytes
returns-clause-bytes g c =
    let long : length c.read.new.out ≡ 192 = search rules in
    on_ok_weaker c.read.result
    (body_read c.args.cell c.in_ok-side.side c.body_place.result c.read.new.out (g.D.Disk.medium c.args.disk.now) (g.D.Disk.medium c.selected_side.new.disk) c.selected_side.ensures.keeps c.in_ok-side.ensures.side c.body_place.ensures long)
    c.read.ensures.bytes
