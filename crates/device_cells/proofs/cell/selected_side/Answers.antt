use Rattle.std.proofs.Common.{◌≡◌, length, rules}
use Rattle.device_cells.proofs.Replacing.{selector_read}
use Rattle.device_cells.proofs.cell.selected_side.Goals as goal

pub returns-clause-side : goal.returns-clause-side
returns-clause-side g c =
    let one : length c.read.new.out ≡ 1 = search rules in
    selector_read c.args.cell c.selector_place.result c.read.new.out (g.D.Disk.medium c.args.disk.now) c.selector_place.ensures one c.in_ok-read.ensures.bytes
