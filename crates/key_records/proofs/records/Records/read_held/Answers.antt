use Rattle.key_records.proofs.ReadLaws.{cell_fits}
use Rattle.key_records.proofs.records.Records.read_held.Goals as goal

pub read_cell-requires : goal.read_cell-requires
read_cell-requires g c = cell_fits (g.D.Disk.medium c.args.store.now).size c.cell-cell.result c.new.result c.requires.size c.cell-cell.ensures.within c.new.ensures
