use Rattle.std.proofs.Common.{ap, arith}
use Rattle.slot_disk.specs.SourceState.{SourceState}
use Rattle.device_cells.proofs.Reading.{gives}
use Rattle.slot_disk.proofs.memory_source.MemorySourceSource.read.Goals as goal

pub returns-clause-bytes : goal.returns-clause-bytes
returns-clause-bytes c =
    gives c.args.self.now.left c.self.inside.bytes.items c.deref.result.now c.copy_from_slice.new.self c.args.out.now c.self.inside.at c.min-count.result c.min.result c.self.inside.piece
    (ap (λ (s : SourceState). s.left) c.self.view_is)
    c.deref.ensures.value
    (omega arith)
    (omega arith)
    c.min.ensures
    c.min-count.ensures
    c.copy_from_slice.ensures.after
