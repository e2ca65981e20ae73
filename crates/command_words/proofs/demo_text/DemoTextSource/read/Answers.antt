-- What was given and what is left are what was left.
use Rattle.std.proofs.Common.{length, ◌+◌, arith}
use Rattle.device_cells.proofs.Reading.{gives}
use Rattle.command_words.proofs.demo_text.DemoTextSource.read.Goals as goal

pub returns-clause-bytes : goal.returns-clause-bytes
returns-clause-bytes c =
    gives c.args.self.now c.self.inside.text.items c.deref.result.now c.copy_from_slice.new.self c.args.out.now c.self.inside.at c.min-count.result
    (length c.args.out.now) (length c.args.out.now + 1)
    c.self.view_is
    c.deref.ensures.value
    (omega arith)
    (omega arith)
    (omega arith)
    c.min-count.ensures
    c.copy_from_slice.ensures.after
