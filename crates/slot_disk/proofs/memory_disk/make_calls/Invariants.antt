use Rattle.std.proofs.Common.{◌≡◌, take}
use Rattle.slot_disk.specs.Stages.{stage}
use Rattle.slot_disk.proofs.memory_disk.make_calls.Given as goal

abbrev pub invariant-loop-call : goal.invariant-loop-call
invariant-loop-call l = l.image.items ≡ (stage l.fn.image.items (take l.call-index l.calls)).content
