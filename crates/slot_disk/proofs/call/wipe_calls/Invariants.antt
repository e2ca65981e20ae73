use Rattle.std.proofs.Common.{take}
use Rattle.std.specs.Prelude.{All}
use Rattle.slot_disk.specs.Stages.{IsWiped}
use Rattle.slot_disk.proofs.call.wipe_calls.Given as goal

abbrev pub invariant-loop-call : goal.invariant-loop-call
invariant-loop-call l = All IsWiped (take l.call-index l.calls)
