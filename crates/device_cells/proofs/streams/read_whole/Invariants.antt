use Rattle.std.proofs.Common.{◌≤◌, ◌-◌, length}
use Rattle.device_cells.proofs.streams.read_whole.Given as goal

abbrev pub invariant-loop-filled : goal.invariant-loop-filled
invariant-loop-filled g l = l.filled ≤ length l.initial.out

abbrev pub decreases-loop-filled : goal.decreases-loop-filled
decreases-loop-filled g l = length l.initial.out - l.filled
