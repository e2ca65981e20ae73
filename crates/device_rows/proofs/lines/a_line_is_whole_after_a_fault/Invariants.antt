-- Where the source gave its end, it has no byte left.
use Rattle.std.proofs.Common.{Some, IsTrue}
use Rattle.std.specs.Io.KnownBytes.{IsAtEnd}
use Rattle.device_rows.proofs.lines.a_line_is_whole_after_a_fault.Given as goal

abbrev pub invariant-loop-wanted : goal.invariant-loop-wanted
invariant-loop-wanted g l = IsTrue l.lines.ended → IsAtEnd (Some l.source.left)
