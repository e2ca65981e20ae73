-- The pending bytes begin one place further on.
use Rattle.std.proofs.Common.{◌+◌, ◌≤◌, length, refl, ap, arith}
use Rattle.line_service.proofs.PartLemmas.{same-reading, rest_of_range, length-slice_range_le}
use Rattle.line_service.proofs.lines.LineBuffer.skip_newline.Goals as goal

pub returns : goal.returns
returns c =
    let b = c.self.inside in
    let pending = ap (λ r. length r.pending) c.self.view_is in
    let within : b.start + 1 ≤ b.end = omega (arith, c.requires, pending, length-slice_range_le b.chunk.items b.start b.end) in
    rw (← c.self.view_is) (same-reading _ _ _ _ _ _ refl (rest_of_range b.chunk.items 1 b.start b.end within))
