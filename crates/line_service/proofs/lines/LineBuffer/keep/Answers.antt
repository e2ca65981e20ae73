-- The kept part stands at the end of the line, and the others are pending still.
use Rattle.std.proofs.Common.{◌+◌, ◌-◌, ◌≤◌, ◌++◌, min, length, ap, ◌∙◌, arith}
use Rattle.std.specs.List.{slice_range}
use Rattle.line_service.proofs.PartLemmas.{same-reading, kept_front, rest_of_range, length-slice_range_le}
use Rattle.line_service.proofs.lines.LineBuffer.keep.Goals as goal

pub returns : goal.returns
returns c =
    let b = c.self.inside in
    let count = c.args.count in
    let sized = c.len.ensures ∙ b.line.ok.0 in
    let kept = c.min-kept.ensures ∙ ap (λ n. min count (9217 - n)) sized in
    let moved =
    ap (λ xs. b.line.items ++ slice_range xs b.start (b.start + c.min-kept.result)) c.as_slice.ensures.value
    ∙ ap (λ k. b.line.items ++ slice_range b.chunk.items b.start (b.start + k)) kept in
    let pending = ap (λ r. length r.pending) c.self.view_is in
    let within : b.start + count ≤ b.end = omega (arith, c.requires, pending, length-slice_range_le b.chunk.items b.start b.end) in
    rw (← c.self.view_is) (same-reading _ _ _ _ _ _
    (c.append.ensures.items ∙ moved ∙ kept_front b.line.items b.chunk.items count b.start b.end 9217 c.self.invariant.line within)
    (rest_of_range b.chunk.items count b.start b.end within))
