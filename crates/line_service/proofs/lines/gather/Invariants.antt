-- While no newline was found: what was gathered so far, that no read failed, and whether the source was read.
use Rattle.std.proofs.Common.{◌≡◌, ◌+◌, ◌-◌, ◌⊎◌, [], cond}
use Rattle.line_service.specs.Reading.{IsReady, input_limit}
use Rattle.line_service.specs.Gathering.{Gathering}
use Rattle.line_service.proofs.lines.gather.Given as goal

abbrev pub invariant-parts : goal.invariant-parts
invariant-parts g l =
    Gathering [] (g.S.Source.left l.initial.source) (g.S.Source.left l.source) l.initial.buffer l.buffer
    × (g.S.Source.faults l.source ≡ g.S.Source.faults l.initial.source)
    × ((l.source ≡ l.initial.source) × (l.buffer ≡ l.initial.buffer) ⊎ (IsReady l.initial.buffer → ⊥))

abbrev pub decreases-parts : goal.decreases-parts
decreases-parts g l = input_limit - l.buffer.taken + cond l.buffer.ended 0 1
