use Rattle.std.proofs.Common.{◌≡◌, ◌≤◌, ◌-◌, List, []}
use Rattle.device_cells.specs.Medium.{Told, Keeps}
use Rattle.device_cells.specs.WhereTold.{WhereTold}
use Rattle.line_service.specs.Sending.{Grows}
use Rattle.audit_trail.specs.TrailStands.{IsTrail}
use Rattle.audit_trail.specs.declared.entries.Entry.{Entry as AnyEntry}
use Rattle.audited_service.proofs.SendingLaws.{HasLinesBelow}
use Rattle.audited_service.proofs.ReadLaws.{HasRead}
use Rattle.audited_service.proofs.listing.send_records.Given as goal

-- the lines of the numbers so far, and what is as before
abbrev pub invariant-loop-number : goal.invariant-loop-number
invariant-loop-number g l = record {
  told : Told (g.T.Disk.medium l.fn.trail) (λ image. (es : List AnyEntry) → IsTrail image es → HasLinesBelow es l.number (g.K.Sink.held l.fn.sink) (g.K.Sink.held l.sink));
  own : HasRead (l.held - 4096) l.number (g.K.Sink.held l.fn.sink) (g.K.Sink.held l.sink);
  grows : WhereTold (g.K.Sink.held l.fn.sink) (g.K.Sink.held l.sink) Grows;
  keeps : Keeps (g.T.Disk.medium l.fn.trail) (g.T.Disk.medium l.trail);
  trail_quiet : g.T.Disk.faults l.trail ≡ g.T.Disk.faults l.fn.trail;
  sink_quiet : g.K.Sink.faults l.sink ≡ g.K.Sink.faults l.fn.sink;
  from : l.next - 4096 ≤ l.number;
  empty : l.line ≡ [];
}
