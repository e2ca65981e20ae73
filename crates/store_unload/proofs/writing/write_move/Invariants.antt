use Rattle.std.proofs.Common.{◌≡◌}
use Rattle.device_cells.specs.Medium.{Keeps, Told}
use Rattle.device_cells.specs.WhereTold.{WhereTold}
use Rattle.key_cells.specs.Lease.{bench_of}
use Rattle.record_bodies.specs.Directory.{held_count}
use Rattle.record_bodies.specs.Entries.{row_directory}
use Rattle.record_bodies.specs.StoreStands.{KeepsLabels}
use Rattle.line_service.specs.Sending.{Grows}
use Rattle.master_registers.specs.Loaded.{Loaded}
use Rattle.master_registers.specs.Masters.{Masters}
use Rattle.verb_rules.specs.Keys.{keys_of, opened}
use Rattle.cca_machine.specs.State.{State}
use Rattle.store_unload.specs.Moves.{clear_of}
use Rattle.store_unload.specs.Telling.{KeepsMasters}
use Rattle.store_unload.specs.Writing.{GotParts}
use Rattle.store_unload.proofs.PartLaws.{HasTold}
use Rattle.store_unload.proofs.writing.write_move.Given as goal

-- what the labels so far added, and what is as before
abbrev pub invariant-loop-index : goal.invariant-loop-index
invariant-loop-index g l = record {
  all : l.index-end ≡ held_count (row_directory l.records);
  tells : (s : State) → Loaded s.registers l.held (bench_of l.fn.lease)
      → Told (g.D.Disk.medium l.fn.store) (KeepsLabels (keys_of s.registers) l.records s.labels)
      → opened (bench_of l.fn.lease) l.transport ≡ clear_of s l.how.transport
      → Told (g.D.Disk.medium l.fn.store) (λ _. HasTold s l.how l.index (g.K.Sink.held l.fn.file) (g.K.Sink.held l.file) (g.P.Sink.held l.fn.report) (g.P.Sink.held l.report));
  own : (m : Masters) → Loaded m l.held (bench_of l.fn.lease)
      → GotParts (keys_of m) l.how l.records (opened (bench_of l.fn.lease) l.transport).key l.index
      (g.K.Sink.held l.fn.file) (g.K.Sink.held l.file) (g.P.Sink.held l.fn.report) (g.P.Sink.held l.report);
  file_grows : WhereTold (g.K.Sink.held l.fn.file) (g.K.Sink.held l.file) Grows;
  report_grows : WhereTold (g.P.Sink.held l.fn.report) (g.P.Sink.held l.report) Grows;
  file_quiet : g.K.Sink.faults l.file ≡ g.K.Sink.faults l.fn.file;
  report_quiet : g.P.Sink.faults l.report ≡ g.P.Sink.faults l.fn.report;
  store_quiet : g.D.Disk.faults l.store ≡ g.D.Disk.faults l.fn.store;
  keeps : Keeps (g.D.Disk.medium l.fn.store) (g.D.Disk.medium l.store);
  masters : KeepsMasters l.fn.lease l.lease;
}
