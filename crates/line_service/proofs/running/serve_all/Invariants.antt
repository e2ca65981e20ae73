use Rattle.std.proofs.Common.{◌≡◌}
use Rattle.key_cells.specs.Bench.{blank_bench}
use Rattle.line_service.specs.Reading.{bytes_ahead}
use Rattle.line_service.specs.Devices.{outside, devices}
use Rattle.line_service.proofs.ProgressLemmas.{HasLines}
use Rattle.line_service.proofs.running.serve_all.Given as goal

abbrev pub invariant-each_line : goal.invariant-each_line
invariant-each_line g l = record {
  lines : HasLines g.A.Desk.machine (g.A.Desk.knows l.fn.desk) (g.A.Desk.knows l.desk)
      (outside (g.S.Source.left l.fn.source) (g.S.Source.faults l.fn.source) (g.K.Sink.held l.fn.sink) (g.K.Sink.faults l.fn.sink)
      (devices (g.M.Disk.medium l.fn.module) (g.M.Disk.faults l.fn.module) (g.D.Disk.medium l.fn.store) (g.D.Disk.faults l.fn.store) (g.E.Entropy.left l.fn.entropy) (g.E.Entropy.faults l.fn.entropy)))
      (outside (g.S.Source.left l.source) (g.S.Source.faults l.source) (g.K.Sink.held l.sink) (g.K.Sink.faults l.sink)
      (devices (g.M.Disk.medium l.module) (g.M.Disk.faults l.module) (g.D.Disk.medium l.store) (g.D.Disk.faults l.store) (g.E.Entropy.left l.entropy) (g.E.Entropy.faults l.entropy)))
      l.lines;
  ready : g.A.Desk.ready l.desk (g.M.Disk.medium l.module) (g.D.Disk.medium l.store);
  blank : l.bench ≡ blank_bench;
}

abbrev pub decreases-each_line : goal.decreases-each_line
decreases-each_line g l = bytes_ahead l.lines
