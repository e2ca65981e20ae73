-- The memory knows the labels of the cells before, and no others.
use Rattle.std.proofs.Common.{◌≡◌}
use Rattle.key_records.specs.Changes.{ChangesKeyAndBody}
use Rattle.device_cells.specs.Medium.{Told, Keeps}
use Rattle.verb_rules.specs.Keys.{keys_of}
use Rattle.record_bodies.specs.Opening.{OpenedTo}
use Rattle.record_bodies.specs.Rows.{AreRows}
use Rattle.key_records.proofs.opening.open_cells.Given as goal

abbrev pub ghost-open_cell : goal.ghost-open_cell
ghost-open_cell g a = g.m

abbrev pub invariant-loop-cell : goal.invariant-loop-cell
invariant-loop-cell g l = record {
  opened : Told (g.D.Disk.medium l.fn.store) (λ image. OpenedTo (keys_of g.m) image l.cell l.records);
  rows : AreRows l.records;
  keeps : Keeps (g.D.Disk.medium l.fn.store) (g.D.Disk.medium l.store);
  quiet : g.D.Disk.faults l.store ≡ g.D.Disk.faults l.fn.store;
  rest : ChangesKeyAndBody l.fn.lease l.lease;
}
