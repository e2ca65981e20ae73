-- The store has come as far as the cell.
use Rattle.std.proofs.Common.{◌≤◌, List, Option, Ok}
use Rattle.key_cells.specs.Lease.{bench_of}
use Rattle.device_cells.specs.Medium.{Told}
use Rattle.record_bodies.specs.Entries.{Entry}
use Rattle.record_bodies.specs.StoreStands.{KeepsLabels}
use Rattle.master_registers.specs.Loaded.{Loaded}
use Rattle.master_registers.specs.Masters.{Masters}
use Rattle.verb_rules.specs.Keys.{keys_of}
use Rattle.reencipher.specs.Runs.{IsLabelCell, LeavesAnyStore}
use Rattle.reencipher.proofs.RowLaws.{HasTurnedTo}
use Rattle.reencipher.proofs.RunLaws.{Reaches}
use Rattle.reencipher.proofs.running.run_action.Given as goal

abbrev pub invariant-loop-cell : goal.invariant-loop-cell
invariant-loop-cell g l = record {
  labels : (m : Masters) (s : List (Option Entry)) → Loaded m l.held (bench_of l.fn.lease) → Told (g.D.Disk.medium l.fn.store) (KeepsLabels (keys_of m) l.fn.records s)
      → Reaches l.action (keys_of m) s l.cell l.changed l.records (g.D.Disk.medium l.fn.store) (g.D.Disk.medium l.store);
  cells : HasTurnedTo l.action l.held l.fn.records l.cell l.changed l.records (g.D.Disk.medium l.fn.store) (g.D.Disk.medium l.store);
  left : LeavesAnyStore g.D.Disk.medium g.D.Disk.faults (IsLabelCell l.fn.records) l.fn.lease l.lease l.fn.records l.records l.fn.store l.store (Ok l.changed);
  few : l.changed ≤ l.cell;
}
