-- Each cell before holds a label.
use Rattle.std.proofs.Common.{◌≡◌, drop}
use Rattle.record_bodies.specs.Directory.{free_from}
use Rattle.record_bodies.specs.Entries.{row_directory}
use Rattle.record_bodies.proofs.rows.free_in.Given as goal

abbrev pub invariant-loop-cell : goal.invariant-loop-cell
invariant-loop-cell l = free_from l.cell (drop l.cell (row_directory l.rows)) ≡ free_from 0 (row_directory l.rows)
