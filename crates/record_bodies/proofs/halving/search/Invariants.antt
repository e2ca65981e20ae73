-- The labels below `low` are less, and those from `high` on are greater. Each step halves what is between.
use Rattle.std.proofs.Common.{◌≤◌, ◌<◌, ◌+◌, ◌-◌, ◌*◌, ◌^◌, ℕ, length}
use Rattle.record_bodies.specs.Ascending.{IsBefore, labels_of, text_at}
use Rattle.record_bodies.specs.Entries.{row_directory}
use Rattle.record_bodies.proofs.halving.search.Given as goal

abbrev pub invariant-halves : goal.invariant-halves
invariant-halves g l = record {
  within : l.high ≤ length l.cells;
  ordered : l.low ≤ l.high;
  before : (k : ℕ) → k < l.low → IsBefore (text_at (labels_of (row_directory l.rows) l.cells) k) l.label;
  after : (k : ℕ) → l.high ≤ k → k < length l.cells → IsBefore l.label (text_at (labels_of (row_directory l.rows) l.cells) k);
  later : l.initial.steps ≤ l.steps;
  halved : 2 ^ (l.steps - l.initial.steps) * (l.high - l.low) ≤ length l.cells;
  few : 2 ^ (l.steps - l.initial.steps) ≤ 2 * length l.cells + 1;
}

abbrev pub decreases-halves : goal.decreases-halves
decreases-halves g l = l.high - l.low
