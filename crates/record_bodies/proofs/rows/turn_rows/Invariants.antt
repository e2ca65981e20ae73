-- The rows before are turned, the others as they were.
use Rattle.std.proofs.Common.{◌≡◌, ◌<◌, ◌≤◌, ℕ, None, length, get_or}
use Rattle.record_bodies.specs.Entries.{turned}
use Rattle.record_bodies.proofs.rows.turn_rows.Given as goal

abbrev pub invariant-loop-row : goal.invariant-loop-row
invariant-loop-row l = record {
  done : (k : ℕ) → k < l.row-index → get_or l.rows k None ≡ turned (get_or l.fn.rows k None);
  rest : (k : ℕ) → l.row-index ≤ k → get_or l.rows k None ≡ get_or l.fn.rows k None;
  size : length l.rows ≡ length l.fn.rows;
}
