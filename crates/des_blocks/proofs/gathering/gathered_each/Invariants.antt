use Rattle.std.proofs.Common.{◌≡◌, ℕ, ◌<◌, drop, length, slice_index, bit_xor}
use Rattle.des_blocks.specs.Gathering.{column, gathered}
use Rattle.des_blocks.proofs.gathering.gathered_each.Given as goal

abbrev pub invariant-loop-row : goal.invariant-loop-row
invariant-loop-row l = record {
  size : length l.out ≡ 16;
  value : (at : ℕ) → at < 16 → bit_xor (slice_index l.out at) (gathered 16 4 (column at (drop l.row-index l.rows)) l.rest) ≡ gathered 16 4 (column at l.rows) l.word;
}
