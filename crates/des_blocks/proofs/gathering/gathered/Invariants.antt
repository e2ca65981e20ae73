use Rattle.std.proofs.Common.{◌≡◌, drop, bit_xor}
use Rattle.des_blocks.specs.Gathering.{gathered}
use Rattle.des_blocks.proofs.gathering.gathered.Given as goal

abbrev pub invariant-loop-row : goal.invariant-loop-row
invariant-loop-row g l = record {
  value : bit_xor l.out (gathered g.row.ENTRIES g.row.BITS (drop l.row-index l.rows) l.rest) ≡ gathered g.row.ENTRIES g.row.BITS l.rows l.word;
}
