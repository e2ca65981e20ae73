-- The words before `at` are joined, and the rest is as before.
use Rattle.std.proofs.Common.{◌≡◌, ◌++◌, take, drop, length}
use Rattle.des_blocks.specs.Bits.{xor}
use Rattle.des_blocks.proofs.gathering.join.Given as goal

abbrev pub invariant-loop-at : goal.invariant-loop-at
invariant-loop-at l = record {
  size : length l.words ≡ 16;
  front : l.words ≡ xor (take l.at l.initial.words) (take l.at l.others) ++ drop l.at l.initial.words;
}
