use Rattle.std.proofs.Common.{◌≡◌}
use Rattle.des_core.specs.Stages.{first_row, second_row}
use Rattle.des_core.proofs.StageLemmas.{paired}
use Rattle.des_core.proofs.lanes.transposition.stage.Given as goal

abbrev pub invariant-loop-pair : goal.invariant-loop-pair
invariant-loop-pair l = record {
  rows : l.words ≡ paired (first_row l.apart l.mask) (second_row l.apart l.mask) l.apart l.pair l.fn.words;
}
