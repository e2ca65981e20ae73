use Rattle.std.proofs.Common.{refl}
use Rattle.des_core.proofs.LaneChainLemmas.{taking-begun, taking-more}
use Rattle.des_core.proofs.lanes.chains.words_of.Goals as goal

pub loop-pair-init : goal.loop-pair-init
loop-pair-init c = record { taking = taking-begun c.args.part.now _ refl }

pub loop-pair-preserved : goal.loop-pair-preserved
loop-pair-preserved c = record {
  taking = taking-more c.args.part.now c.loop-pair.words c.loop-pair.pair _ _ c.loop-pair-test.true c.word_at-first.ensures c.word_at-second.ensures c.loop-pair.invariant.taking;
}
