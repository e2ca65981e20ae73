use Rattle.des_core.proofs.LaneChainLemmas.{Taking}
use Rattle.des_core.proofs.lanes.chains.words_of.Given as goal

abbrev pub invariant-loop-pair : goal.invariant-loop-pair
invariant-loop-pair l = record { taking : Taking l.part l.words l.pair }
