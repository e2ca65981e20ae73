use Rattle.std.specs.Int.{to_be_bytes, w64}
use Rattle.des_core.proofs.LaneChainLemmas.{Chaining}
use Rattle.des_core.proofs.lanes.chains.put_chained.Given as goal

abbrev pub invariant-loop-pair : goal.invariant-loop-pair
invariant-loop-pair l = record { chaining : Chaining l.words (to_be_bytes w64 l.start) (to_be_bytes w64 l.chain) l.fn.part l.part l.pair }
