use Rattle.std.proofs.Common.{◌≡◌, ◌*◌, ◌-◌, drop, take, refl, ap, ◌∙◌, arith}
use Rattle.std.specs.Int.{to_be_bytes, w64}
use Rattle.des_core.proofs.LaneChainLemmas.{chaining-begun, chaining-done, chaining-more}
use Rattle.des_core.proofs.lanes.chains.put_chained.Goals as goal

pub loop-pair-init : goal.loop-pair-init
loop-pair-init c = record { chaining = chaining-begun c.args.words.now (to_be_bytes w64 c.args.start) c.args.part.now c.requires.size }

pub loop-pair-preserved : goal.loop-pair-preserved
loop-pair-preserved c = record {
  chaining = chaining-more c.args.words.now _ _ c.args.part.now c.loop-pair.part c.put_pair-chain.new.part _ c.loop-pair.pair c.loop-pair-test.true refl
      c.put_pair-chain.ensures.block c.put_pair-chain.ensures.bytes c.requires.size c.loop-pair.invariant.chaining;
}

pub returns-clause-bytes : goal.returns-clause-bytes
returns-clause-bytes c d holds = chaining-done c.args.words.now _ _ c.args.part.now c.loop-pair.part c.loop-pair.pair (omega arith) c.loop-pair.invariant.chaining d holds

pub returns-clause-block : goal.returns-clause-block
returns-clause-block c =
    let at : 16 * c.loop-pair.pair - 8 ≡ 1016 = omega arith in
    c.loop-pair.invariant.chaining.last (omega arith) ∙ ap (λ n. take 8 (drop n c.args.part.now)) at
