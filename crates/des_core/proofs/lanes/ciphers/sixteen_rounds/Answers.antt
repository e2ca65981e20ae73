use Rattle.std.proofs.Common.{refl, ◌∙◌, arith}
use Rattle.des_blocks.specs.Schedules.{keys_of, ordered}
use Rattle.des_blocks.proofs.GroupLemmas.{length-ordered}
use Rattle.des_core.specs.Lanes.{lane}
use Rattle.des_core.proofs.CipherLemmas.{rounds-done}
use Rattle.des_core.proofs.lanes.ciphers.sixteen_rounds.Goals as goal

pub loop-two-init : goal.loop-two-init
loop-two-init c = record { left = c.requires.left; right = c.requires.right; lanes = λ e i h k. refl }

pub loop-two-preserved : goal.loop-two-preserved
loop-two-preserved c = record {
  left = c.two_rounds.ensures.left;
  right = c.two_rounds.ensures.right;
  lanes = λ e i h k. c.two_rounds.ensures.lanes e i h k ∙ c.loop-two.invariant.lanes e i h k;
}

pub returns-clause-lanes : goal.returns-clause-lanes
returns-clause-lanes c e i h k =
    let long = length-ordered c.args.reversed c.args.keys.now in
    rounds-done (ordered c.args.reversed (keys_of c.args.keys.now)) (lane e i c.loop-two.left) (lane e i c.loop-two.right) _ c.loop-two.two (omega arith) (c.loop-two.invariant.lanes e i h k)
