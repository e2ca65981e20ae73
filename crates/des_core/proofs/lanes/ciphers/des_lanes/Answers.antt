use Rattle.std.proofs.Common.{◌∙◌}
use Rattle.des_blocks.specs.Schedules.{ordered}
use Rattle.des_core.specs.Lanes.{lane}
use Rattle.des_core.proofs.CipherLemmas.{one-cipher}
use Rattle.des_core.proofs.lanes.ciphers.des_lanes.Goals as goal

pub returns-clause-lanes : goal.returns-clause-lanes
unfolding ordered
returns-clause-lanes c e i h k =
    c.final_words.ensures.lanes e i
    ∙ one-cipher c.args.keys.now _ (lane e i c.initial_left-left.result) (lane e i c.initial_right-right.result) (lane e i c.sixteen_rounds.new.left) (lane e i c.sixteen_rounds.new.right)
    (c.initial_left-left.ensures.lanes e i) (c.initial_right-right.ensures.lanes e i) (c.sixteen_rounds.ensures.lanes e i h k)
