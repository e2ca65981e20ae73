use Rattle.std.proofs.Common.{◌≡◌, length, ◌∙◌, rules}
use Rattle.des_blocks.specs.Schedules.{ordered}
use Rattle.des_core.specs.Lanes.{lane}
use Rattle.des_core.proofs.CipherLemmas.{length-lane, three-ciphers}
use Rattle.des_core.proofs.lanes.ciphers.triple_lanes.Goals as goal

pub returns-clause-lanes : goal.returns-clause-lanes
unfolding ordered
returns-clause-lanes c e i h k =
    let l1 = c.sixteen_rounds.new.left in
    let r1 = c.sixteen_rounds.new.right in
    let l2 = c.sixteen_rounds-2.new.right in
    let r2 = c.sixteen_rounds-2.new.left in
    let l3 = c.sixteen_rounds-3.new.left in
    let r3 = c.sixteen_rounds-3.new.right in
    let long_l1 : length l1 ≡ 32 = search rules in
    let long_r1 : length r1 ≡ 32 = search rules in
    let long_l2 : length l2 ≡ 32 = search rules in
    let long_r2 : length r2 ≡ 32 = search rules in
    c.final_words.ensures.lanes e i
    ∙ three-ciphers c.args.keys.now _ (lane e i c.initial_left-left.result) (lane e i c.initial_right-right.result) (lane e i l1) (lane e i r1) (lane e i l2) (lane e i r2) (lane e i l3) (lane e i r3)
    (c.initial_left-left.ensures.lanes e i) (c.initial_right-right.ensures.lanes e i)
    (length-lane e i l1 ∙ long_l1) (length-lane e i r1 ∙ long_r1) (length-lane e i l2 ∙ long_l2) (length-lane e i r2 ∙ long_r2)
    (c.sixteen_rounds.ensures.lanes e i h k) (c.sixteen_rounds-2.ensures.lanes e i h k) (c.sixteen_rounds-3.ensures.lanes e i h k)
