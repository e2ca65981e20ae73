use Rattle.std.proofs.Common.{◌≡◌, ℕ, List, [], ◌∷◌, ap, ◌∙◌, refl}
use Rattle.des_blocks.specs.Des.{look_up}
use Rattle.des_blocks.specs.Tables.{s6}
use Rattle.des_core.specs.Lanes.{lane}
use Rattle.des_core.proofs.LaneHalfLemmas.{group-lanes, ins, six-bits, six-twos}
use Rattle.des_core.proofs.lanes.rounds.entry_6.Goals as goal

pub returns-clause-vectors : goal.returns-clause-vectors
returns-clause-vectors c = c.s6.ensures.vectors

pub returns-clause-lanes : goal.returns-clause-lanes
returns-clause-lanes c e i h k =
    let right = c.args.right.now in
    let group = c.args.group in
    let masks : List (List ℕ) = c.key_lanes.result ∷ c.key_lanes-2.result ∷ c.key_lanes-3.result ∷ c.key_lanes-4.result ∷ c.key_lanes-5.result ∷ c.key_lanes-6.result ∷ [] in
    let by_box : lane e i (c.s6.result.0 ∷ c.s6.result.1 ∷ c.s6.result.2 ∷ c.s6.result.3 ∷ []) ≡ look_up s6 (lane e i (ins 30 right masks)) = c.s6.ensures.lanes e i h k in
    by_box ∙ ap (look_up s6) (six-bits 30 e i group right masks h c.told-right c.requires refl
    (six-twos _ _ _ _ _ _ c.key_lanes.ensures.vector c.key_lanes-2.ensures.vector c.key_lanes-3.ensures.vector c.key_lanes-4.ensures.vector c.key_lanes-5.ensures.vector c.key_lanes-6.ensures.vector)
    (group-lanes e i group _ _ _ _ _ _ (c.key_lanes.ensures.bits e i h k) (c.key_lanes-2.ensures.bits e i h k) (c.key_lanes-3.ensures.bits e i h k) (c.key_lanes-4.ensures.bits e i h k) (c.key_lanes-5.ensures.bits e i h k) (c.key_lanes-6.ensures.bits e i h k)))
