use Rattle.std.proofs.Common.{refl, sym, ap, ◌∙◌, arith}
use Rattle.des_blocks.specs.Bits.{xor}
use Rattle.des_blocks.specs.Des.{f}
use Rattle.des_blocks.specs.Schedules.{keys_of, ordered}
use Rattle.des_blocks.proofs.GroupLemmas.{key-at, length-ordered}
use Rattle.des_core.specs.Lanes.{lane}
use Rattle.des_core.proofs.CipherLemmas.{rounds-more}
use Rattle.des_core.proofs.lanes.ciphers.two_rounds.Goals as goal

pub returns-clause-lanes : goal.returns-clause-lanes
returns-clause-lanes c e i h k =
    let keys = c.args.keys.now in
    let all = ordered c.args.reversed (keys_of keys) in
    let long = length-ordered c.args.reversed keys in
    let left = lane e i c.args.left.now in
    let right = lane e i c.args.right.now in
    let next = lane e i c.next_half.new.left in
    rounds-more all left right next (lane e i c.next_half-2.new.left) _ c.args.two (omega (arith, c.requires.two, long))
    (c.next_half.ensures.lanes e i h k ∙ ap (λ key. xor left (f right key)) (sym (key-at keys c.key_place.result c.key_place.ensures.within) ∙ c.key_place.ensures.key keys))
    (c.next_half-2.ensures.lanes e i h k ∙ ap (λ key. xor right (f next key)) (sym (key-at keys c.key_place-2.result c.key_place-2.ensures.within) ∙ c.key_place-2.ensures.key keys))
    refl
