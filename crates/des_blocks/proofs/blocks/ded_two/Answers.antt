use Rattle.std.proofs.Common.{◌∙◌, refl}
use Rattle.des_blocks.specs.Bits.{bits}
use Rattle.des_blocks.specs.Des.{places}
use Rattle.des_blocks.specs.Tables.{initial_permutation}
use Rattle.des_blocks.proofs.RoundLemmas.{ded-words}
use Rattle.des_blocks.proofs.blocks.ded_two.Goals as goal

pub returns : goal.returns
returns c =
    let both = places initial_permutation (bits 64 c.args.block) in
    let others = places initial_permutation (bits 64 c.args.other) in
    let one = c.backward_two.ensures.first both c.initial_halves.ensures in
    let two = c.forward_two.ensures.first _ one in
    let other_one = c.backward_two.ensures.second others c.initial_halves-2.ensures in
    let other_two = c.forward_two.ensures.second _ other_one in
    record {
      first = c.final_block.ensures _ (c.backward_two-2.ensures.first _ two) ∙ ded-words c.args.keys.now (bits 64 c.args.block) both _ _ _ _ refl one two;
      second = c.final_block-2.ensures _ (c.backward_two-2.ensures.second _ other_two) ∙ ded-words c.args.keys.now (bits 64 c.args.other) others _ _ _ _ refl other_one other_two;
    }
