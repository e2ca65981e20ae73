use Rattle.std.proofs.Common.{◌∙◌, refl}
use Rattle.des_blocks.specs.Bits.{bits}
use Rattle.des_blocks.specs.Des.{places}
use Rattle.des_blocks.specs.Tables.{initial_permutation}
use Rattle.des_blocks.proofs.RoundLemmas.{crypt-first}
use Rattle.des_blocks.proofs.blocks.decipher_two.Goals as goal

pub returns : goal.returns
returns c =
    let both = places initial_permutation (bits 64 c.args.block) in
    let others = places initial_permutation (bits 64 c.args.other) in
    record {
      first = c.final_block.ensures _ (c.backward_two.ensures.first both c.initial_halves.ensures) ∙ crypt-first _ (bits 64 c.args.block) both refl;
      second = c.final_block-2.ensures _ (c.backward_two.ensures.second others c.initial_halves-2.ensures) ∙ crypt-first _ (bits 64 c.args.other) others refl;
    }
