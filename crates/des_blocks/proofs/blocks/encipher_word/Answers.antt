use Rattle.std.proofs.Common.{◌∙◌, refl}
use Rattle.des_blocks.specs.Bits.{bits}
use Rattle.des_blocks.specs.Des.{places}
use Rattle.des_blocks.specs.Tables.{initial_permutation}
use Rattle.des_blocks.proofs.RoundLemmas.{crypt-first}
use Rattle.des_blocks.proofs.blocks.encipher_word.Goals as goal

pub returns : goal.returns
returns c =
    let both = places initial_permutation (bits 64 c.args.block) in
    c.final_block.ensures _ (c.forward.ensures both c.initial_halves.ensures) ∙ crypt-first _ (bits 64 c.args.block) both refl
