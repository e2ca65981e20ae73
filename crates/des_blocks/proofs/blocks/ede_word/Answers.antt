use Rattle.std.proofs.Common.{◌∙◌, refl}
use Rattle.des_blocks.specs.Bits.{bits}
use Rattle.des_blocks.specs.Des.{places}
use Rattle.des_blocks.specs.Tables.{initial_permutation}
use Rattle.des_blocks.proofs.RoundLemmas.{ede-words}
use Rattle.des_blocks.proofs.blocks.ede_word.Goals as goal

pub returns : goal.returns
returns c =
    let both = places initial_permutation (bits 64 c.args.block) in
    let one = c.forward-one.ensures both c.initial_halves.ensures in
    let two = c.backward-two.ensures _ one in
    c.final_block.ensures _ (c.forward.ensures _ two) ∙ ede-words c.args.keys.now (bits 64 c.args.block) both _ _ _ _ refl one two
