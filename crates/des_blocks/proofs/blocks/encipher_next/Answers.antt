use Rattle.std.proofs.Common.{refl}
use Rattle.des_blocks.specs.Bits.{bits, xor}
use Rattle.des_blocks.specs.Des.{places}
use Rattle.des_blocks.specs.Schedules.{keys_of}
use Rattle.des_blocks.specs.Tables.{initial_permutation}
use Rattle.des_blocks.proofs.RoundLemmas.{enciphered-halves}
use Rattle.des_blocks.proofs.blocks.encipher_next.Goals as goal

pub returns : goal.returns
returns c before size are =
    let block = xor (bits 64 c.args.block) before in
    let both = places initial_permutation block in
    enciphered-halves (keys_of c.args.keys.now) _ _ block both refl (c.forward.ensures both (c.joined.ensures before size are))
