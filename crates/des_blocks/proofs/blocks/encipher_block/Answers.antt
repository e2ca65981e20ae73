use Rattle.std.proofs.Common.{◌≡◌, ℕ, ◌<◌, length, get_or, ap, ◌∙◌, rules}
use Rattle.des_blocks.specs.Bits.{byte_bits}
use Rattle.des_blocks.specs.Des.{encipher}
use Rattle.des_blocks.specs.Schedules.{keys_of}
use Rattle.des_blocks.proofs.ByteLemmas.{bits-from_be_bytes, byte_bits-to_be_bytes, small-to_be_bytes}
use Rattle.des_blocks.proofs.CallLemmas.{enciphered-is}
use Rattle.des_blocks.proofs.blocks.encipher_block.Goals as goal

pub returns-clause-bits : goal.returns-clause-bits
returns-clause-bits c =
    let long : length c.args.block.now ≡ 8 = search rules in
    let small : (i : ℕ) → get_or c.args.block.now i 0 < 256 = search rules in
    ap byte_bits c.to_be_bytes.ensures ∙ byte_bits-to_be_bytes c.encipher_word.result ∙ c.encipher_word.ensures
    ∙ ap (encipher (keys_of c.args.keys.now)) (bits-from_be_bytes c.args.block.now c.from_be_bytes.result long small c.from_be_bytes.ensures)

pub returns-clause-bytes : goal.returns-clause-bytes
returns-clause-bytes c key of = enciphered-is c.args.keys.now key c.args.block.now _ (rw c.to_be_bytes.ensures (small-to_be_bytes c.encipher_word.result)) (returns-clause-bits c) of
