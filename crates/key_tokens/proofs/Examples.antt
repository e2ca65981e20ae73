-- A published example, computed by the definitions: a zero key of single length under a transport key of sixteen
-- bytes 01, whose halves are DES keys of zeros but for their parity bits.
use Rattle.std.proofs.Common.{◌≡◌, ℕ, List, [], ◌∷◌, ◌++◌, Some, refl}
use Rattle.std.specs.Prelude.{replicate}
use Rattle.des_blocks.specs.Bits.{bits, byte_bits, number, pieces, to_bytes, xor}
use Rattle.des_blocks.specs.Des.{crypt, f, key_schedule, look_up, places, round_keys, rounds, substitute}
use Rattle.des_blocks.specs.TripleDes.{deciphered, ded, enciphered}
use Rattle.multi_encipher.specs.Seals.{variant_key, opened_half, unseal}
use Rattle.key_tokens.specs.Denotes.{denoted_under}
use Rattle.key_tokens.specs.Tvv.{tvv_of}

abbrev data_token : List ℕ
data_token =
    0x02 ∷ 0 ∷ 0 ∷ 0 ∷ 0 ∷ 0 ∷ 0xc0 ∷ 0 ∷ (replicate 8 0
    ++ (0x8c ∷ 0xa6 ∷ 0x4d ∷ 0xe9 ∷ 0xc1 ∷ 0xb1 ∷ 0x23 ∷ 0xa7 ∷ (replicate 36 0 ++ (0x50 ∷ 0x58 ∷ 0x31 ∷ 0x90 ∷ []))))

pub data_token_denotes : denoted_under (replicate 16 1) data_token ≡ Some (record { key = replicate 8 0; vector = replicate 16 0 })
unfolding denoted_under tvv_of unseal opened_half variant_key ded enciphered deciphered to_bytes pieces crypt places number rounds round_keys key_schedule xor f byte_bits bits substitute look_up lib.Count.ones
data_token_denotes = refl
