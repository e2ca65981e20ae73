-- The table of the key schedule: at each round the words of its rows are a table of places of the key.
use Rattle.std.proofs.Common.{◌≡◌, ℕ, zero, suc, ◌*◌, ◌^◌, ◌<◌, Bool, true, List, ◌++◌, length, take, drop, slice_index, bit_xor, refl, sym, ap, ◌∙◌, arith}
use Rattle.std.specs.Int.{w64, byte_at, bytes_low_first, to_le_bytes}
use Rattle.des_blocks.specs.Bits.{bits, xor}
use Rattle.des_blocks.specs.Des.{places, key_schedule}
use Rattle.des_blocks.specs.Gathering.{column, gathered}
use Rattle.des_blocks.specs.Schedules.{AreKeysOf, group_bits, key_in}
use Rattle.des_blocks.specs.declared.key_tables.TheConstants.{PIECES}
use Rattle.des_blocks.proofs.Numbers.{key_numbers}
use Rattle.des_blocks.proofs.BitLemmas.{length-bits, bits-xor}
use Rattle.des_blocks.proofs.GatherLemmas.{Reads, all_below, from-all_below, gathered-whole, row_holds, rows_hold, same}
use Rattle.des_blocks.proofs.GroupLemmas.{length-group_bits}
use Rattle.des_blocks.proofs.HalfLemmas.{reads-bits}
use Rattle.des_blocks.proofs.KeyLemmas.{key-at_numbers}
use Rattle.des_blocks.proofs.PlaceLemmas.{drop-places, take-places}
use Rattle.des_blocks.proofs.XorLemmas.{byte-xor, xor-append}

-- ---- a round key in a word

low-xor : (i k a b : ℕ) → group_bits (bytes_low_first i k (bit_xor a b)) ≡ xor (group_bits (bytes_low_first i k a)) (group_bits (bytes_low_first i k b))
unfolding group_bits xor
low-xor i zero a b = refl
low-xor i (suc k) a b =
    ap (λ n. bits 6 n ++ group_bits (bytes_low_first (suc i) k (bit_xor a b))) (byte-xor i a b)
    ∙ ap (λ xs. xs ++ group_bits (bytes_low_first (suc i) k (bit_xor a b))) (bits-xor 6 (byte_at i a) (byte_at i b))
    ∙ ap (λ xs. xor (bits 6 (byte_at i a)) (bits 6 (byte_at i b)) ++ xs) (low-xor (suc i) k a b)
    ∙ sym (xor-append (bits 6 (byte_at i a)) (group_bits (bytes_low_first (suc i) k a)) (bits 6 (byte_at i b)) (group_bits (bytes_low_first (suc i) k b))
    (length-bits 6 (byte_at i a) ∙ sym (length-bits 6 (byte_at i b))))

length-key_in : (word : ℕ) → length (key_in word) ≡ 48
length-key_in word = length-group_bits (to_le_bytes w64 word)

reads-key_in : Reads key_in
reads-key_in = record { sum = λ a b. low-xor 0 8 a b; size = λ a b. length-key_in a ∙ sym (length-key_in b) }

-- ---- the code's table, by computation of all its entries

-- the numbers of the key bits that make the round key of a round, from 0
abbrev numbers_of : ℕ → List ℕ
numbers_of round = take 48 (drop (48 * round) key_numbers)

unfoldable round_holds : ℕ → Bool
round_holds round = rows_hold key_in (bits 64) (numbers_of round) 16 4 0 (column round PIECES)

rounds-hold : all_below round_holds 16 ≡ true
unfolding round_holds rows_hold row_holds bits places group_bits same key_numbers key_schedule
rounds-hold = refl

pub pieces-are : (words : List ℕ) (key : ℕ) → key < 2 ^ 64 → ((at : ℕ) → at < 16 → slice_index words at ≡ gathered 16 4 (column at PIECES) key) → AreKeysOf words (bits 64 key)
unfolding round_holds
pieces-are words key fits each round h =
    ap key_in (each round h)
    ∙ gathered-whole key_in (bits 64) reads-key_in (reads-bits 64) (numbers_of round) 16 4 (λ x. omega arith) (column round PIECES) key
    (from-all_below round_holds 16 round rounds-hold h) fits
    ∙ sym (key-at_numbers (bits 64 key) round h ∙ ap (take 48) (drop-places (48 * round) key_numbers (bits 64 key)) ∙ take-places 48 (drop (48 * round) key_numbers) (bits 64 key))
