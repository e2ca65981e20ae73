-- A block of a text enciphered in a chain; 128 blocks in words, and a text of which 1,024 bytes are worked on.
use Rattle.std.specs.Prelude.{◌≡◌, ℕ, ◌+◌, ◌*◌, ◌<◌, List, ◌++◌, drop, take}
use Rattle.std.specs.Int.{to_be_bytes, w64}
use Rattle.key_cells.specs.declared.leases.Lease.{Lease}
use Rattle.des_blocks.specs.Bits.{byte_bits, xor}
use Rattle.des_blocks.specs.Des.{places}
use Rattle.des_blocks.specs.Halves.{AreHalves}
use Rattle.des_blocks.specs.Schedules.{enciphered_under, schedule_at}
use Rattle.des_blocks.specs.Tables.{initial_permutation}
use Rattle.des_blocks.specs.Texts.{put_at, schedules_in, text_in, with_text_in}
use Rattle.des_core.specs.Lanes.{word}

-- the block at a place, combined with the one before it and enciphered by DES under the first schedule
abbrev pub chained_block : Lease → ℕ → List ℕ → List ℕ
chained_block lease at before =
    enciphered_under (schedule_at (schedules_in lease) 0) (xor (take 8 (drop at (text_in lease))) before)

-- it stands in its place, and two words hold its halves after IP
pub record Chained (old new : Lease) (at : ℕ) (before : List ℕ) (left right : ℕ) : Type 0 where
  pub text : new ≡ with_text_in old (put_at (text_in old) at (chained_block old at before))
  pub halves : AreHalves left right (places initial_permutation (byte_bits (chained_block old at before)))

-- 64 vectors of two words have what d makes of the blocks of 1,024 bytes, in their order
abbrev pub Hold : (List ℕ → List ℕ) → List (List ℕ) → List ℕ → Type 0
Hold d words part =
    (k e : ℕ) → k < 64 → e < 2 → to_be_bytes w64 (word e k words) ≡ d (take 8 (drop (16 * k + 8 * e) part))

-- the 1,024 bytes of a text from a place on
abbrev pub part_at : List ℕ → ℕ → List ℕ
part_at text at = take 1024 (drop at text)

-- the text with other bytes in their place
abbrev pub with_part : List ℕ → ℕ → List ℕ → List ℕ
with_part text at part = take at text ++ (part ++ drop (at + 1024) text)
