-- Halves of a block in words, as the bit-selection table E of FIPS 46-3 spreads them: eight groups of six bits, the first in the highest byte.
use Rattle.std.specs.Prelude.{◌≡◌, ℕ, ◌-◌, ◌*◌, List, ◌++◌, length, take, drop, replicate}
use Rattle.std.specs.Int.{w64, to_be_bytes}
use Rattle.des_blocks.specs.Des.{places, rounds}
use Rattle.des_blocks.specs.Schedules.{group_bits}
use Rattle.des_blocks.specs.Tables.{expansion}

-- the 48 bits of the groups in a word's bytes
abbrev pub spread : ℕ → List ℕ
spread word = group_bits (to_be_bytes w64 word)

-- a word holds a half of 32 bits
pub record IsHalf (word : ℕ) (half : List ℕ) : Type 0 where
  pub size : length half ≡ 32
  pub groups : spread word ≡ places expansion half

-- two words hold 64 bits: the left half and the right one
pub record AreHalves (left right : ℕ) (both : List ℕ) : Type 0 where
  pub left_half : IsHalf left (take 32 both)
  pub right_half : IsHalf right (drop 32 both)

-- what the rounds over some round keys make of 64 bits
abbrev pub rounded : List (List ℕ) → List ℕ → List ℕ
rounded keys both = rounds keys (take 32 both) (drop 32 both)

-- the four bits of S-box j, from 0, in their place among the 32 of all boxes
abbrev pub in_place : ℕ → List ℕ → List ℕ
in_place j four = replicate (4 * j) 0 ++ (four ++ replicate (28 - 4 * j) 0)
