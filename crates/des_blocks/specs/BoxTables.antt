-- Tables of the S-boxes, joined with the permutation P and the bit-selection table E.
use Rattle.std.specs.Prelude.{◌≡◌, ℕ, ◌<◌, List, [], slice_index, slice_index_or}
use Rattle.des_blocks.specs.Bits.{bits}
use Rattle.des_blocks.specs.Des.{look_up, places}
use Rattle.des_blocks.specs.Halves.{in_place, spread}
use Rattle.des_blocks.specs.Tables.{boxes, expansion, permutation}

-- a table has, for each byte, what P and E make of the four bits that S-box j, from 0, has for its low six bits
abbrev pub IsTableOf : ℕ → List ℕ → Type 0
IsTableOf j table =
    (byte : ℕ) → byte < 256 → spread (slice_index table byte)
    ≡ places expansion (places permutation (in_place j (look_up (slice_index_or boxes j []) (bits 6 byte))))
