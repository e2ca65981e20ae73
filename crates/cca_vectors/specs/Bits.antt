-- The bits of a list of bytes, counted from 0: bit 0 is the most significant bit of byte 0.
use Rattle.std.specs.Prelude.{ℕ, ◌+◌, ◌-◌, ◌*◌, ◌/◌, ◌%◌, List, slice_index, count_ones}
use Rattle.std.specs.Int.{bit_at}

-- bit n, 0 or 1
abbrev pub bit : List ℕ → ℕ → ℕ
bit bytes n = bit_at (slice_index bytes (n / 8)) (7 - n % 8)

-- a byte with its last bit chosen so that its number of ones is even
abbrev pub even_byte : ℕ → ℕ
even_byte byte = byte / 2 * 2 + count_ones (byte / 2) % 2
