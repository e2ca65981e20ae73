-- Odd and even parity of key bytes, set by the low-order bit of each byte.
use Rattle.std.specs.Prelude.{◌≡◌, ℕ, ◌+◌, ◌*◌, ◌/◌, ◌%◌, count_ones}

-- a byte with its last bit chosen so that its number of ones is odd
abbrev pub odd_byte : ℕ → ℕ
odd_byte byte = byte / 2 * 2 + (count_ones (byte / 2) + 1) % 2

abbrev pub IsOdd : ℕ → Type 0
IsOdd byte = count_ones byte % 2 ≡ 1
