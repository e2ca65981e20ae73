-- Characters, by their codes.
use Rattle.std.specs.Prelude.{ℕ, nat_le, Bool, ◌&&◌, ◌||◌, ◌==◌}

-- A to Z
abbrev pub is_letter : ℕ → Bool
is_letter c = nat_le 0x41 c && nat_le c 0x5a

-- 0 to 9
abbrev pub is_digit : ℕ → Bool
is_digit c = nat_le 0x30 c && nat_le c 0x39

-- A to Z, 0 to 9, `#`, `$`, `@` and period: what may stand in a label
abbrev pub is_label_byte : ℕ → Bool
is_label_byte c = is_letter c || is_digit c || c == 0x23 || c == 0x24 || c == 0x40 || c == 0x2e
