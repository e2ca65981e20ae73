-- Numbers of bits: when each of a table is one, and those of the round keys in a row.
use Rattle.std.specs.Prelude.{ℕ, List, Bool, ◌&&◌, nat_lt, nat_le, take, drop}
use Rattle.std.specs.List.{flat_map, list_all}
use Rattle.des_blocks.specs.Des.{key_schedule}
use Rattle.des_blocks.specs.Tables.{key_choice_1, shifts}

-- each is a number from 1 to the width
abbrev pub are_numbers : ℕ → List ℕ → Bool
are_numbers width table = list_all (λ n. nat_lt 0 n && nat_le n width) table

-- the numbers of the key bits that make the sixteen round keys, in a row: the key schedule over the numbers that permuted choice 1 takes
unfoldable pub key_numbers : List ℕ
key_numbers = flat_map (λ k. k) (key_schedule shifts (take 28 key_choice_1) (drop 28 key_choice_1))
