-- The key that the import of a clear key makes.
use Rattle.std.specs.Prelude.{ℕ, List, [], ◌∷◌, take}
use Rattle.key_tokens.specs.declared.key_token.Age.TheVariants.{Current}
use Rattle.key_tokens.specs.Denotes.{Denoted}

-- the control vector of a single-length DATA key: 00007d0003000000, and zeros for the right half
abbrev pub data_vector : List ℕ
data_vector =
    0x00 ∷ 0x00 ∷ 0x7d ∷ 0x00 ∷ 0x03 ∷ 0x00 ∷ 0x00 ∷ 0x00 ∷ 0 ∷ 0 ∷ 0 ∷ 0 ∷ 0 ∷ 0 ∷ 0 ∷ 0 ∷ []

-- a DATA key of the first 8 bytes, under the current master key
abbrev pub imported_key : List ℕ → Denoted
imported_key bytes = record {
  clear = record { key = take 8 bytes; vector = data_vector };
  age = Current;
}
