-- The token validation value (TVV): a sum over the words of the token that stand before it.
use Rattle.std.specs.Prelude.{ℕ, ◌+◌, ◌%◌, ◌^◌, List, [], ◌∷◌, slice_range}
use Rattle.std.specs.List.{sum_by}
use Rattle.std.specs.Int.{from_be_bytes, w32}

-- the word of four bytes from a place on, most significant byte first
abbrev pub word_at : List ℕ → ℕ → ℕ
word_at bytes place = from_be_bytes w32 (slice_range bytes place (place + 4))

-- the fifteen words of bytes 0 to 59
abbrev pub word_places : List ℕ
word_places = 0 ∷ 4 ∷ 8 ∷ 12 ∷ 16 ∷ 20 ∷ 24 ∷ 28 ∷ 32 ∷ 36 ∷ 40 ∷ 44 ∷ 48 ∷ 52 ∷ 56 ∷ []

-- their sum modulo 2^32
unfoldable pub tvv_of : List ℕ → ℕ
tvv_of bytes = sum_by (word_at bytes) word_places % 2 ^ 32
