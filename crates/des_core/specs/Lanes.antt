-- Words side by side: a vector has two words of 64 bits, and lane e i of some vectors is bit i of word e of each.
use Rattle.std.specs.Prelude.{◌≡◌, ◌<◌, ℕ, List, [], ◌∷◌, length, map, set, bit_xor, slice_index, slice_index_or}
use Rattle.std.specs.Int.{bit_at}
use Rattle.std.specs.Simd.Lanes.{zip2}

-- a bit of a word of a vector
abbrev pub bit_of : ℕ → ℕ → List ℕ → ℕ
bit_of e i vector = bit_at (slice_index vector e) i

-- the bits of some vectors at a place
abbrev pub lane : ℕ → ℕ → List (List ℕ) → List ℕ
lane e i vectors = map (λ vector. bit_at (slice_index vector e) i) vectors

-- each vector has two words
abbrev pub AreVectors : List (List ℕ) → Type 0
AreVectors vectors = (k : ℕ) → k < length vectors → length (slice_index_or vectors k []) ≡ 2

-- vectors of which those at some places, one after another, are joined with others
abbrev pub joined_at : List ℕ → List (List ℕ) → List (List ℕ) → List (List ℕ)
joined_at [] others vectors = vectors
joined_at (place ∷ places) [] vectors = vectors
joined_at (place ∷ places) (other ∷ others) vectors =
    joined_at places others (set vectors place (zip2 bit_xor (slice_index_or vectors place []) other))

-- a word of a vector
abbrev pub word : ℕ → ℕ → List (List ℕ) → ℕ
word e k vectors = slice_index (slice_index_or vectors k []) e
