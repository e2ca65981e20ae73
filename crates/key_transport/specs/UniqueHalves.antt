-- The random bytes that a generated key takes. Of a key whose halves are to be unique the right half is drawn until it
-- differs from the left one, the low-order bit of each byte aside, and eight times at most.
use Rattle.std.specs.Prelude.{ℕ, zero, suc, ◌+◌, ◌-◌, ◌*◌, ◌/◌, Bool, false, ◌&&◌, nat_le, List, [], ◌∷◌, ◌++◌, length, map, take, drop, if◌then◌else◌}
use Rattle.std.specs.List.{list_all}
use Rattle.std.specs.Str.{bytes_eq}
use Rattle.cca_vectors.specs.declared.key_length.Length.{Length}
use Rattle.cca_vectors.specs.declared.key_length.Length.TheVariants.{Eight, Sixteen, Unique}

-- two halves are the same, the low-order bit of each byte aside
abbrev pub is_same_half : List ℕ → List ℕ → Bool
is_same_half one other = bytes_eq (map (λ byte. byte / 2) one) (map (λ byte. byte / 2) other)

-- the first n pieces of 8 bytes
abbrev pub pieces : ℕ → List ℕ → List (List ℕ)
pieces zero ahead = []
pieces (suc n) ahead = take 8 ahead ∷ pieces n (drop 8 ahead)

-- of the bytes ahead, each of the eight pieces after the first 8 bytes is the same half as these
abbrev pub are_repeated : List ℕ → Bool
are_repeated ahead =
    nat_le 72 (length ahead) && list_all (is_same_half (take 8 ahead)) (pieces 8 (drop 8 ahead))

-- a key of this length can't be made of the bytes ahead
abbrev pub repeats : Length → List ℕ → Bool
repeats Eight ahead = false
repeats Sixteen ahead = false
repeats Unique ahead = are_repeated ahead

-- how many right halves are drawn for a left one: up to the first that differs from it, and n at most
abbrev pub halves_drawn : ℕ → List ℕ → List ℕ → ℕ
halves_drawn zero left ahead = 0
halves_drawn (suc n) left ahead =
    if is_same_half left (take 8 ahead) then 1 + halves_drawn n left (drop 8 ahead) else 1

-- how many of the bytes ahead a key of this length takes
abbrev pub key_taken : Length → List ℕ → ℕ
key_taken Eight ahead = 8
key_taken Sixteen ahead = 16
key_taken Unique ahead = 8 + 8 * halves_drawn 8 (take 8 ahead) (drop 8 ahead)

-- the bytes of the key, of those that it took: all of them, or the left half and the last right half
abbrev pub key_drawn : Length → List ℕ → List ℕ
key_drawn Eight drawn = drawn
key_drawn Sixteen drawn = drawn
key_drawn Unique drawn = take 8 drawn ++ drop (length drawn - 8) drawn
