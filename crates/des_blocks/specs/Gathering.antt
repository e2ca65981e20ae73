-- Tables that are read by some bits of a word at a time.
use Rattle.std.specs.Prelude.{ℕ, ◌/◌, ◌%◌, ◌^◌, List, [], ◌∷◌, map, slice_index, bit_xor}

-- the exclusive or of what each piece of some bits of a word, the lowest first and modulo the number of entries, has in its row
unfoldable pub gathered : ℕ → ℕ → List (List ℕ) → ℕ → ℕ
gathered entries bits [] word = 0
gathered entries bits (row ∷ rows) word = bit_xor (slice_index row (word % entries)) (gathered entries bits rows (word / 2 ^ bits))

-- of a table whose entries have many words each, the table of the words at one place
abbrev pub column : ℕ → List (List (List ℕ)) → List (List ℕ)
column at rows = map (map (λ words. slice_index words at)) rows
