-- The lines of some bytes.
use Rattle.std.specs.Prelude.{◌≡◌, ◌⊎◌, ◌++◌, ℕ, ◌≢◌, ◌==◌, if◌then◌else◌, List, [], ◌∷◌}
use Rattle.std.specs.List.{onto_first, All}

-- the byte that ends a line, X'0A'
abbrev pub newline : ℕ
newline = 10

-- The lines of some bytes in order, each without its newline. An empty line is a line. What follows
-- the last newline is a line where it has at least one byte.
unfoldable pub lines : List ℕ → List (List ℕ)
lines [] = []
lines (b ∷ bs) = if b == newline then [] ∷ lines bs else onto_first b (lines bs)

-- no byte of these is a newline
abbrev pub NoNewline : List ℕ → Type 0
NoNewline bs = All (λ b. b ≢ newline) bs

-- bytes that end with a newline
abbrev pub EndsInNewline : List ℕ → Type 0
EndsInNewline bytes = (front : List ℕ) × (bytes ≡ front ++ newline ∷ [])

-- nothing, or bytes that end with a newline
abbrev pub EndsLine : List ℕ → Type 0
EndsLine bytes = (bytes ≡ []) ⊎ EndsInNewline bytes
