-- The bytes of a disk that are no part of what its cells hold, and what whole runs leave of the rest.
use Rattle.std.specs.Prelude.{◌≡◌, ◌≢◌, ◌<◌, ◌⊎◌, ℕ, ◌+◌, ◌*◌, List, length, slice_index}
use Rattle.device_cells.specs.Cells.{cell_size, body, other_body, IsOutside}

-- byte k is neither a cell's selector nor one of its bodies'
abbrev pub IsSpare : ℕ → Type 0
IsSpare k = (n : ℕ) → (k ≢ cell_size * n) × IsOutside n 0 k × IsOutside n 1 k

-- new is as long as old, and no byte has changed but selectors and bytes of bodies
pub record SameSpare (old new : List ℕ) : Type 0 where
  pub size : length new ≡ length old
  pub spare : (k : ℕ) → IsSpare k → slice_index new k ≡ slice_index old k

-- cell n has all its bytes as they were
abbrev pub SameCell : ℕ → List ℕ → List ℕ → Type 0
SameCell n old new = (k : ℕ) → k < cell_size
    → slice_index new (cell_size * n + k) ≡ slice_index old (cell_size * n + k)

-- cell n selects by 0 or 1, and the body that was selected is the one that isn't now
abbrev pub HasTurned : ℕ → List ℕ → List ℕ → Type 0
HasTurned n old new =
    (slice_index new (cell_size * n) < 2) × (other_body new n ≡ body old n)

-- each of the first cells is as it was, or has turned
pub record Turned (count : ℕ) (old new : List ℕ) : Type 0 where
  pub same : SameSpare old new
  pub cells : (n : ℕ) → n < count → SameCell n old new ⊎ HasTurned n old new
