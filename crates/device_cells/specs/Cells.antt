-- A cell of a disk: three sectors of 512 bytes. The first byte of the first one selects one of two
-- bodies, each of which is the first 192 bytes of its sector. Nobody looks at the other bytes.
use Rattle.std.specs.Prelude.{◌≡◌, ◌≢◌, ◌<◌, ◌≤◌, ◌⊎◌, ℕ, ◌+◌, ◌-◌, ◌*◌, ◌%◌, List}
use Rattle.std.specs.Prelude.{slice_index, slice_range}
use Rattle.device_cells.specs.Ranges.{SameOutside}

-- how many bytes a sector, a cell and a body have
abbrev pub sector_size : ℕ
sector_size = 512

abbrev pub cell_size : ℕ
cell_size = 1536

abbrev pub body_size : ℕ
body_size = 192

-- 0 selects body A and 1 body B
unfoldable pub selected : List ℕ → ℕ → ℕ
selected image n = slice_index image (cell_size * n) % 2

abbrev pub body_place : ℕ → ℕ → ℕ
body_place n side = cell_size * n + sector_size * (1 + side)

-- one of the bodies of cell n
abbrev pub body_at : List ℕ → ℕ → ℕ → List ℕ
body_at image n side = slice_range image (body_place n side) (body_place n side + body_size)

-- the selected body of cell n
unfoldable pub body : List ℕ → ℕ → List ℕ
body image n = body_at image n (selected image n)

-- the body of cell n that isn't selected
unfoldable pub other_body : List ℕ → ℕ → List ℕ
other_body image n = body_at image n (1 - selected image n)

-- byte k is none of this body
abbrev pub IsOutside : ℕ → ℕ → ℕ → Type 0
IsOutside n side k = (k < body_place n side) ⊎ (body_place n side + body_size ≤ k)

-- byte k is neither the selector of cell n nor one of the body that isn't selected
abbrev pub IsUntouched : List ℕ → ℕ → ℕ → Type 0
IsUntouched image n k = (k ≢ cell_size * n) × IsOutside n (1 - selected image n) k

-- cell n selects this body by a selector of 0 or 1, every other cell selects what it did, and no
-- byte outside the cell has changed
pub record IsReplaced (n : ℕ) (bytes old new : List ℕ) : Type 0 where
  pub outside : SameOutside (cell_size * n) cell_size old new
  pub others : (m : ℕ) → m ≢ n → body new m ≡ body old m
  pub here : body new n ≡ bytes
  pub selector : slice_index new (cell_size * n) < 2
  -- the body that was selected is still there, and no byte of the cell has changed but the selector
  -- and those of the body that wasn't selected
  pub other : other_body new n ≡ body old n
  pub untouched : (k : ℕ) → IsUntouched old n k → slice_index new k ≡ slice_index old k

-- the same, but cell n may still select what it did
pub record IsReplacing (n : ℕ) (bytes old new : List ℕ) : Type 0 where
  pub outside : SameOutside (cell_size * n) cell_size old new
  pub others : (m : ℕ) → m ≢ n → body new m ≡ body old m
  pub here : (body new n ≡ body old n) ⊎ (body new n ≡ bytes)
  pub untouched : (k : ℕ) → IsUntouched old n k → slice_index new k ≡ slice_index old k
