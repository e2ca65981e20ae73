-- For the functions of this crate alone: opening a trail, cell by cell.
use Rattle.std.specs.Prelude.{◌≡◌, ℕ, ◌-◌, ◌%◌, ◌≤◌, ◌<◌, nat_le, nat_lt, List, Option, None, Some, IfSome, if◌then◌else◌}
use Rattle.device_cells.specs.Cells.{body}
use Rattle.audit_trail.specs.RecordBody.{blank_body}
use Rattle.audit_trail.specs.TrailStands.{HoldsNumber}

-- the cell holds a record of this number, or is blank
abbrev pub CellReads : List ℕ → ℕ → Option ℕ → Type 0
CellReads image n None = body image n ≡ blank_body
CellReads image n (Some m) = HoldsNumber image n m

-- the greater of two numbers, of which each may be missing
abbrev pub greater : Option ℕ → Option ℕ → Option ℕ
greater None b = b
greater (Some a) None = Some a
greater (Some a) (Some b) = if nat_lt a b then Some b else Some a

-- a number, where there is one, is no greater than another
abbrev pub IsUpTo : Option ℕ → Option ℕ → Type 0
IsUpTo None h = Unit {0}
IsUpTo (Some m) None = ⊥
IsUpTo (Some m) (Some h) = m ≤ h

-- each of the first cells is blank or holds a number, and `last` is the greatest of these
pub record Scanned (image : List ℕ) (cells : ℕ) (last : Option ℕ) : Type 0 where
  pub each : (n : ℕ) → n < cells → (number : Option ℕ) × CellReads image n number × IsUpTo number last
  pub held : IfSome last (λ h. (n : ℕ) × (n < cells) × HoldsNumber image n h)

-- the greatest number up to `last` that belongs to the cell, where one does
unfoldable pub newest_number : ℕ → ℕ → Option ℕ
newest_number last n = if nat_le n last then Some (last - (last - n) % 4096) else None

-- each of the first cells holds the newest record that belongs to it
pub record Checked (image : List ℕ) (last cells : ℕ) : Type 0 where
  pub each : (n : ℕ) → n < cells → CellReads image n (newest_number last n)
