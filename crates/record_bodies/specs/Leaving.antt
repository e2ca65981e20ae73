-- What of a store's bytes stays where an action of REENCIPHER changes labels.
use Rattle.std.specs.Prelude.{◌≡◌, ◌<◌, ℕ, true, List, Option, slice_index, length}
use Rattle.device_cells.specs.Cells.{IsUntouched}
use Rattle.record_bodies.specs.Entries.{Entry}
use Rattle.record_bodies.specs.Further.{is_changed}
use Rattle.record_bodies.specs.StoreStands.{entry_at}
use Rattle.record_bodies.specs.declared.actions.StoreAction.{StoreAction}

-- the action changes the label of the cell
abbrev pub IsChanged : StoreAction → List (Option Entry) → ℕ → Type 0
IsChanged a s n = is_changed a (entry_at s n) ≡ true

-- No byte has changed but the selectors of the cells below `cells` of which P holds, and those of the body that wasn't
-- selected there.
pub record LeavesCells (P : ℕ → Type 0) (cells : ℕ) (old new : List ℕ) : Type 0 where
  pub size : length new ≡ length old
  pub same : (k : ℕ) → ((n : ℕ) → n < cells → P n → IsUntouched old n k)
      → slice_index new k ≡ slice_index old k

-- the same of the cells whose label the action changes
abbrev pub LeavesRest : StoreAction → List (Option Entry) → ℕ → List ℕ → List ℕ → Type 0
LeavesRest a s cells old new = LeavesCells (IsChanged a s) cells old new
