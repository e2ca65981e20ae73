-- One cell's turn in a run.
use Rattle.std.specs.Prelude.{◌≡◌, ◌⊎◌, ℕ, Bool, true, false, List, Option, Some, set, slice_index, length, Result, OnOk, OnErr, IfOk}
use Rattle.device_cells.specs.Cells.{body, other_body, IsUntouched}
use Rattle.device_cells.specs.Medium.{Medium, Told, From, Becomes, EachImage}
use Rattle.device_cells.specs.SpareBytes.{SameCell, HasTurned}
use Rattle.key_tokens.specs.Denotes.{MasterKeys, denoted}
use Rattle.key_records.specs.Changes.{IsReadOf, has_key}
use Rattle.record_bodies.specs.Entries.{Entry, label_or}
use Rattle.record_bodies.specs.StoreStands.{StandsForLabels, KeepsLabels, entry_at}
use Rattle.key_records.specs.declared.faults.RecordFault.{RecordFault}
use Rattle.record_bodies.specs.declared.rows.Row.{Row}
use Rattle.record_bodies.specs.Further.{changed_entry, is_changed}
use Rattle.reencipher.specs.Runs.{IsChanged}
use Rattle.reencipher.specs.Tokens.{AreMade, changes_key, row_of}
use Rattle.record_bodies.specs.declared.actions.StoreAction.{StoreAction}
use Rattle.reencipher.specs.declared.writing.Tokens.{Tokens}

-- the label of one cell is what the action makes of it
abbrev pub changed_at : StoreAction → ℕ → List (Option Entry) → List (Option Entry)
changed_at a cell s = set s cell (changed_entry a (entry_at s cell))

-- the label of the cell as before or changed, and no byte has changed but those of LeavesRest
pub record HoldsTurn (a : StoreAction) (masters : MasterKeys) (cell : ℕ) (s : List (Option Entry))
    (old new : List ℕ) : Type 0 where
  pub size : length new ≡ length old
  pub same : (k : ℕ) → (IsChanged a s cell → IsUntouched old cell k)
      → slice_index new k ≡ slice_index old k
  pub stands : StandsForLabels masters new s ⊎ StandsForLabels masters new (changed_at a cell s)

-- no byte has changed but, where P holds, the selector of the cell and those of the body that wasn't selected
pub record LeavesCell (P : Type 0) (cell : ℕ) (old new : List ℕ) : Type 0 where
  pub size : length new ≡ length old
  pub same : (k : ℕ) → (P → IsUntouched old cell k) → slice_index new k ≡ slice_index old k

abbrev pub StaysOrTurns : ℕ → List ℕ → List ℕ → Type 0
StaysOrTurns cell old new = SameCell cell old new ⊎ HasTurned cell old new

-- of the bytes of the store, where P says that the cell may turn
pub record TurnsCell (P : Type 0) (cell : ℕ) (old new : Medium) (result : Result Bool RecordFault)
    : Type 0 where
  pub turned : OnOk result (Becomes (StaysOrTurns cell) old new)
  pub either : Becomes (LeavesCell P cell) old new
  pub moments : EachImage old new (From (LeavesCell P cell) old)

-- the body that was selected stands on the other side, where the action changes the label
abbrev pub LeavesOther : StoreAction → ℕ → List (Option Entry) → List ℕ → List ℕ → Type 0
LeavesOther a cell s old new = IsChanged a s cell → other_body new cell ≡ body old cell

-- the label of a cell becomes what the action makes of it
pub record ChangesCell (a : StoreAction) (masters : MasterKeys) (cell : ℕ) (s : List (Option Entry))
    (before now : List (Option Row)) (old new : Medium) (result : Result Bool RecordFault)
    : Type 0 where
  pub keeps : OnOk result (Told new (KeepsLabels masters now (changed_at a cell s)))
  pub other : OnOk result (Becomes (LeavesOther a cell s) old new)
  pub count : IfOk result (λ done. Told old (λ _. done ≡ is_changed a (entry_at s cell)))
  pub kept : OnErr result (now ≡ before)
  pub either : Becomes (HoldsTurn a masters cell s) old new
  pub moments : EachImage old new (From (HoldsTurn a masters cell s) old)

-- ---- by what was read, whatever the store tells of its bytes

-- the record stays: it is null, or the action doesn't change a label with the key of the token in it
pub record StaysAsRead (a : StoreAction) (masters : MasterKeys) (row : Option Row) (bytes : List ℕ)
    : Type 0 where
  pub found : Bool
  pub token : List ℕ
  pub read : IsReadOf row bytes found token
  pub null : found ≡ has_key row
  pub stays : found ≡ true → changes_key a (denoted masters token) ≡ false

-- the memory has the label with the tokens that the action makes of a token whose key it changes
pub record IsMadeRow (a : StoreAction) (masters : MasterKeys) (before now : Option Row) : Type 0 where
  pub token : List ℕ
  pub changes : changes_key a (denoted masters token) ≡ true
  pub tokens : Tokens
  pub made : AreMade a masters token tokens
  pub row : now ≡ Some (row_of (label_or before) tokens)

-- A label that may change, by the body that was read of its record: it stays, or the memory has it changed.
pub record TurnsAsRead (a : StoreAction) (masters : MasterKeys) (before now : Option Row) (bytes : List ℕ)
    (done : Bool) : Type 0 where
  pub stays : done ≡ false → StaysAsRead a masters before bytes
  pub turns : done ≡ true → IsMadeRow a masters before now
