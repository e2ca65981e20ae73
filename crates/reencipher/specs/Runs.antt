-- What a run does to a store and to the memory, and when each answer comes.
use Rattle.std.specs.Prelude.{◌≡◌, ◌≤◌, ◌<◌, ◌+◌, ◌⊎◌, ◌&&◌, ℕ, zero, suc, Bool, true, false, not, cond, List, Option, None, Some, is_some, get_or}
use Rattle.std.specs.Prelude.{Result, Err, OnOk, OnErr, IfOk, IfErr, IsSome}
use Rattle.key_cells.specs.declared.leases.Lease.{Lease}
use Rattle.device_cells.specs.Cells.{body, other_body}
use Rattle.device_cells.specs.Faults.{Rose}
use Rattle.device_cells.specs.Medium.{Medium, IsSettled, Told, From, Becomes, EachImage}
use Rattle.device_cells.specs.SpareBytes.{Turned}
use Rattle.key_tokens.specs.Denotes.{MasterKeys}
use Rattle.key_tokens.specs.declared.key_token.Age.{Age}
use Rattle.record_bodies.specs.Ages.{is_old}
use Rattle.key_records.specs.Changes.{ChangesKeyAndBody}
use Rattle.record_bodies.specs.Directory.{label_at}
use Rattle.record_bodies.specs.Entries.{Entry, row_directory}
use Rattle.record_bodies.specs.StoreStands.{StandsForLabels, KeepsLabels, HoldsRows, Agrees, entry_at}
use Rattle.record_bodies.specs.Written.{written_body}
use Rattle.key_records.specs.declared.faults.RecordFault.{RecordFault}
use Rattle.key_records.specs.declared.faults.RecordFault.TheVariants.{DiskFault, Damaged}
use Rattle.record_bodies.specs.declared.rows.Row.{Row}
use Rattle.master_registers.specs.declared.patterns.Pattern.{Pattern}
use Rattle.master_registers.specs.declared.registers.Registers.{Registers}
use Rattle.verb_rules.specs.KeyChecks.{register_with}
use Rattle.record_bodies.specs.Further.{further, changed_count}
pub use Rattle.record_bodies.specs.Leaving.{IsChanged, LeavesCells, LeavesRest}
use Rattle.reencipher.specs.Tokens.{may_change}
use Rattle.record_bodies.specs.declared.actions.StoreAction.{StoreAction}
use Rattle.record_bodies.specs.declared.actions.StoreAction.TheVariants.{Renew, Ahead, Drop}

-- in each cell below `cells` whose label the action changes the body that was selected stands on the other side
abbrev pub LeavesOld : StoreAction → List (Option Entry) → ℕ → List ℕ → List ℕ → Type 0
LeavesOld a s cells old new =
    (n : ℕ) → n < cells → IsChanged a s n → other_body new n ≡ body old n

-- A store on the way: every label in a cell below some number is what the action makes of it. Each cell selects the one
-- body that its label has, and no other byte has changed.
pub record IsOnTheWay (a : StoreAction) (masters : MasterKeys) (s : List (Option Entry))
    (old new : List ℕ) : Type 0 where
  pub cells : ℕ
  pub within : cells ≤ 1024
  pub stands : StandsForLabels masters new (further a s cells)
  pub bodies : (n : ℕ) → n < 1024
      → body new n ≡ written_body masters (entry_at (further a s cells) n)
  pub rest : LeavesRest a s 1024 old new

-- the labels of a store become what the action makes of them
pub record Reenciphers (a : StoreAction) (masters : MasterKeys) (s : List (Option Entry))
    (rows : List (Option Row)) (old new : Medium) (result : Result ℕ RecordFault) : Type 0 where
  -- after Ok a read gives all of them, and the memory knows them
  pub keeps : OnOk result (Told new (KeepsLabels masters rows (further a s 1024)))
  -- the body of each label that was changed stands where it stood
  pub others : OnOk result (Becomes (LeavesOld a s 1024) old new)
  -- the answer is how many were changed
  pub count : IfOk result (λ n. Told old (λ _. n ≡ changed_count a s))
  -- after a fault the memory knows the labels as they were before the cell at which the run ended
  pub ended : OnErr result
      (Told old (λ _. (cell : ℕ) × (cell < 1024) × Agrees masters rows (further a s cell)))
  -- whatever the answer, a read gives a store on the way, and so does a stop at any moment of the call
  pub either : Becomes (IsOnTheWay a masters s) old new
  pub moments : EachImage old new (From (IsOnTheWay a masters s) old)

-- ---- what it leaves of any store whose labels the memory knows

-- the register that the memory knows a key to be under
abbrev pub known_age : Registers → Option Pattern → Option Age
known_age held None = None
known_age held (Some pattern) = register_with held pattern.bytes

abbrev pub is_old_age : Option Age → Bool
is_old_age None = false
is_old_age (Some age) = is_old age

abbrev pub is_current_age : Option Age → Bool
is_current_age None = false
is_current_age (Some age) = not (is_old age)

-- the action changes a key under this register, if its mark allows it
abbrev pub changes_age : StoreAction → Option Age → Bool
changes_age Renew age = is_old_age age
changes_age Ahead age = is_current_age age
changes_age Drop age = is_current_age age

-- The memory knows the label as one that the action changes: as one under the old register; as one under the current
-- register that isn't ahead; or as one under the current register that is ahead.
abbrev pub changes_row : StoreAction → Registers → Option Row → Bool
changes_row a held None = false
changes_row a held (Some row) =
    changes_age a (known_age held row.pattern) && may_change a (is_some row.ahead)

abbrev pub IsChangedRow : StoreAction → Registers → List (Option Row) → ℕ → Type 0
IsChangedRow a held rows n = changes_row a held (get_or rows n None) ≡ true

-- how many labels of the cells below n it knows as such
abbrev pub changed_rows : StoreAction → Registers → List (Option Row) → ℕ → ℕ
changed_rows a held rows zero = 0
changed_rows a held rows (suc n) =
    changed_rows a held rows n + cond (changes_row a held (get_or rows n None)) 1 0

-- Of a cell whose label the action doesn't change no byte changes at any moment, nor its row, and it isn't counted: one
-- under neither register stays as it is. No byte changes of what no cell holds, and after Ok each cell that has changed
-- selects by 0 or 1 and has the body that it selected on the other side. The answer counts the labels that the memory
-- knows as ones that the action changes, whatever the disk tells of its bytes.
pub record TurnsCells (a : StoreAction) (held : Registers) (before now : List (Option Row))
    (old new : Medium) (result : Result ℕ RecordFault) : Type 0 where
  pub turned : OnOk result (Becomes (Turned 1024) old new)
  pub either : Becomes (LeavesCells (IsChangedRow a held before) 1024) old new
  pub moments : EachImage old new (From (LeavesCells (IsChangedRow a held before) 1024) old)
  pub rows : (n : ℕ) → (IsChangedRow a held before n → ⊥)
      → get_or now n None ≡ get_or before n None
  pub count : IfOk result (λ n. n ≡ changed_rows a held before 1024)

-- ---- the answers

-- a disk's fault is answered only where the disk's count rose, and where none is answered the count is as before
pub record HasRunCause {T : Type 0} (before now : ℕ) (result : Result T RecordFault) : Type 0 where
  pub later : before ≤ now
  pub failed : result ≡ Err DiskFault → Rose before now
  pub quiet : (result ≡ Err DiskFault → ⊥) → now ≡ before

-- ---- what it leaves whatever the store holds

-- the memory has a label in the cell
pub record IsLabelCell (rows : List (Option Row)) (n : ℕ) : Type 0 where
  pub within : n < 1024
  pub held : IsSome (label_at (row_directory rows) n)

-- the cell whose turn it is, where the memory has a label in it
pub record IsTurnOf (rows : List (Option Row)) (cell n : ℕ) : Type 0 where
  pub is : n ≡ cell
  pub held : IsSome (label_at (row_directory rows) cell)

-- Of a store that shows a medium and a count of faults, whose cells of which Looked holds are read.
pub record LeavesAnyStore {D T : Type 0} (medium : D → Medium) (faults : D → ℕ) (Looked : ℕ → Type 0)
    (lease later : Lease) (before now : List (Option Row)) (old new : D)
    (result : Result T RecordFault) : Type 0 where
  pub size : (medium new).size ≡ 1572864
  -- after Ok nothing is unsynced, and the memory knows the labels
  pub settled : OnOk result (IsSettled (medium new))
  pub holds : OnOk result (Told (medium new) (HoldsRows now))
  -- a disk tells its bytes afterwards exactly where it told them before
  pub still : IsSome (medium old).content → IsSome (medium new).content
  pub told : IsSome (medium new).content → IsSome (medium old).content
  -- no label comes, goes or moves
  pub directory : row_directory now ≡ row_directory before
  -- a cell is damaged only on a disk that doesn't tell its bytes
  pub damaged : (n : ℕ) → result ≡ Err (Damaged n) → Told (medium old) (λ _. ⊥)
  pub fault : IfErr result (λ fault. (fault ≡ DiskFault)
      ⊎ ((cell : ℕ) × Looked cell × (fault ≡ Damaged cell)))
  pub cause : HasRunCause (faults old) (faults new) result
  -- of the lease the place Key, the schedules and the body may have changed
  pub rest : ChangesKeyAndBody lease later
