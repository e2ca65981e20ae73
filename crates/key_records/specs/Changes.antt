-- What a change of one record does to the store and to the memory, and when each answer comes.
use Rattle.std.specs.Prelude.{◌≡◌, ◌≢◌, ◌≤◌, ◌↔◌, ◌⊎◌, ◌*◌, ℕ, List, Option, None, Some, set, slice_index}
use Rattle.std.specs.Prelude.{Result, Err, IfErr, OnOk, OnErr, IsSome, is_some, Bool, true, false, bytes_eq}
use Rattle.std.specs.List.{list_any}
use Rattle.key_cells.specs.Lease.{bench_of, holding}
use Rattle.key_cells.specs.declared.leases.Lease.{Lease}
use Rattle.device_cells.specs.Cells.{cell_size, body, IsReplaced, IsReplacing, IsUntouched}
use Rattle.device_cells.specs.Faults.{Rose}
use Rattle.device_cells.specs.Medium.{Medium, IsSettled, Told, From, Becomes, EachImage}
use Rattle.device_cells.specs.Ranges.{SameOutside}
use Rattle.key_tokens.specs.Denotes.{ClearKey, MasterKey, MasterKeys, Denoted, denoted}
use Rattle.key_tokens.specs.declared.key_token.Age.TheVariants.{Current}
use Rattle.master_registers.specs.declared.patterns.Pattern.{Pattern}
use Rattle.record_bodies.specs.Directory.{cell_of, free_cell}
use Rattle.record_bodies.specs.Entries.{Entry}
use Rattle.record_bodies.specs.RecordBody.{IsTokenOf, ReadsRow, kept, second_of}
use Rattle.record_bodies.specs.StoreStands.{StandsForLabels, HoldsRows, KeepsLabels}
use Rattle.key_records.specs.declared.faults.RecordFault.{RecordFault}
use Rattle.key_records.specs.declared.faults.RecordFault.TheVariants.{Damaged, DiskFault, Exists, Full}
use Rattle.record_bodies.specs.declared.rows.Row.{Row}
use Rattle.record_bodies.specs.declared.rows.Second.{Second}

-- ---- what a change does to the bytes of the store

-- The cell selects this body. Every other cell selects the body that it did, and no byte has changed but the
-- selector of the cell and those of its body that wasn't selected. After Ok the body that was selected stands
-- where it stood, nothing is unsynced, and at each moment before the cell selects the old body or the new one.
pub record ReplacesBody (cell : ℕ) (bytes : List ℕ) (old new : Medium)
    (result : Result (Unit {0}) RecordFault) : Type 0 where
  pub settled : OnOk result (IsSettled new)
  pub replaced : OnOk result (Becomes (IsReplaced cell bytes) old new)
  pub replacing : Becomes (IsReplacing cell bytes) old new
  pub moments : EachImage old new (From (IsReplacing cell bytes) old)

-- ---- what it does to the labels

-- The store stands for the labels before or after, and every other cell selects the body that it did. No byte
-- outside the cell has changed, and of the cell at most the selector and the body that wasn't selected.
pub record HoldsEither (masters : MasterKeys) (cell : ℕ) (s next : List (Option Entry))
    (old new : List ℕ) : Type 0 where
  pub outside : SameOutside (cell_size * cell) cell_size old new
  pub others : (n : ℕ) → n ≢ cell → body new n ≡ body old n
  pub untouched : (k : ℕ) → IsUntouched old cell k → slice_index new k ≡ slice_index old k
  pub stands : StandsForLabels masters new s ⊎ StandsForLabels masters new next

-- the labels of a store become others, by a change of one cell
pub record ChangesLabels (masters : MasterKeys) (cell : ℕ) (s next : List (Option Entry))
    (rows : List (Option Row)) (old new : Medium) (result : Result (Unit {0}) RecordFault)
    : Type 0 where
  -- after Ok a read gives the labels after, and the memory knows them
  pub keeps : OnOk result (Told new (KeepsLabels masters rows next))
  -- whatever the answer, a read gives the labels before or after, and so does a stop at any moment of the call
  pub either : Becomes (HoldsEither masters cell s next) old new
  pub moments : EachImage old new (From (HoldsEither masters cell s next) old)

-- the memory has the rows after, where the call answers Ok, and else those before
pub record Remembers (rows next now : List (Option Row)) (result : Result (Unit {0}) RecordFault)
    : Type 0 where
  pub done : OnOk result (now ≡ next)
  pub kept : OnErr result (now ≡ rows)

-- a disk's fault is answered only where the disk's count rose, and where none is answered the count is as before
pub record HasRecordCause (before now : ℕ) (result : Result (Unit {0}) RecordFault) : Type 0 where
  pub later : before ≤ now
  pub failed : result ≡ Err DiskFault → Rose before now
  pub quiet : (result ≡ Err DiskFault → ⊥) → now ≡ before

-- of what a lease holds the body alone has changed
abbrev pub KeepsAllButBody : Lease → Lease → Type 0
KeepsAllButBody old new = new ≡ holding old (record (bench_of old) { body = (bench_of new).body })

-- of what a lease holds the place `Key`, the schedules and the body may have changed, and nothing else
abbrev pub ChangesKeyAndBody : Lease → Lease → Type 0
ChangesKeyAndBody old new = new ≡ holding old (record (bench_of old) {
  key = (bench_of new).key;
  schedules = (bench_of new).schedules;
  body = (bench_of new).body;
})

-- What a change of one record does, which gives the cell this body and the memory this row. The store shows a medium and a
-- count of faults.
pub record ChangesRecord {D : Type 0} (medium : D → Medium) (faults : D → ℕ) (place : ℕ)
    (bytes : List ℕ) (row : Option Row) (rows now : List (Option Row)) (lease later : Lease)
    (old new : D) (result : Result (Unit {0}) RecordFault) : Type 0 where
  -- the cell selects the body
  pub cell : ReplacesBody place bytes (medium old) (medium new) result
  -- the memory has the row in its place
  pub memory : Remembers rows (set rows place row) now result
  -- after Ok the memory knows the store
  pub holds : OnOk result (Told (medium new) (HoldsRows now))
  -- of the lease the body alone has changed
  pub rest : KeepsAllButBody lease later
  -- a fault of the store is told, and nothing else is told as one
  pub cause : HasRecordCause (faults old) (faults new) result

-- When another label is refused: a full store refuses each label, and another one each label that is held. A refusal
-- calls no device and writes nothing.
pub record RefusesLabel {D : Type 0} (held : List (Option (List ℕ))) (label : List ℕ)
    (lease later : Lease) (old new : D) (result : Result (Unit {0}) RecordFault) : Type 0 where
  pub full : (result ≡ Err Full) ↔ (free_cell held ≡ 1024)
  pub exists : (result ≡ Err Exists)
      ↔ ((free_cell held ≢ 1024) × (cell_of label held ≢ None))
  pub undamaged : IfErr result (λ fault. (n : ℕ) → fault ≢ Damaged n)
  pub untouched : (result ≡ Err Full) ⊎ (result ≡ Err Exists) → new ≡ old
  pub lease_untouched : (result ≡ Err Full) ⊎ (result ≡ Err Exists) → later ≡ lease

-- A token under the current master key, and the second token of the same key under a full new register, whose
-- pattern is neither that of the current nor that of the old one.
pub record AreBoth (masters : MasterKeys) (token : List ℕ) (second : Second) (clear : ClearKey)
    : Type 0 where
  pub first : denoted masters token ≡ Some (record { clear = clear; age = Current })
  pub coming : MasterKey
  pub is_coming : masters.coming ≡ Some coming
  pub is_second : second ≡ second_of coming clear
  pub other : (current : MasterKey) → masters.current ≡ Some current
      → coming.pattern ≢ current.pattern
  pub others : (former : MasterKey) → masters.former ≡ Some former
      → coming.pattern ≢ former.pattern

-- ---- what is read

-- what is read of an entry: its token, which stands for its key, or that it is null
abbrev pub ReadsToken : MasterKeys → Option Entry → Bool → List ℕ → Type 0
ReadsToken masters None found token = ⊥
ReadsToken masters (Some e) found token =
    (found ≡ is_some e.what) × ((key : Denoted) → e.what ≡ Some key → kept masters token ≡ Some key)

abbrev pub has_key : Option Row → Bool
has_key None = false
has_key (Some r) = is_some r.pattern

abbrev pub ahead_at : Option Row → Option Pattern
ahead_at None = None
ahead_at (Some r) = r.ahead

abbrev pub IsTokenAt : List ℕ → Option Row → List ℕ → Type 0
IsTokenAt bytes None token = ⊥
IsTokenAt bytes (Some row) token = IsTokenOf bytes row token

-- What was read is the body of a label as the memory knows it, and a token that is answered is the one that the label is
-- under: whatever the disk tells of its bytes.
pub record IsReadOf (row : Option Row) (bytes : List ℕ) (found : Bool) (out : List ℕ) : Type 0 where
  pub held : IsSome row
  pub known : ReadsRow bytes row
  pub token : found ≡ true → IsTokenAt bytes row out

pub record HasReadCause (before now : ℕ) (result : Result Bool RecordFault) : Type 0 where
  pub later : before ≤ now
  pub failed : result ≡ Err DiskFault → Rose before now
  pub quiet : (result ≡ Err DiskFault → ⊥) → now ≡ before

-- the label of a row is ahead
abbrev pub is_ahead_row : Option Row → Bool
is_ahead_row None = false
is_ahead_row (Some r) = is_some r.ahead

-- some label is ahead
abbrev pub any_ahead : List (Option Row) → Bool
any_ahead rows = list_any (λ row. is_ahead_row row) rows

abbrev pub has_pattern : Pattern → Option Pattern → Bool
has_pattern pattern None = false
has_pattern pattern (Some other) = bytes_eq other.bytes pattern.bytes

abbrev pub is_under : Pattern → Option Row → Bool
is_under pattern None = false
is_under pattern (Some r) = has_pattern pattern r.pattern

-- some key is under the master key with this pattern
abbrev pub any_under : Pattern → List (Option Row) → Bool
any_under pattern rows = list_any (λ row. is_under pattern row) rows
