-- What a call leaves of a trail, and what appending an entry does to it.
use Rattle.std.specs.Prelude.{◌≡◌, ◌≢◌, ◌⊎◌, ◌≤◌, ◌+◌, ◌*◌, ◌%◌, ℕ, List, [], ◌∷◌, ◌++◌, slice_index, Result, OnOk, OnErr, IsSome}
use Rattle.device_cells.specs.Cells.{body, cell_size, IsUntouched, IsReplaced}
use Rattle.device_cells.specs.Faults.{Rose}
use Rattle.device_cells.specs.Medium.{Medium, IsSettled, Told, From, Becomes, EachImage}
use Rattle.device_cells.specs.Ranges.{SameOutside}
use Rattle.audit_trail.specs.RecordBody.{record_body}
use Rattle.audit_trail.specs.TrailStands.{IsTrail}
use Rattle.audit_trail.specs.declared.entries.Entry.{Entry}
use Rattle.audit_trail.specs.declared.faults.TrailFault.{TrailFault}

-- What a call leaves of a trail, whatever it holds: it keeps its size, tells what it told, and has nothing unsynced where
-- the call is done. Its count of faults never falls. Where the call tells that the trail failed, it has risen, and where
-- the call doesn't tell that, it is as before.
pub record TrailLeft (old new : Medium) (before now : ℕ) (done failed : Type 0) : Type 0 where
  pub size : new.size ≡ old.size
  pub still : IsSome old.content → IsSome new.content
  pub settled : done → IsSettled new
  pub later : before ≤ now
  pub fault : failed → Rose before now
  pub quiet : (failed → ⊥) → now ≡ before

-- The trail stands for the entries before, or for these and the new one. Every other cell selects the body that it did,
-- no byte outside the cell has changed, and none of the cell but its selector and the body that wasn't selected.
pub record Appending (next : ℕ) (e : Entry) (old new : List ℕ) : Type 0 where
  pub outside : SameOutside (cell_size * (next % 4096)) cell_size old new
  pub others : (n : ℕ) → n ≢ next % 4096 → body new n ≡ body old n
  pub untouched : (k : ℕ) → IsUntouched old (next % 4096) k → slice_index new k ≡ slice_index old k
  pub stands : (es : List Entry) → IsTrail old es → IsTrail new es ⊎ IsTrail new (es ++ e ∷ [])

-- an entry is appended
pub record AppendsEntry (next : ℕ) (e : Entry) (old new : Medium)
    (result : Result (Unit {0}) TrailFault) : Type 0 where
  -- after Ok nothing is unsynced, and a read gives the entries with the new one
  pub settled : OnOk result (IsSettled new)
  pub stands : (es : List Entry) → Told old (λ c. IsTrail c es)
      → OnOk result (Told new (λ c. IsTrail c (es ++ e ∷ [])))
  -- its record stands in its cell, and the body that stood there is on the cell's other side
  pub replaced : OnOk result (Becomes (IsReplaced (next % 4096) (record_body next e)) old new)
  -- whatever the answer, a read gives the entries before or with the new one, and so does a stop at any moment
  pub either : Becomes (Appending next e) old new
  pub moments : EachImage old new (From (Appending next e) old)

-- the memory knows the next number, where the call answers Ok, and else that before
pub record Remembers (old new : ℕ) (result : Result (Unit {0}) TrailFault) : Type 0 where
  pub done : OnOk result (new ≡ old + 1)
  pub kept : OnErr result (new ≡ old)
