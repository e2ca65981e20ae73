-- What a change of one role does to the module, and when each answer comes.
use Rattle.std.specs.Prelude.{◌≡◌, ◌≢◌, ◌≤◌, ◌⊎◌, ◌+◌, ◌*◌, ℕ, List, slice_index, Option}
use Rattle.std.specs.Prelude.{Result, Err, OnOk, OnErr}
use Rattle.key_cells.specs.Lease.{bench_of, holding}
use Rattle.key_cells.specs.declared.leases.Lease.{Lease}
use Rattle.device_cells.specs.Cells.{cell_size, body, IsReplaced, IsReplacing, IsUntouched}
use Rattle.device_cells.specs.Faults.{Rose}
use Rattle.device_cells.specs.Medium.{Medium, IsSettled, Told, From, Becomes, EachImage}
use Rattle.device_cells.specs.Ranges.{SameOutside}
use Rattle.device_cells.specs.SpareBytes.{HasTurned}
use Rattle.cca_roles.specs.RolesStand.{StandsForRoles}
use Rattle.cca_roles.specs.declared.faults.RoleFault.{RoleFault}
use Rattle.cca_roles.specs.declared.faults.RoleFault.TheVariants.{DiskFault}
use Rattle.cca_roles.specs.declared.roles.Role.{Role}

-- The module stands for the roles before or after. Every other cell selects the body that it did, no
-- byte outside the cell has changed, and none of the cell but its selector and the bytes of the body
-- that wasn't selected.
pub record HoldsEither (cell : ℕ) (s next : List (Option Role)) (old new : List ℕ) : Type 0 where
  pub outside : SameOutside (cell_size * cell) cell_size old new
  pub others : (n : ℕ) → n ≢ cell → body new n ≡ body old n
  pub untouched : (k : ℕ) → IsUntouched old cell k → slice_index new k ≡ slice_index old k
  pub stands : StandsForRoles new s ⊎ StandsForRoles new next

-- the roles of a module become others, by a change of one place
pub record ChangesRoles (place : ℕ) (s next : List (Option Role)) (old new : Medium)
    (result : Result (Unit {0}) RoleFault) : Type 0 where
  -- after Ok nothing is unsynced, and a read gives the roles after
  pub settled : OnOk result (IsSettled new)
  pub stands : OnOk result (Told new (λ image. StandsForRoles image next))
  -- and the body that the cell selected stands where it stood, as the one that isn't selected
  pub turned : OnOk result (Becomes (HasTurned (place + 1)) old new)
  -- whatever the answer, a read gives the roles before or after, and so does a stop at any moment of the call
  pub either : Becomes (HoldsEither (place + 1) s next) old new
  pub moments : EachImage old new (From (HoldsEither (place + 1) s next) old)

-- The very body that is written, where the roles may be those of another one too: the cell selects it. Every other cell
-- selects the body that it did, and no byte has changed but the selector of the cell and those of its body that wasn't
-- selected. After Ok the body that was selected stands where it stood, and at each moment before the cell selects the old
-- body or this one.
pub record ReplacesBody (cell : ℕ) (bytes : List ℕ) (old new : Medium)
    (result : Result (Unit {0}) RoleFault) : Type 0 where
  pub replaced : OnOk result (Becomes (IsReplaced cell bytes) old new)
  pub replacing : Becomes (IsReplacing cell bytes) old new
  pub moments : EachImage old new (From (IsReplacing cell bytes) old)

-- the memory has the roles after, where the call answers Ok, and else those before
pub record Remembers (s next now : List (Option Role)) (result : Result (Unit {0}) RoleFault)
    : Type 0 where
  pub done : OnOk result (now ≡ next)
  pub kept : OnErr result (now ≡ s)

-- a disk's fault is answered only where the disk's count rose, and where none is answered the count is as before
pub record HasRoleCause (before now : ℕ) (result : Result (Unit {0}) RoleFault) : Type 0 where
  pub later : before ≤ now
  pub failed : result ≡ Err DiskFault → Rose before now
  pub quiet : (result ≡ Err DiskFault → ⊥) → now ≡ before

-- of what a lease holds the body alone has changed
abbrev pub KeepsAllButBody : Lease → Lease → Type 0
KeepsAllButBody old new = new ≡ holding old (record (bench_of old) { body = (bench_of new).body })
