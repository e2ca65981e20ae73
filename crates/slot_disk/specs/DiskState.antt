-- A disk in memory: what it holds and what each call does to it.
use Rattle.std.specs.Prelude.{◌≡◌, ◌≤◌, ℕ, nat_lt, Bool, not, ◌||◌, List, [], ◌∷◌, ◌++◌, length, replicate, if◌then◌else◌}
use Rattle.slot_disk.specs.FaultPlan.{unused, fails_now, after_call_in_room}
use Rattle.slot_disk.specs.Stages.{stage}
use Rattle.slot_disk.specs.declared.call.Call.{Call}
use Rattle.slot_disk.specs.declared.fault_plan.FaultPlan.{FaultPlan}

pub record DiskState : Type 0 where
  -- the image that it began with
  pub first : List ℕ
  -- the writes and syncs that it noted
  pub calls : List Call
  -- how many it has room to note
  pub room : ℕ
  pub plan : FaultPlan

-- zeros
unfoldable pub blank_image : ℕ → List ℕ
blank_image size = replicate size 0

-- a disk with this image, nothing noted yet
abbrev pub new_disk : List ℕ → ℕ → DiskState
new_disk image room = record { first = image; calls = []; room = room; plan = unused }

-- there is room to note a call
abbrev pub has_room : DiskState → Bool
has_room d = nat_lt (length d.calls) d.room

-- a write or a sync fails
abbrev pub refuses_call : DiskState → Bool
refuses_call d = fails_now d.plan || not (has_room d)

-- After a write or a sync. One that fails changes no byte and isn't noted.
abbrev pub after_noted : DiskState → Call → DiskState
after_noted d call =
    let plan = after_call_in_room d.plan (has_room d) in
    if refuses_call d
    then record d { plan = plan }
    else record d { calls = d.calls ++ call ∷ []; plan = plan }

-- the bytes in memory are those that the noted calls left, and a note takes no memory
pub record IsDisk (first content : List ℕ) (calls : List Call) (room capacity : ℕ) : Type 0 where
  pub size : length content ≡ length first
  pub replayed : content ≡ (stage first calls).content
  pub noted : length calls ≤ room
  pub reserved : room ≤ capacity
