-- Random bytes in memory, and what a fill does to them.
use Rattle.std.specs.Prelude.{ℕ, nat_le, Bool, not, ◌||◌, List, length, drop, if◌then◌else◌}
use Rattle.slot_disk.specs.FaultPlan.{fails_now, after_call_in_room}
use Rattle.slot_disk.specs.declared.fault_plan.FaultPlan.{FaultPlan}

pub record EntropyState : Type 0 where
  -- the bytes still to come
  pub left : List ℕ
  pub plan : FaultPlan

-- so many bytes are left
abbrev pub has_left : EntropyState → ℕ → Bool
has_left e count = nat_le count (length e.left)

-- a fill of so many bytes fails
abbrev pub refuses_fill : EntropyState → ℕ → Bool
refuses_fill e count = fails_now e.plan || not (has_left e count)

-- a fill that fails takes no byte
abbrev pub after_fill : EntropyState → ℕ → EntropyState
after_fill e count =
    let plan = after_call_in_room e.plan (has_left e count) in
    if refuses_fill e count
    then record e { plan = plan }
    else record { left = drop count e.left; plan = plan }
