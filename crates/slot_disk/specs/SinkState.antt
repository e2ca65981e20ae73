-- A sink in memory, and what a write does to it.
use Rattle.std.specs.Prelude.{ℕ, ◌-◌, ◌==◌, nat_lt, Bool, ◌&&◌, ◌||◌, List, ◌++◌, length, take, min, if◌then◌else◌}
use Rattle.slot_disk.specs.declared.fault_plan.FaultPlan.{FaultPlan}
use Rattle.slot_disk.specs.FaultPlan.{fails_now, after_call, with_fault}

pub record SinkState : Type 0 where
  pub held : List ℕ  -- the bytes taken
  pub room : ℕ  -- how many more it has room for
  pub plan : FaultPlan

-- there is no room for even one byte of the piece
abbrev pub is_full_for : SinkState → List ℕ → Bool
is_full_for s piece = s.room == 0 && nat_lt 0 (length piece)

-- a write of this piece fails
abbrev pub refuses : SinkState → List ℕ → Bool
refuses s piece = fails_now s.plan || is_full_for s piece

-- A write that fails takes no byte. A fault that the plan already counts isn't counted again for want of room.
abbrev pub after_write : SinkState → List ℕ → SinkState
after_write s piece =
    let called = after_call s.plan in
    let count = min (length piece) s.room in
    if fails_now s.plan
    then record s { plan = called }
    else (if is_full_for s piece
    then record s { plan = with_fault called }
    else record { held = s.held ++ take count piece; room = s.room - count; plan = called })
