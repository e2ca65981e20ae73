-- A source in memory, and what a read does to it.
use Rattle.std.specs.Prelude.{ℕ, List, length, drop, min, if◌then◌else◌}
use Rattle.slot_disk.specs.declared.fault_plan.FaultPlan.{FaultPlan}
use Rattle.slot_disk.specs.FaultPlan.{fails_now, after_call}

pub record SourceState : Type 0 where
  pub left : List ℕ  -- the bytes still to come
  pub piece : ℕ  -- the most that a read gives
  pub plan : FaultPlan

-- how many bytes a read with this room gives
abbrev pub given : SourceState → ℕ → ℕ
given s room = min (min room s.piece) (length s.left)

-- a read that fails takes no byte
abbrev pub after_read : SourceState → ℕ → SourceState
after_read s room =
    let called = after_call s.plan in
    if fails_now s.plan
    then record s { plan = called }
    else record s { left = drop (given s room) s.left; plan = called }
