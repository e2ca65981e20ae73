-- Which calls of a device in memory fail, and what is counted.
use Rattle.std.specs.Prelude.{ℕ, Bool, false, ◌||◌, [], ◌∷◌, ◌++◌, drop, replicate, Option, None, Some, ◌==◌, if◌then◌else◌}
use Rattle.std.specs.List.{list_any}
use Rattle.device_cells.specs.Faults.{one_more}
use Rattle.slot_disk.specs.declared.fault_plan.FaultPlan.{FaultPlan}

-- no call yet, and none is to fail
abbrev pub unused : FaultPlan
unused = record { calls = 0; failing = replicate 8 None; faults = 0 }

abbrev pub is_call : ℕ → Option ℕ → Bool
is_call call None = false
is_call call (Some number) = number == call

-- the next call is one of those that are to fail
abbrev pub fails_now : FaultPlan → Bool
fails_now plan = list_any (is_call plan.calls) plan.failing

-- one more number, in the place of the oldest of eight
abbrev pub with_failing : FaultPlan → ℕ → FaultPlan
with_failing plan call = record plan { failing = drop 1 plan.failing ++ Some call ∷ [] }

abbrev pub with_fault : FaultPlan → FaultPlan
with_fault plan = record plan { faults = one_more plan.faults }

-- a call was made, and failed if it was to fail
abbrev pub after_call : FaultPlan → FaultPlan
after_call plan =
    let counted = record plan { calls = one_more plan.calls } in
    if fails_now plan then with_fault counted else counted

-- a call was made that also fails where there is no room for it
abbrev pub after_call_in_room : FaultPlan → Bool → FaultPlan
after_call_in_room plan has_room =
    let called = after_call plan in
    if fails_now plan || has_room then called else with_fault called
