-- Schedules of round keys that hold nothing.
use Rattle.std.specs.Prelude.{List, [], ◌∷◌, replicate}
use Rattle.key_cells.specs.declared.schedules.Schedule.{Schedule}

-- 128 zeros
abbrev pub blank_schedule : Schedule
blank_schedule = record { groups = replicate 128 0 }

-- the three schedules of a bench, all zero
abbrev pub blank_schedules : List Schedule
blank_schedules = blank_schedule ∷ blank_schedule ∷ blank_schedule ∷ []
