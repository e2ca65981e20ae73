-- The schedules of a clear key.
use Rattle.std.specs.Prelude.{ℕ, List, length, take, drop, ◌==◌, if◌then◌else◌}
use Rattle.key_cells.specs.declared.schedules.Schedule.{Schedule}
use Rattle.des_blocks.specs.Schedules.{AreOf}

-- the left half of a double-length key, or the whole of a single-length one
abbrev pub left_key : List ℕ → List ℕ
left_key key = take 8 key

-- the right half of a double-length key, or the whole of a single-length one
abbrev pub right_key : List ℕ → List ℕ
right_key key = if length key == 8 then key else drop 8 key

-- three schedules hold a key: its left half, its right half and its left half again; a single-length key three times
abbrev pub HoldKey : List Schedule → List ℕ → Type 0
HoldKey schedules key = AreOf schedules (left_key key) (right_key key) (left_key key)
