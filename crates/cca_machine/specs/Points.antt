-- Access control points by their names, and those that a field of a request asks for.
use Rattle.std.specs.Prelude.{ℕ, List, [], ◌∷◌, codes, Option, None, Some, if◌then◌else◌}
use Rattle.std.specs.Str.{bytes_eq}
use Rattle.cca_roles.specs.Points.{access_points}
use Rattle.key_transport.specs.declared.changing.Target.{Target}
use Rattle.key_transport.specs.declared.changing.Target.TheVariants.{Current, New}
use Rattle.master_registers.specs.declared.actions.Action.{Action}
use Rattle.master_registers.specs.declared.actions.Action.TheVariants.{First, Middle, Last, Clear, Set}
use Rattle.verb_script.specs.Named.{label_named}

-- a bit that no access control point has
abbrev pub no_point : ℕ
no_point = 0x2000_0000

-- a name that isn't in the table is no access control point: it isn't as if nothing were needed
abbrev pub point_among : List ℕ → List (List ℕ × ℕ) → ℕ
point_among name [] = no_point
point_among name (p ∷ ps) = if bytes_eq p.0 name then p.1 else point_among name ps

-- the point of this name in the table of access control points
abbrev pub point : List ℕ → ℕ
point name = point_among name access_points

-- those that an action on the new master key needs
abbrev pub action_points : Action → ℕ
action_points First = point (codes "MK_FIRST")
action_points Middle = point (codes "MK_COMBINE")
action_points Last = point (codes "MK_COMBINE")
action_points Clear = point (codes "MK_CLEAR")
action_points Set = point (codes "MK_SET")

abbrev pub points_for : Option (List ℕ) → ℕ
points_for None = 0
points_for (Some label) = point (codes "KRW")

-- a key that goes into a record needs the point of CSNBKRW too
abbrev pub target_points : List ℕ → ℕ
target_points to = points_for (label_named to)

-- RTCMK or RTNMK
abbrev pub change_points : Target → ℕ
change_points Current = point (codes "KTC_CURRENT")
change_points New = point (codes "KTC_NEW")
