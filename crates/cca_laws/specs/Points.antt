-- Requests whose roles lack access control points.
use Rattle.std.specs.Prelude.{◌≡◌, ℕ, List, Option, Some, bit_and, bit_or, codes}
use Rattle.cca_roles.specs.Roles.{points_of}
use Rattle.cca_roles.specs.declared.roles.Role.{Role}
use Rattle.verb_script.specs.Grammar.{Request, value_of}
use Rattle.cca_machine.specs.Points.{point}
use Rattle.cca_machine.specs.State.{State}

-- the point that the role table is changed by
abbrev pub role_point : ℕ
role_point = point (codes "ROLES")

-- the points of a master key ceremony
abbrev pub ceremony_points : ℕ
ceremony_points =
    bit_or (bit_or (point (codes "MK_FIRST")) (point (codes "MK_COMBINE")))
    (bit_or (point (codes "MK_CLEAR")) (point (codes "MK_SET")))

-- the points by which labels, their keys and the master keys that these are under change
abbrev pub label_points : ℕ
label_points =
    bit_or (bit_or (point (codes "KRC")) (point (codes "KRW")))
    (bit_or (bit_or (point (codes "KRD")) (point (codes "REENC"))) (point (codes "MK_SET")))

-- the points that the role table gives the role of a request, where it has that role
abbrev pub points_in_table : State → Request → Option ℕ
points_in_table s request = points_of (value_of request (codes "role")) s.roles

-- the role table hasn't the role of the request, or gives it none of these points
abbrev pub HoldsNone : ℕ → State → Request → Type 0
HoldsNone points s request =
    (held : ℕ) → points_in_table s request ≡ Some held → bit_and held points ≡ 0

-- no role of the table has any of these points
abbrev pub NobodyHolds : ℕ → List (Option Role) → Type 0
NobodyHolds points roles =
    (name : List ℕ) (held : ℕ) → points_of name roles ≡ Some held → bit_and held points ≡ 0
