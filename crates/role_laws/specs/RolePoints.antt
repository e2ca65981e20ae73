-- What a change of one role leaves.
use Rattle.std.specs.Int.{from_be_bytes, w32}
use Rattle.std.specs.Prelude.{◌≡◌, ◌≢◌, ℕ, List, Option, codes}
use Rattle.cca_roles.specs.Roles.{points_of}
use Rattle.verb_script.specs.Grammar.{Request, value_of}
use Rattle.cca_machine.specs.State.{State}

-- the access control points that the digits of a request spell
abbrev pub points_spelled : Request → ℕ
points_spelled r = from_be_bytes w32 (value_of r (codes "points"))

-- The name has these points now, or is no role. Every other name has what it had, and the registers and the labels are as
-- they were.
pub record ChangesRoleAlone (s now : State) (name : List ℕ) (points : Option ℕ) : Type 0 where
  pub role : points_of name now.roles ≡ points
  pub others : (other : List ℕ) → other ≢ name
      → points_of other now.roles ≡ points_of other s.roles
  pub registers : now.registers ≡ s.registers
  pub labels : now.labels ≡ s.labels
