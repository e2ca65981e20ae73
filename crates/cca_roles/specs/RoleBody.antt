-- A role as the body of a cell.
use Rattle.std.specs.Prelude.{◌≡◌, ◌⊎◌, ℕ, zero, suc, ◌-◌, List, ◌∷◌, ◌++◌, length, take, drop, replicate, Option, None, Some, slice_index, slice_range, bytes_eq, if◌then◌else◌}
use Rattle.std.specs.Int.{to_be_bytes, from_be_bytes, w32}
use Rattle.cca_roles.specs.Points.{ArePoints, every_point}
use Rattle.cca_roles.specs.RoleNames.{IsRoleName, default_name}
use Rattle.cca_roles.specs.Roles.{role}
use Rattle.cca_roles.specs.declared.roles.Role.{Role}

-- Byte 0 is X'01', byte 1 how long the name is. The name stands at 2, the points at 10, most significant byte first. Every
-- other byte is zero.
unfoldable pub role_body : List ℕ → ℕ → List ℕ
role_body name points =
    1 ∷ length name ∷ (name ++ (replicate (8 - length name) 0
    ++ (to_be_bytes w32 points ++ replicate 178 0)))

unfoldable pub blank_body : List ℕ
blank_body = replicate 192 0

-- the body is that of the role
pub record ReadsRole (bytes : List ℕ) (r : Role) : Type 0 where
  pub name : IsRoleName r.name
  pub points : ArePoints r.points
  pub body : bytes ≡ role_body r.name r.points

-- a blank body holds no role
abbrev pub ReadsSlot : List ℕ → Option Role → Type 0
ReadsSlot bytes None = bytes ≡ blank_body
ReadsSlot bytes (Some r) = ReadsRole bytes r

-- DEFAULT stands in the first place, where a blank body stands for every point
abbrev pub ReadsDefault : List ℕ → Option Role → Type 0
ReadsDefault bytes None = ⊥
ReadsDefault bytes (Some r) =
    (r.name ≡ default_name)
    × (((bytes ≡ blank_body) × (r.points ≡ every_point)) ⊎ ReadsRole bytes r)

-- what the body of a place reads as
abbrev pub ReadsPlace : ℕ → List ℕ → Option Role → Type 0
ReadsPlace zero bytes slot = ReadsDefault bytes slot
ReadsPlace (suc n) bytes slot = ReadsSlot bytes slot

-- ---- what a body can read as

abbrev pub name_in : List ℕ → List ℕ
name_in bytes = take (slice_index bytes 1) (drop 2 bytes)

abbrev pub points_in : List ℕ → ℕ
points_in bytes = from_be_bytes w32 (slice_range bytes 10 14)

abbrev pub role_in : List ℕ → Role
role_in bytes = role (name_in bytes) (points_in bytes)

-- what a blank body stands for
abbrev pub blank_slot : ℕ → Option Role
blank_slot zero = Some (role default_name every_point)
blank_slot (suc n) = None

-- what the body of a place reads as, if it reads as anything
unfoldable pub slot_in : ℕ → List ℕ → Option Role
slot_in n bytes = if bytes_eq bytes blank_body then blank_slot n else Some (role_in bytes)
