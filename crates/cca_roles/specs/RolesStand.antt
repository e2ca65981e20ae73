-- What a module stands for: the roles, each in its cell.
use Rattle.std.specs.Prelude.{◌≡◌, ◌≤◌, ◌<◌, ◌⊎◌, ◌+◌, ℕ, List, length, map, Option, Some}
use Rattle.std.specs.List.{range_with_len}
use Rattle.device_cells.specs.Cells.{body}
use Rattle.cca_roles.specs.Directory.{AreApart}
use Rattle.cca_roles.specs.RoleBody.{ReadsPlace, slot_in}
use Rattle.cca_roles.specs.Roles.{names, role_at}
use Rattle.cca_roles.specs.declared.roles.Role.{Role}

-- the selected body of each cell from 1 to 32 reads as the role in its place, and each name stands in one place alone
pub record StandsForRoles (image : List ℕ) (s : List (Option Role)) : Type 0 where
  pub size : length s ≡ 32
  pub reads : (n : ℕ) → n < 32 → ReadsPlace n (body image (n + 1)) (role_at s n)
  pub apart : AreApart (names s)

-- the roles that a module stands for, if it stands for any
unfoldable pub roles_in : List ℕ → List (Option Role)
roles_in image = map (λ n. slot_in n (body image (n + 1))) (range_with_len 0 32)

-- cells 1 to 32
abbrev pub IsRoleCell : ℕ → Type 0
IsRoleCell cell = (1 ≤ cell) × (cell ≤ 32)

-- ---- damage

-- a lower place holds the name of this one
pub record Repeats (image : List ℕ) (n : ℕ) : Type 0 where
  pub lower : ℕ
  pub below : lower < n
  pub first : Role
  pub again : Role
  pub reads_first : ReadsPlace lower (body image (lower + 1)) (Some first)
  pub reads_again : ReadsPlace n (body image (n + 1)) (Some again)
  pub same : first.name ≡ again.name

-- the body of a place reads as nothing, or as a role whose name a lower place holds
abbrev pub IsDamagedPlace : List ℕ → ℕ → Type 0
IsDamagedPlace image n =
    ((slot : Option Role) → ReadsPlace n (body image (n + 1)) slot → ⊥) ⊎ Repeats image n

-- the first damaged cell from 1 to 32
pub record IsFirstDamaged (image : List ℕ) (cell : ℕ) : Type 0 where
  pub place : ℕ
  pub cell_is : cell ≡ place + 1
  pub within : place < 32
  pub damaged : IsDamagedPlace image place
  pub first : (k : ℕ) → k < place → IsDamagedPlace image k → ⊥
