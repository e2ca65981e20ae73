-- Opening a module, cell by cell.
use Rattle.std.specs.Prelude.{◌≡◌, ◌≤◌, ◌<◌, ◌⊎◌, ◌+◌, ℕ, List, set, Option, None, Some}
use Rattle.device_cells.specs.Cells.{body}
use Rattle.cca_roles.specs.Directory.{IsHeld}
use Rattle.cca_roles.specs.RoleBody.{ReadsPlace, slot_in}
use Rattle.cca_roles.specs.Roles.{names, role_at}
use Rattle.cca_roles.specs.declared.roles.Role.{Role}

-- the body of a place reads as a role or as none, which the memory now knows
pub record Opens (bytes : List ℕ) (place : ℕ) (old new : List (Option Role)) : Type 0 where
  pub reads : ReadsPlace place bytes (slot_in place bytes)
  pub known : new ≡ set old place (slot_in place bytes)

-- the body reads as nothing, or as a role whose name is held
abbrev pub IsRefused : List ℕ → ℕ → List (Option Role) → Type 0
IsRefused bytes place roles =
    ((slot : Option Role) → ReadsPlace place bytes slot → ⊥)
    ⊎ ((r : Role) × ReadsPlace place bytes (Some r) × IsHeld (Some r.name) (names roles))

-- the memory knows the first places, and no others
pub record OpenedTo (image : List ℕ) (place : ℕ) (roles : List (Option Role)) : Type 0 where
  pub reads : (n : ℕ) → n < place
      → ReadsPlace n (body image (n + 1)) (slot_in n (body image (n + 1)))
  pub known : (n : ℕ) → n < place → role_at roles n ≡ slot_in n (body image (n + 1))
  pub rest : (n : ℕ) → place ≤ n → role_at roles n ≡ None
