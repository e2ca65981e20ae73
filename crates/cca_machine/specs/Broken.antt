-- The first cell of a module and a store that is damaged.
use Rattle.std.specs.Prelude.{◌≡◌, ◌⊎◌, ℕ, List, Option}
use Rattle.cca_roles.specs.RolesStand.{StandsForRoles, IsFirstDamaged}
use Rattle.cca_roles.specs.declared.roles.Role.{Role}
use Rattle.record_bodies.specs.StoreStands.{IsFirstDamaged as IsFirstDamagedRecord}
use Rattle.master_registers.specs.Masters.{Masters}
use Rattle.master_registers.specs.RegisterBody.{StandsForMasters, IsDamaged}
use Rattle.verb_rules.specs.Keys.{keys_of}

-- Cell 0 reads as no registers; or it reads as some, and this is the first cell behind it that reads as no role, or as
-- one whose name a lower cell holds.
abbrev pub IsBrokenModule : ℕ → List ℕ → Type 0
IsBrokenModule cell image =
    ((cell ≡ 0) × IsDamaged image) ⊎ ((IsDamaged image → ⊥) × IsFirstDamaged image cell)

-- The module stands for some registers and roles, and this is the first cell of the store that reads as no record
-- under those registers, or as one whose label a lower cell holds.
pub record IsBrokenStore (cell : ℕ) (c d : List ℕ) : Type 0 where
  pub registers : Masters
  pub roles : List (Option Role)
  pub in_registers : StandsForMasters c registers
  pub in_roles : StandsForRoles c roles
  pub first : IsFirstDamagedRecord (keys_of registers) d cell
