-- A content of the module, by the roles that the memory has.
use Rattle.std.specs.Prelude.{ℕ, List, Option}
use Rattle.cca_roles.specs.RolesStand.{StandsForRoles}
use Rattle.cca_roles.specs.declared.roles.Role.{Role}
use Rattle.master_registers.specs.Masters.{Masters}
use Rattle.master_registers.specs.RegisterBody.{StandsForMasters}

-- a content of the module stands for some registers, and for the roles that the memory has
pub record IsSound (roles : List (Option Role)) (image : List ℕ) : Type 0 where
  pub registers : Masters
  pub in_registers : StandsForMasters image registers
  pub in_roles : StandsForRoles image roles
