-- The state of the machine, and what of it stands on the module and in the store.
use Rattle.std.specs.Prelude.{ℕ, List, Option, None, replicate}
use Rattle.cca_roles.specs.Roles.{blank_roles}
use Rattle.cca_roles.specs.RolesStand.{StandsForRoles}
use Rattle.cca_roles.specs.declared.roles.Role.{Role}
use Rattle.record_bodies.specs.Entries.{Entry}
use Rattle.record_bodies.specs.StoreStands.{StandsForLabels}
use Rattle.master_registers.specs.Masters.{Masters, blank_masters}
use Rattle.master_registers.specs.RegisterBody.{StandsForMasters}
use Rattle.verb_rules.specs.Keys.{keys_of}

-- a module has 33 cells of 1,536 bytes: one for the registers, and 32 for roles
abbrev pub module_size : ℕ
module_size = 50688

-- a store has 1,024 cells of 1,536 bytes, one for each label
abbrev pub store_size : ℕ
store_size = 1572864

pub record State : Type 0 where
  -- the master key registers, with clear contents
  pub registers : Masters
  -- the roles with their access control points: 32 places, of which the one numbered n is cell n + 1
  pub roles : List (Option Role)
  -- the labels with their clear keys: 1,024 places, of which the one numbered n is cell n of the store
  pub labels : List (Option Entry)

-- the state of a blank module and a blank store
abbrev pub blank_state : State
blank_state = record {
  registers = blank_masters;
  roles = blank_roles;
  labels = replicate 1024 None;
}

-- a module with this content stands for the state
pub record IsModuleOf (s : State) (image : List ℕ) : Type 0 where
  pub registers : StandsForMasters image s.registers
  pub roles : StandsForRoles image s.roles

-- a store with this content stands for its labels
abbrev pub IsStoreOf : State → List ℕ → Type 0
IsStoreOf s image = StandsForLabels (keys_of s.registers) image s.labels
