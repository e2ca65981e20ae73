-- What the memory and the bench have of the disks, and the state that they stand for.
use Rattle.std.specs.Prelude.{◌≡◌, List, Option}
use Rattle.device_cells.specs.Medium.{Medium, Told, IsSettled}
use Rattle.cca_roles.specs.RolesStand.{StandsForRoles}
use Rattle.cca_roles.specs.declared.roles.Role.{Role}
use Rattle.record_bodies.specs.StoreStands.{Agrees}
use Rattle.record_bodies.specs.declared.rows.Row.{Row}
use Rattle.line_service.specs.Answering.{Holds}
use Rattle.verb_rules.specs.Keys.{keys_of}
use Rattle.cca_machine.specs.State.{State, IsModuleOf, IsStoreOf, module_size}
use Rattle.key_cells.specs.Bench.{Bench}
use Rattle.master_registers.specs.Loaded.{Loaded, IsLoaded, StandsForLoaded}
use Rattle.master_registers.specs.declared.registers.Registers.{Registers}

-- what the memory has of the disks: the roles of the module, and what is known of the labels of the store
pub record Tables : Type 0 where
  pub roles : List (Option Role)
  pub rows : List (Option Row)

abbrev pub tables : List (Option Role) → List (Option Row) → Tables
tables roles rows = record { roles = roles; rows = rows }

-- the module tells its content, which stands for the state, and the memory has the roles of the state
pub record StandsInModule (s : State) (roles : List (Option Role)) (module_ : Medium) : Type 0 where
  pub in_module : Holds module_ (IsModuleOf s)
  pub memory : roles ≡ s.roles

-- the store tells its content, which stands for the labels of the state, and the memory knows them
pub record StandsInStore (s : State) (rows : List (Option Row)) (store : Medium) : Type 0 where
  pub in_store : Holds store (IsStoreOf s)
  pub agrees : Agrees (keys_of s.registers) rows s.labels

-- both
pub record Stands (s : State) (t : Tables) (m d : Medium) : Type 0 where
  pub on_module : StandsInModule s t.roles m
  pub on_store : StandsInStore s t.rows d

-- the bench holds the registers of the module, of which nothing is unsynced, and the memory has its roles
pub record HasLoaded (held : Registers) (bench : Bench) (roles : List (Option Role)) (module_ : Medium) : Type 0 where
  pub size : module_.size ≡ module_size
  pub settled : IsSettled module_
  pub loaded : IsLoaded held bench
  pub stands : Told module_ (StandsForLoaded held bench)
  pub remembered : Told module_ (λ image. StandsForRoles image roles)

-- the module stands for the state, whose registers are in the bench and whose roles the memory has
pub record AtModule (s : State) (held : Registers) (bench : Bench) (roles : List (Option Role)) (module_ : Medium) : Type 0 where
  pub loaded : Loaded s.registers held bench
  pub stands : StandsInModule s roles module_

-- the same of the store, whose labels the memory knows
pub record AtStore (s : State) (held : Registers) (bench : Bench) (rows : List (Option Row)) (store : Medium) : Type 0 where
  pub loaded : Loaded s.registers held bench
  pub stands : StandsInStore s rows store

-- and of both
pub record At (s : State) (held : Registers) (bench : Bench) (t : Tables) (m d : Medium) : Type 0 where
  pub loaded : Loaded s.registers held bench
  pub stands : Stands s t m d
