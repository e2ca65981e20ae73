-- What opening the disks brings into the bench and the memory.
use Rattle.std.specs.Prelude.{◌≡◌}
use Rattle.key_cells.specs.Bench.{Bench}
use Rattle.record_bodies.specs.StoreStands.{Agrees, HoldsRows, KeepsLabels}
use Rattle.master_registers.specs.Loaded.{Loaded}
use Rattle.master_registers.specs.declared.registers.Registers.{Registers}
use Rattle.device_cells.specs.Medium.{Medium, Told}
use Rattle.verb_rules.specs.Keys.{keys_of}
use Rattle.line_service.specs.Answering.{Holds}
use Rattle.cca_machine.specs.State.{State, IsModuleOf, IsStoreOf}
use Rattle.cca_machine.specs.Sound.{IsSound}
use Rattle.request_rules.specs.Standing.{Tables}

-- the bench holds the registers of a state, the memory has its roles, and the store its labels, which the memory knows
pub record IsOpened (s : State) (held : Registers) (bench : Bench) (t : Tables) (store : Medium) : Type 0 where
  pub loaded : Loaded s.registers held bench
  pub roles : t.roles ≡ s.roles
  pub labels : Holds store (KeepsLabels (keys_of s.registers) t.rows s.labels)

-- the memory has the roles of the state, and knows its labels
abbrev pub remembers : Tables → State → Type 0
remembers t s = (t.roles ≡ s.roles) × Agrees (keys_of s.registers) t.rows s.labels

-- Each disk, where it tells its bytes, stands for what the memory has of it. Both, where they tell theirs, stand for one
-- state, with which the memory agrees.
pub record AreKnown (t : Tables) (m d : Medium) : Type 0 where
  pub in_module : Told m (IsSound t.roles)
  pub in_store : Told d (HoldsRows t.rows)
  pub in_both : Told m
      (λ c. Told d (λ e. (s : State) × IsModuleOf s c × IsStoreOf s e × remembers t s))
