-- The coprocessor as a machine that answers lines, over a module, a store and random bytes.
use Rattle.std.specs.Prelude.{⊤, ◌≡◌, ◌⊎◌, ◌≤◌, ◌<◌, ℕ, List, [], Option, None, IsTrue}
use Rattle.std.proofs.Common.{inl, inr, refl, sym, subst}
use Rattle.device_cells.specs.Cells.{body}
use Rattle.device_cells.specs.SpareBytes.{SameSpare}
use Rattle.device_cells.proofs.SpareLemmas.{same_spare}
use Rattle.master_registers.specs.Masters.{Masters}
use Rattle.master_registers.specs.RegisterBody.{StandsForMasters}
use Rattle.master_registers.proofs.BodyLaws.{reads_one}
use Rattle.line_service.specs.Replies.{Reply, Refused, Done}
use Rattle.verb_rules.specs.Keys.{keys_of}
use Rattle.verb_script.specs.Grammar.{Request, Spells}
use Rattle.cca_roles.specs.RolesStand.{StandsForRoles}
use Rattle.cca_roles.specs.declared.roles.Role.{Role}
use Rattle.cca_roles.proofs.StandLaws.{stands_undamaged}
use Rattle.record_bodies.specs.StoreStands.{StandsForLabels}
use Rattle.record_bodies.proofs.OpeningLaws.{stands_undamaged as labels_undamaged}
use Rattle.cca_machine.specs.State.{State, IsModuleOf, IsStoreOf, module_size, store_size}
pub use Rattle.cca_machine.specs.Broken.{IsBrokenModule, IsBrokenStore}
use Rattle.record_bodies.specs.Further.{further}
use Rattle.record_bodies.specs.declared.actions.StoreAction.{StoreAction}
use Rattle.cca_machine.specs.Reruns.{row_with}
use Rattle.cca_machine.specs.Operands.{needs_store}
use Rattle.cca_machine.specs.Verdict.{verdict}
use Rattle.cca_machine.specs.Act.{Outcome, Cells, performed}
use Rattle.cca_machine.specs.Lines.{MayDraw, line_outcome}
use Rattle.cca_machine.specs.Session.{line_step}
use Rattle.cca_machine.specs.Written.{SameBut, same_but_spare}
use Rattle.line_service.specs.Machine.{Machine}
use Rattle.line_service.specs.declared.stops.Device.{Device}
use Rattle.line_service.specs.declared.stops.Device.TheVariants.{Module, Store}
use Rattle.line_service.specs.declared.stops.Stop.{Stop}
use Rattle.line_service.specs.declared.stops.Stop.TheVariants.{ReadFault, WriteFault, EntropyFault, ModuleFault, StoreFault, Damaged, InputLimit}

-- the reply names a rule
abbrev pub IsRefusal : Reply → Type 0
IsRefusal (Refused rule operand) = ⊤
IsRefusal (Done fields) = ⊥

-- the line spells a request
abbrev pub IsRequest : List ℕ → Type 0
IsRequest line = (request : Request) × Spells request line

-- the line spells a request with a label in an operand, or REENCIPHER
pub record NeedsStore (line : List ℕ) : Type 0 where
  pub request : Request
  pub spelled : Spells request line
  pub needs : IsTrue (needs_store request)

-- the line spells a request that draws random bytes, and that no rule that is asked before refuses from this state
pub record DrawsRandom (s : State) (line : List ℕ) : Type 0 where
  pub request : Request
  pub spelled : Spells request line
  pub draws : MayDraw s request

-- The line spells REENCIPHER with or without an action, which no rule refuses from this state. A stop on its way leaves a
-- state in which every label in a cell below some number is what the action makes of it.
pub record IsRenewing (s : State) (line : List ℕ) (t : State) : Type 0 where
  pub request : Request
  pub spelled : Spells request line
  pub action : StoreAction
  pub is : request.name ≡ row_with action
  pub permitted : verdict s [] request ≡ None
  pub cells : ℕ
  pub within : cells ≤ 1024
  pub state_is : t ≡ record s { labels = further action s.labels cells }

-- The module may fail at a request, the store where an operand is a label and at REENCIPHER, the random source where
-- random bytes are drawn, and no other device at any line.
abbrev pub MayFail : Stop → State → List ℕ → Type 0
MayFail ModuleFault s line = IsRequest line
MayFail StoreFault s line = NeedsStore line
MayFail EntropyFault s line = DrawsRandom s line
MayFail ReadFault s line = ⊥
MayFail WriteFault s line = ⊥
MayFail InputLimit s line = ⊥
MayFail (Damaged device cell) s line = ⊥

-- the disk has this cell: the module 33 cells, the store 1,024
abbrev pub IsCell : Device → ℕ → Type 0
IsCell Module cell = cell ≤ 32
IsCell Store cell = cell < 1024

-- a request has the registers read again, and records
abbrev pub IsRereadCell : Device → ℕ → Type 0
IsRereadCell Module cell = cell ≡ 0
IsRereadCell Store cell = cell < 1024

-- what stands for registers and roles isn't broken
pub module_stands : (cell : ℕ) (c : List ℕ) (registers : Masters) (roles : List (Option Role))
    → IsBrokenModule cell c
    → StandsForMasters c registers → StandsForRoles c roles → ⊥
module_stands cell c registers roles (inl damaged) in_registers in_roles =
    damaged.1 registers in_registers
module_stands cell c registers roles (inr first) in_registers in_roles =
    stands_undamaged c roles first.1.place in_roles first.1.within first.1.damaged

pub broken_module_apart : (cell : ℕ) (c : List ℕ) (s : State) → IsBrokenModule cell c
    → IsModuleOf s c → ⊥
broken_module_apart cell c s broken is =
    module_stands cell c s.registers s.roles broken is.registers is.roles

pub broken_store_apart : (cell : ℕ) (c d : List ℕ) (s : State) → IsBrokenStore cell c d
    → IsModuleOf s c → IsStoreOf s d → ⊥
broken_store_apart cell c d s broken is labels =
    let one : s.registers ≡ broken.registers =
    reads_one (body c 0) s.registers broken.registers is.registers broken.in_registers in
    labels_undamaged (keys_of broken.registers) d s.labels cell
    (subst (λ (m : Masters). StandsForLabels (keys_of m) d s.labels) one labels)
    broken.first.within broken.first.damaged

-- At most the cells have changed that a request of the line writes; a line that spells none writes no cell.
abbrev pub MayWrite : (Outcome → Cells) → State → List ℕ → List ℕ → List ℕ → Type 0
MayWrite cells_of s line old new =
    (new ≡ old) ⊎ ((request : Request) × (drawn : List ℕ) × Spells request line
    × SameBut (cells_of (performed s drawn request)) old new)

abbrev pub ModuleMay : State → List ℕ → List ℕ → List ℕ → Type 0
ModuleMay = MayWrite (λ o. o.module_cells)

abbrev pub StoreMay : State → List ℕ → List ℕ → List ℕ → Type 0
StoreMay = MayWrite (λ o. o.store_cells)

pub write_spares : (cells_of : Outcome → Cells) (s : State) (line old new : List ℕ)
    → MayWrite cells_of s line old new → SameSpare old new
write_spares cells_of s line old new (inl same) = subst (SameSpare old) (sym same) (same_spare old)
write_spares cells_of s line old new (inr writes) =
    same_but_spare (cells_of (performed s writes.1 writes.0)) old new writes.3

abbrev pub cca : Machine
cca = record {
  State = State;
  step = line_step;
  Refuses = λ s random line. IsRefusal (line_outcome s random line).reply;
  InModule = IsModuleOf;
  InStore = IsStoreOf;
  Between = IsRenewing;
  MayStop = MayFail;
  HasCell = IsCell;
  IsReread = IsRereadCell;
  IsBrokenModule = IsBrokenModule;
  IsBrokenStore = IsBrokenStore;
  module_apart = broken_module_apart;
  store_apart = broken_store_apart;
  module_size = module_size;
  store_size = store_size;
  module_cells = 33;
  store_cells = 1024;
  ModuleMay = ModuleMay;
  StoreMay = StoreMay;
  module_still = λ s line image. inl refl;
  store_still = λ s line image. inl refl;
  module_spare = write_spares (λ o. o.module_cells);
  store_spare = write_spares (λ o. o.store_cells);
}

-- a session stops for these alone
abbrev pub IsStop : Stop → Type 0
IsStop ReadFault = ⊤
IsStop WriteFault = ⊤
IsStop InputLimit = ⊤
IsStop EntropyFault = ⊤
IsStop ModuleFault = ⊤
IsStop StoreFault = ⊤
IsStop (Damaged device cell) = IsCell device cell

-- and before the store is opened for these
abbrev pub IsModuleStop : Stop → Type 0
IsModuleStop ModuleFault = ⊤
IsModuleStop (Damaged Module cell) = cell ≤ 32
IsModuleStop (Damaged Store cell) = ⊥
IsModuleStop StoreFault = ⊥
IsModuleStop ReadFault = ⊥
IsModuleStop WriteFault = ⊥
IsModuleStop InputLimit = ⊥
IsModuleStop EntropyFault = ⊥
