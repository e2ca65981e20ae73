-- What a call leaves of a device, whatever the device holds, and when it may answer that the device failed.
use Rattle.std.specs.Prelude.{◌≡◌, ◌≤◌, ℕ, List, Option, Result, Err, IsOk, IsSome}
use Rattle.device_cells.specs.Faults.{Rose}
use Rattle.device_cells.specs.Medium.{Medium, Told, IsSettled, Keeps}
use Rattle.device_cells.specs.WhereTold.{WhereTold}
use Rattle.line_service.specs.Machine.{Machine, World, world}
use Rattle.line_service.specs.Sending.{Grows}
use Rattle.line_service.specs.declared.stops.Device.{Device}
use Rattle.line_service.specs.declared.stops.Device.TheVariants.{Module, Store}
use Rattle.line_service.specs.declared.stops.Stop.{Stop}
use Rattle.line_service.specs.declared.stops.Stop.TheVariants.{ReadFault, WriteFault, EntropyFault, ModuleFault, StoreFault, Damaged}

-- before a call and after it
pub record Span (T : Type 1) : Type 1 where
  pub old : T
  pub new : T

-- ---- one device

-- A count of faults never falls. Where the call tells that the device failed, it has risen, and where the call doesn't
-- tell that, it is as before: no fault was passed over.
pub record TellsFault (before now : ℕ) (failed : Type 0) : Type 0 where
  pub later : before ≤ now
  pub fault : failed → Rose before now
  pub quiet : (failed → ⊥) → now ≡ before

-- The same of a disk. It keeps its size, tells what it told, and has nothing unsynced where the call is done.
pub record DiskLeft (old new : Medium) (before now : ℕ) (done failed : Type 0) : Type 0 where
  pub size : new.size ≡ old.size
  pub still : IsSome old.content → IsSome new.content
  pub settled : done → IsSettled new
  pub later : before ≤ now
  pub fault : failed → Rose before now
  pub quiet : (failed → ⊥) → now ≡ before

-- ---- the devices behind a machine

-- what they show at a moment, and how often each has failed
pub record Devices : Type 1 where
  pub world : World
  pub module_faults : ℕ
  pub store_faults : ℕ
  pub entropy_faults : ℕ

abbrev pub devices : Medium → ℕ → Medium → ℕ → Option (List ℕ) → ℕ → Devices
devices m m_count d d_count e e_count = record {
  world = world m d e;
  module_faults = m_count;
  store_faults = d_count;
  entropy_faults = e_count;
}

-- what a call leaves of each disk
abbrev pub ModuleLeft : Span Devices → Type 0 → Type 0 → Type 0
ModuleLeft d done failed =
    DiskLeft d.old.world.module_ d.new.world.module_ d.old.module_faults d.new.module_faults
    done failed

abbrev pub StoreLeft : Span Devices → Type 0 → Type 0 → Type 0
StoreLeft d done failed =
    DiskLeft d.old.world.store d.new.world.store d.old.store_faults d.new.store_faults
    done failed

-- both disks have their sizes, in bytes
pub record HaveSizes (of_module of_store : ℕ) (now : Devices) : Type 0 where
  pub module_size : now.world.module_.size ≡ of_module
  pub store_size : now.world.store.size ≡ of_store

-- and nothing of them is unsynced
pub record AreSettled (of_module of_store : ℕ) (now : Devices) : Type 0 where
  pub module_size : now.world.module_.size ≡ of_module
  pub store_size : now.world.store.size ≡ of_store
  pub module_settled : IsSettled now.world.module_
  pub store_settled : IsSettled now.world.store

-- of both disks nothing is unsynced
pub record BothSettled (now : Devices) : Type 0 where
  pub module_settled : IsSettled now.world.module_
  pub store_settled : IsSettled now.world.store

-- what a call leaves of the devices, and why it stopped
pub record DevicesLeft {T : Type 0} (result : Result T Stop) (d : Span Devices) : Type 0 where
  pub module_left : ModuleLeft d (IsOk result) (result ≡ Err ModuleFault)
  pub store_left : StoreLeft d (IsOk result) (result ≡ Err StoreFault)
  pub entropy_left : TellsFault d.old.entropy_faults d.new.entropy_faults
      (result ≡ Err EntropyFault)

-- what opening the disks leaves of them, and why it stopped: nothing is written
pub record OpeningLeft {T : Type 0} (result : Result T Stop) (d : Span Devices) : Type 0 where
  pub module_kept : Keeps d.old.world.module_ d.new.world.module_
  pub store_kept : Keeps d.old.world.store d.new.world.store
  pub module_left : ModuleLeft d (IsOk result) (result ≡ Err ModuleFault)
  pub store_left : StoreLeft d (IsOk result) (result ≡ Err StoreFault)

-- Damage is told where a cell is broken, and then always, unless a disk failed.
pub record DamageTold {T : Type 0} (A : Machine) (result : Result T Stop) (d : Span Devices)
    : Type 0 where
  pub module_damaged : (cell : ℕ) → result ≡ Err (Damaged Module cell)
      → Told d.old.world.module_ (A.IsBrokenModule cell)
  pub store_damaged : (cell : ℕ) → result ≡ Err (Damaged Store cell)
      → Told d.old.world.module_ (λ c. Told d.old.world.store (A.IsBrokenStore cell c))
  pub module_judged : (Rose d.old.module_faults d.new.module_faults → ⊥)
      → Told d.old.world.module_ (λ c. (cell : ℕ) → A.IsBrokenModule cell c
      → result ≡ Err (Damaged Module cell))
  pub store_judged : (Rose d.old.module_faults d.new.module_faults → ⊥)
      → (Rose d.old.store_faults d.new.store_faults → ⊥)
      → Told d.old.world.module_ (λ c. Told d.old.world.store (λ e. (cell : ℕ)
      → A.IsBrokenStore cell c e → result ≡ Err (Damaged Store cell)))
  pub cells : (device : Device) (cell : ℕ) → result ≡ Err (Damaged device cell)
      → A.HasCell device cell

-- Disks that tell their bytes don't turn out damaged, and others only at a cell that a line may have read again.
pub record Undamaged {T : Type 0} (A : Machine) (result : Result T Stop) (old : Devices)
    : Type 0 where
  pub module_sound : (cell : ℕ) → result ≡ Err (Damaged Module cell)
      → Told old.world.module_ (λ c. ⊥)
  pub store_sound : (cell : ℕ) → result ≡ Err (Damaged Store cell)
      → Told old.world.module_ (λ c. Told old.world.store (λ d. ⊥))
  pub cells : (device : Device) (cell : ℕ) → result ≡ Err (Damaged device cell)
      → A.HasCell device cell
  pub reread : (device : Device) (cell : ℕ) → result ≡ Err (Damaged device cell)
      → A.IsReread device cell

-- A cell turned out damaged: no random byte was drawn and nothing of the module was written; and the store wasn't called,
-- where the cell is the module's.
pub record DamageSpares {T D E : Type 0} (result : Result T Stop) (m0 m1 : Medium) (store0 store1 : D)
    (entropy0 entropy1 : E) : Type 0 where
  pub undrawn : (device : Device) (cell : ℕ) → result ≡ Err (Damaged device cell)
      → entropy1 ≡ entropy0
  pub module_kept : (device : Device) (cell : ℕ) → result ≡ Err (Damaged device cell) → Keeps m0 m1
  pub store_uncalled : (cell : ℕ) → result ≡ Err (Damaged Module cell) → store1 ≡ store0

-- ---- all that is outside

-- those devices, the bytes still to come from a source, and those that a sink holds
pub record Outside : Type 1 where
  pub devices : Devices
  pub input : Option (List ℕ)
  pub output : Option (List ℕ)
  pub source_faults : ℕ
  pub sink_faults : ℕ

abbrev pub outside : Option (List ℕ) → ℕ → Option (List ℕ) → ℕ → Devices → Outside
outside i i_count o o_count behind = record {
  devices = behind;
  input = i;
  output = o;
  source_faults = i_count;
  sink_faults = o_count;
}

-- the devices behind the machine, before a call and after it
abbrev pub behind : Span Outside → Span Devices
behind o = record { old = o.old.devices; new = o.new.devices }

-- what a call leaves of all that is outside, and why it stopped
pub record OutsideLeft {T : Type 0} (result : Result T Stop) (o : Span Outside) : Type 0 where
  pub devices_left : DevicesLeft result (behind o)
  pub source_left : TellsFault o.old.source_faults o.new.source_faults (result ≡ Err ReadFault)
  pub sink_left : TellsFault o.old.sink_faults o.new.sink_faults (result ≡ Err WriteFault)
  pub sink_grows : WhereTold o.old.output o.new.output Grows
