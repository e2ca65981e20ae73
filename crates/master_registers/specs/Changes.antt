-- What a change of the registers does to the module, and when each answer comes.
use Rattle.std.specs.Prelude.{◌≡◌, ◌≢◌, ◌≤◌, ◌⊎◌, ℕ, List, slice_index, Result, Ok, Err, OnOk, IfOk, ⊤}
use Rattle.key_cells.specs.Bench.{Bench}
use Rattle.key_cells.specs.Lease.{bench_of}
use Rattle.key_cells.specs.declared.leases.Lease.{Lease}
use Rattle.device_cells.specs.Cells.{body, IsReplaced, IsUntouched}
use Rattle.device_cells.specs.Faults.{Rose}
use Rattle.device_cells.specs.Medium.{Medium, IsSettled, Told, From, Becomes, EachImage}
use Rattle.device_cells.specs.Ranges.{SameOutside}
use Rattle.master_registers.specs.Loaded.{Loaded, IsLoaded, ArePlaced, KeepsRest, StandsForLoaded, masters_in}
use Rattle.master_registers.specs.Masters.{Masters}
use Rattle.master_registers.specs.RegisterBody.{registers_body, ReadsMasters, StandsForMasters}
use Rattle.master_registers.specs.declared.faults.LoadFault.{LoadFault}
use Rattle.master_registers.specs.declared.faults.LoadFault.TheVariants as load_fault
use Rattle.master_registers.specs.declared.faults.RegisterFault.{RegisterFault}
use Rattle.master_registers.specs.declared.faults.RegisterFault.TheVariants as register_fault
use Rattle.master_registers.specs.declared.registers.Registers.{Registers}

-- Cell 0 stands for one of these registers: it selects the body that it did, or the table of the second. Every other cell
-- selects the body that it did. No byte outside cell 0 has changed, and of cell 0 at most the selector and the body that
-- wasn't selected.
pub record HoldsEither (m next : Masters) (old new : List ℕ) : Type 0 where
  pub outside : SameOutside 0 1536 old new
  pub others : (n : ℕ) → n ≢ 0 → body new n ≡ body old n
  pub here : (body new 0 ≡ body old 0) ⊎ (body new 0 ≡ registers_body next)
  pub untouched : (k : ℕ) → IsUntouched old 0 k → slice_index new k ≡ slice_index old k
  pub stands : StandsForMasters new m ⊎ StandsForMasters new next

-- The registers of a module become others.
pub record ChangesModule (m next : Masters) (old new : Medium)
    (result : Result Registers RegisterFault) : Type 0 where
  -- after Ok nothing is unsynced, and cell 0 selects the table of the new registers
  pub settled : OnOk result (IsSettled new)
  pub replaced : OnOk result (Becomes (IsReplaced 0 (registers_body next)) old new)
  pub stands : OnOk result (Told new (λ c. StandsForMasters c next))
  -- whatever the answer, a read gives the old registers or the new ones, and so does a stop at any moment of the call
  pub either : Becomes (HoldsEither m next) old new
  pub moments : EachImage old new (From (HoldsEither m next) old)

-- where a rule refuses the change, P holds
abbrev pub WhenRefused : Result Registers RegisterFault → Type 0 → Type 0
WhenRefused (Ok held) P = ⊤
WhenRefused (Err register_fault.DiskFault) P = ⊤
WhenRefused (Err register_fault.RegisterState) P = P
WhenRefused (Err register_fault.SamePattern) P = P

-- A bench holds the registers of a module, of which nothing is unsynced.
pub record IsLoadedFrom (from : Medium) (held : Registers) (bench : Bench) : Type 0 where
  pub within : 1536 ≤ from.size
  pub settled : IsSettled from
  pub loaded : IsLoaded held bench
  pub stands : Told from (StandsForLoaded held bench)

-- a disk's fault is answered only where the disk's count rose, and where none is answered the count is as before
pub record HasDiskCause (before now : ℕ) (result : Result Registers RegisterFault) : Type 0 where
  pub later : before ≤ now
  pub failed : result ≡ Err register_fault.DiskFault → Rose before now
  pub quiet : (result ≡ Err register_fault.DiskFault → ⊥) → now ≡ before

-- A step that makes `next` of the registers `m`, which a lease holds of a module. The module shows a medium and a count of
-- faults.
pub record CarriesOut {M : Type 0} (medium : M → Medium) (faults : M → ℕ) (m next : Masters)
    (lease later : Lease) (old new : M) (result : Result Registers RegisterFault) : Type 0 where
  -- after Ok the bench holds the registers after the step, and after a fault of the disk their bytes
  pub loaded : IfOk result (λ held. Loaded next held (bench_of later))
  pub placed : result ≡ Err register_fault.DiskFault → ArePlaced next (bench_of later)
  -- of the lease the places of the registers and the body may have changed
  pub rest : KeepsRest lease later
  -- the registers of the module become these
  pub changed : ChangesModule m next (medium old) (medium new) result
  pub cause : HasDiskCause (faults old) (faults new) result
  -- a refusal by a rule calls no device, and writes no place
  pub untouched : WhenRefused result (new ≡ old)
  pub lease_untouched : WhenRefused result (later ≡ lease)

pub record HasLoadCause (before now : ℕ) (result : Result Registers LoadFault) : Type 0 where
  pub later : before ≤ now
  pub failed : result ≡ Err load_fault.DiskFault → Rose before now
  pub quiet : (result ≡ Err load_fault.DiskFault → ⊥) → now ≡ before

-- What loading says of the body that was read, which the bench holds: the registers are those that it reads as, and where
-- it answers damaged it reads as none.
pub record RestsOnBody (bench : Bench) (result : Result Registers LoadFault) : Type 0 where
  pub reads : IfOk result (λ held. ReadsMasters bench.body (masters_in held bench))
  pub misread : result ≡ Err load_fault.Damaged → (m : Masters) → ReadsMasters bench.body m → ⊥
