-- A disk that was opened, or wasn't.
use Rattle.std.proofs.Common.{◌≡◌, ◌∙◌, ℕ, List, Result, Ok, Err, refl, sym, ap, subst, arith, inl, inr}
use Rattle.std.specs.Prelude.{◌⊎◌, ◌≤◌, ◌<◌, IsOk, IsSome}
use Rattle.device_cells.specs.Faults.{Rose}
use Rattle.device_cells.specs.Medium.{IsSettled, Keeps, Medium, Told}
use Rattle.device_cells.proofs.Media.{told_map}
use Rattle.cca_roles.specs.RolesStand.{IsRoleCell}
use Rattle.cca_roles.specs.declared.faults.RoleFault.{RoleFault}
use Rattle.cca_roles.specs.declared.faults.RoleFault.TheVariants as role_fault
use Rattle.key_records.specs.declared.faults.RecordFault.{RecordFault}
use Rattle.key_records.specs.declared.faults.RecordFault.TheVariants as record_fault
use Rattle.master_registers.specs.RegisterBody.{IsDamaged}
use Rattle.master_registers.specs.declared.faults.LoadFault.{LoadFault}
use Rattle.master_registers.specs.declared.faults.LoadFault.TheVariants as load_fault
use Rattle.line_service.specs.Devices.{DiskLeft}
use Rattle.line_service.specs.declared.stops.Device.TheVariants.{Module, Store}
use Rattle.line_service.specs.declared.stops.Stop.{Stop}
use Rattle.line_service.specs.declared.stops.Stop.TheVariants.{ModuleFault, StoreFault, Damaged}
use Rattle.request_rules.specs.Judging.{IsStoreStop}
use Rattle.request_rules.specs.Stored.{IsReadFault, read_stop}
use Rattle.cca_machine.specs.Coprocessor.{IsBrokenModule, IsModuleStop}
use Rattle.store_unload.specs.Stops.{load_stop, role_stop}
use Rattle.store_unload.proofs.OpeningLemmas.{told_earlier_as}

-- ---- what is left of a disk

abbrev pub Left : (T : Type 0) → Medium → Medium → ℕ → ℕ → Result T Stop → Stop → Type 0
Left T m0 m1 before now r other = DiskLeft m0 m1 before now (IsOk r) (r ≡ Err other)

module _ (T : Type 0) (m0 m1 : Medium) (before now : ℕ) (kept : Keeps m0 m1) (later : before ≤ now) where
  -- it was opened
  pub left_open : (held : T) (other : Stop) → IsSettled m1 → now ≡ before
      → Left T m0 m1 before now (Ok held) other
  left_open held other settled same = record {
    size = kept.moments.size;
    still = λ some. subst IsSome (sym kept.content) some;
    settled = λ ok. settled;
    later = later;
    fault = λ h. absurd (cc h);
    quiet = λ never. same;
  }

  -- it wasn't
  pub left_shut : (stop other : Stop) → (stop ≡ other → Rose before now) → ((stop ≡ other → ⊥) → now ≡ before)
      → Left T m0 m1 before now (Err stop) other
  left_shut stop other fault quiet = record {
    size = kept.moments.size;
    still = λ some. subst IsSome (sym kept.content) some;
    settled = λ ok. absurd (cc ok);
    later = later;
    fault = λ h. fault (cc h);
    quiet = λ never. quiet (λ h. never (ap Err h));
  }

-- ---- a fault and its stop

-- the cell that a stop names
pub err_told : {T : Type 0} (told stop other : Stop) → told ≡ stop → ◌≡◌ {A = Result T Stop} (Err told) (Err other) → stop ≡ other
err_told told stop other is h = cc (is, h)

-- the one fault of a result
pub same_fault : {T F : Type 0} (r : Result T F) (fault other : F) → r ≡ Err fault → r ≡ Err other → fault ≡ other
same_fault r fault other is h = cc (is, h)

-- a value is no fault
pub no_fault : {T F : Type 0} {r : Result T F} {held : T} {fault : F} → r ≡ Ok held → r ≡ Err fault → ⊥
no_fault is h = cc (is, h)

-- of a fault that names a damaged cell the stop names the same cell
module _ {F : Type 0} (stop : F → Stop) (damaged : ℕ → F) (named : ℕ → Stop) (is_named : (n : ℕ) → stop (damaged n) ≡ named n) where
  -- the stop of a lost disk is that of no other fault
  pub at_disk : (disk : F) (Cell : ℕ → Type 0) (lost : Stop) → ((n : ℕ) → named n ≡ lost → ⊥) → (fault : F)
      → (fault ≡ disk) ⊎ ((cell : ℕ) × Cell cell × (fault ≡ damaged cell)) → stop fault ≡ lost → fault ≡ disk
  at_disk disk Cell lost apart fault (inl is) h = is
  at_disk disk Cell lost apart fault (inr at) h = absurd (apart at.0 (sym (is_named at.0) ∙ (ap stop (sym at.2) ∙ h)))

  -- the cell that the fault tells of is the stop's
  pub cell_named : (T : Type 0) (P : List ℕ → ℕ → Type 0) (r : Result (Unit {0}) F) (fault : F) → r ≡ Err fault → (m : Medium)
      → Told m (λ image. (cell : ℕ) → P image cell → r ≡ Err (damaged cell))
      → Told m (λ image. (cell : ℕ) → P image cell → ◌≡◌ {A = Result T Stop} (Err (stop fault)) (Err (named cell)))
  cell_named T P r fault is m exact =
      told_map m _ _ exact (λ c each cell first.
      let same : fault ≡ damaged cell = same_fault r fault (damaged cell) is (each cell first) in
      ap Err (ap stop same ∙ is_named cell))

-- ---- the registers

pub of_load : (fault : LoadFault) → IsModuleStop (load_stop fault)
of_load load_fault.DiskFault = tt
of_load load_fault.Damaged = omega arith

pub at_load : (fault : LoadFault) → load_stop fault ≡ ModuleFault → fault ≡ load_fault.DiskFault
at_load load_fault.DiskFault h = refl
at_load load_fault.Damaged h = absurd (cc h)

module _ (T : Type 0) (m0 m1 : Medium) (same : m1.content ≡ m0.content) where
  pub load_broken : (fault : LoadFault) → (fault ≡ load_fault.Damaged → Told m1 IsDamaged) → (cell : ℕ)
      → ◌≡◌ {A = Result T Stop} (Err (load_stop fault)) (Err (Damaged Module cell)) → Told m0 (IsBrokenModule cell)
  load_broken load_fault.DiskFault told cell h = absurd (cc h)
  load_broken load_fault.Damaged told cell h =
      let first : cell ≡ 0 = cc h in
      told_earlier_as m0 m1 IsDamaged (IsBrokenModule cell) same (λ c damaged. inl (first, damaged)) (told refl)

  pub load_judged : (fault : LoadFault) → (fault ≡ load_fault.Damaged → Told m1 IsDamaged) → (fault ≡ load_fault.DiskFault → ⊥)
      → Told m0 (λ image. (cell : ℕ) → IsBrokenModule cell image → ◌≡◌ {A = Result T Stop} (Err (load_stop fault)) (Err (Damaged Module cell)))
  load_judged load_fault.DiskFault told still = absurd (still refl)
  load_judged load_fault.Damaged told still =
      told_earlier_as m0 m1 IsDamaged _ same (λ c damaged cell broken. by_case c damaged cell broken) (told refl)
    where
      by_case : (c : List ℕ) → IsDamaged c → (cell : ℕ) → IsBrokenModule cell c → ◌≡◌ {A = Result T Stop} (Err (Damaged Module 0)) (Err (Damaged Module cell))
      by_case c damaged cell (inl first) = ap (λ (n : ℕ). Err (Damaged Module n)) (sym first.0)
      by_case c damaged cell (inr behind) = absurd (behind.0 damaged)

-- ---- the roles

abbrev pub IsRoleFault : RoleFault → Type 0
IsRoleFault fault = (fault ≡ role_fault.DiskFault) ⊎ ((cell : ℕ) × IsRoleCell cell × (fault ≡ role_fault.Damaged cell))

pub of_role : (fault : RoleFault) → IsRoleFault fault → IsModuleStop (role_stop fault)
of_role fault (inl is) = subst (λ (f : RoleFault). IsModuleStop (role_stop f)) (sym is) tt
of_role fault (inr damaged) = subst (λ (f : RoleFault). IsModuleStop (role_stop f)) (sym damaged.2) damaged.1.1

pub role_cell : (fault : RoleFault) (cell : ℕ) → role_stop fault ≡ Damaged Module cell → fault ≡ role_fault.Damaged cell
role_cell role_fault.DiskFault cell h = absurd (cc h)
role_cell (role_fault.Damaged n) cell h = let same : n ≡ cell = cc h in ap role_fault.Damaged same
role_cell role_fault.TableFull cell h = absurd (cc h)
role_cell role_fault.Unknown cell h = absurd (cc h)

pub at_role : (fault : RoleFault) → IsRoleFault fault → role_stop fault ≡ ModuleFault → fault ≡ role_fault.DiskFault
at_role = at_disk role_stop role_fault.Damaged (λ n. Damaged Module n) (λ n. refl) role_fault.DiskFault IsRoleCell ModuleFault (λ n is. cc is)

-- ---- the records

abbrev pub IsRecordFault : RecordFault → Type 0
IsRecordFault fault = (fault ≡ record_fault.DiskFault) ⊎ ((cell : ℕ) × (cell < 1024) × (fault ≡ record_fault.Damaged cell))

pub of_record : (fault : RecordFault) → IsRecordFault fault → IsReadFault fault
of_record fault (inl is) = subst IsReadFault (sym is) tt
of_record fault (inr damaged) = subst IsReadFault (sym damaged.2) tt

pub record_kind : (fault : RecordFault) → IsRecordFault fault → IsStoreStop (read_stop fault)
record_kind fault (inl is) = subst (λ (f : RecordFault). IsStoreStop (read_stop f)) (sym is) tt
record_kind fault (inr damaged) = subst (λ (f : RecordFault). IsStoreStop (read_stop f)) (sym damaged.2) damaged.1

pub at_record : (fault : RecordFault) → IsRecordFault fault → read_stop fault ≡ StoreFault → fault ≡ record_fault.DiskFault
at_record = at_disk read_stop record_fault.Damaged (λ n. Damaged Store n) (λ n. refl) record_fault.DiskFault (λ cell. cell < 1024) StoreFault (λ n is. cc is)

pub record_cell : (fault : RecordFault) (cell : ℕ) → read_stop fault ≡ Damaged Store cell → fault ≡ record_fault.Damaged cell
record_cell record_fault.DiskFault cell h = absurd (cc h)
record_cell (record_fault.Damaged n) cell h = let same : n ≡ cell = cc h in ap record_fault.Damaged same
record_cell record_fault.Full cell h = absurd (cc h)
record_cell record_fault.Exists cell h = absurd (cc h)
