-- How the status of a move tells of disks, and of what was told.
use Rattle.std.proofs.Common.{◌≡◌, ◌∙◌, ℕ, List, Option, Result, Ok, Err, refl, sym, ap, subst, inl, inr}
use Rattle.std.specs.Prelude.{◌<◌, IsOk}
use Rattle.device_cells.specs.Medium.{Medium, Told}
use Rattle.device_cells.proofs.Media.{told_at, told_from}
use Rattle.key_records.specs.declared.faults.RecordFault.{RecordFault}
use Rattle.key_records.specs.declared.faults.RecordFault.TheVariants as record_fault
use Rattle.line_service.specs.Answering.{Holds, IsSound, OnDisks}
use Rattle.line_service.specs.Stops.{IsOpeningStop}
use Rattle.line_service.specs.declared.stops.Device.{Device}
use Rattle.line_service.specs.declared.stops.Device.TheVariants.{Module, Store}
use Rattle.line_service.specs.declared.stops.Stop.{Stop}
use Rattle.line_service.specs.declared.stops.Stop.TheVariants as stop
use Rattle.cca_machine.specs.State.{State, IsModuleOf, IsStoreOf}
use Rattle.request_rules.specs.Stored.{read_stop}
use Rattle.store_unload.specs.Judging.{IsStoreFault}
use Rattle.command_words.specs.declared.moves.Move.{Move}
use Rattle.cca_machine.specs.Coprocessor.{IsCell, cca}
use Rattle.store_unload.specs.Statuses.{status_of_lem}
use Rattle.store_unload.specs.Unloading.{IsLabelStatus, IsOpenStatus, MoveTold, TellsLabels, disk_stop, status_stop}
use Rattle.store_unload.specs.declared.status.Status.{Status}
use Rattle.store_unload.specs.declared.status.Status.TheVariants as status
use Rattle.store_unload.specs.declared.unloading.MoveStatus.{MoveStatus}
use Rattle.store_unload.specs.declared.unloading.MoveStatus.TheVariants.{Run, Refused, ReportFault}

-- disks that weren't opened don't tell that the file failed
pub unwritten : (why : Stop) (told : Status) → IsOpeningStop why → told ≡ status_of_lem (Err why) → Run told ≡ Run status.WriteFault → ⊥
unwritten stop.ModuleFault told kind is h = cc (is, h)
unwritten stop.StoreFault told kind is h = cc (is, h)
unwritten (stop.Damaged device cell) told kind is h = cc (is, h)
unwritten stop.ReadFault told kind is h = kind
unwritten stop.WriteFault told kind is h = kind
unwritten stop.EntropyFault told kind is h = kind
unwritten stop.InputLimit told kind is h = kind

-- ---- what is told where a disk failed before a label was told

module _ (s : State) (w : Move) (file report : Option (List ℕ)) (X Y : Type 0) where
  none_at_store : TellsLabels (Run status.StoreFault) → ⊥
  none_at_store (inl h) = cc h
  none_at_store (inr (inl h)) = cc h
  none_at_store (inr (inr h)) = cc h

  none_at_module : TellsLabels (Run status.ModuleFault) → ⊥
  none_at_module (inl h) = cc h
  none_at_module (inr (inl h)) = cc h
  none_at_module (inr (inr h)) = cc h

  store_told : (X → ⊥) → MoveTold s w (Run status.StoreFault) file file report report X Y
  store_told failed = record {
    done = λ h. absurd (cc h);
    permitted = λ h. absurd (none_at_store h);
    cut = λ h. absurd (none_at_store (inr h));
    lost = λ h. inl (refl, refl);
    refused = λ rule h. absurd (cc h);
    refuses = λ still. absurd (failed still);
    undamaged = λ device cell h. cc h;
    complete = λ still. absurd (failed still);
  }

  module_told : (X → ⊥) → MoveTold s w (Run status.ModuleFault) file file report report X Y
  module_told failed = record {
    done = λ h. absurd (cc h);
    permitted = λ h. absurd (none_at_module h);
    cut = λ h. absurd (none_at_module (inr h));
    lost = λ h. absurd (cc h);
    refused = λ rule h. absurd (cc h);
    refuses = λ still. absurd (failed still);
    undamaged = λ device cell h. cc h;
    complete = λ still. absurd (failed still);
  }

  by_record : (fault : RecordFault) → IsStoreFault fault → (fault ≡ record_fault.DiskFault → X → ⊥)
      → ((cell : ℕ) → fault ≡ record_fault.Damaged cell → ⊥) → MoveTold s w (Run (status_of_lem (Err (read_stop fault)))) file file report report X Y
  by_record fault (inl is) failed undamaged =
      subst (λ (f : RecordFault). MoveTold s w (Run (status_of_lem (Err (read_stop f)))) file file report report X Y) (sym is) (store_told (failed is))
  by_record fault (inr damaged) failed undamaged = absurd (undamaged damaged.0 damaged.2)

  -- the store failed while the transport key was judged
  pub fault_told : (fault : RecordFault) (why : Stop) (told : Status) → why ≡ read_stop fault → told ≡ status_of_lem (Err why) → IsStoreFault fault
      → (fault ≡ record_fault.DiskFault → X → ⊥) → ((cell : ℕ) → fault ≡ record_fault.Damaged cell → ⊥)
      → MoveTold s w (Run told) file file report report X Y
  fault_told fault why told reads is kind failed undamaged =
      subst (λ (t : Status). MoveTold s w (Run t) file file report report X Y) (sym (is ∙ ap (λ (x : Stop). status_of_lem (Err x)) reads)) (by_record fault kind failed undamaged)

  by_stop : (why : Stop) → IsOpeningStop why → (why ≡ stop.ModuleFault → X → ⊥) → (why ≡ stop.StoreFault → X → ⊥)
      → ((device : Device) (cell : ℕ) → why ≡ stop.Damaged device cell → ⊥)
      → MoveTold s w (Run (status_of_lem (Err why))) file file report report X Y
  by_stop stop.ModuleFault kind failed_m failed_d undamaged = module_told (failed_m refl)
  by_stop stop.StoreFault kind failed_m failed_d undamaged = store_told (failed_d refl)
  by_stop (stop.Damaged device cell) kind failed_m failed_d undamaged = absurd (undamaged device cell refl)
  by_stop stop.EntropyFault kind failed_m failed_d undamaged = absurd kind
  by_stop stop.ReadFault kind failed_m failed_d undamaged = absurd kind
  by_stop stop.WriteFault kind failed_m failed_d undamaged = absurd kind
  by_stop stop.InputLimit kind failed_m failed_d undamaged = absurd kind

  -- a disk failed at opening
  pub stop_told : (why : Stop) (told : Status) → told ≡ status_of_lem (Err why) → IsOpeningStop why
      → (why ≡ stop.ModuleFault → X → ⊥) → (why ≡ stop.StoreFault → X → ⊥) → ((device : Device) (cell : ℕ) → why ≡ stop.Damaged device cell → ⊥)
      → MoveTold s w (Run told) file file report report X Y
  stop_told why told is kind failed_m failed_d undamaged =
      subst (λ (t : Status). MoveTold s w (Run t) file file report report X Y) (sym is) (by_stop why kind failed_m failed_d undamaged)

-- the same, where more is asked of the disks
pub told_wider : (s : State) (w : Move) (outcome : MoveStatus) (file0 file1 report0 report1 : Option (List ℕ)) (X Z Y : Type 0) → (Z → X)
    → MoveTold s w outcome file0 file1 report0 report1 X Y → MoveTold s w outcome file0 file1 report0 report1 Z Y
told_wider s w outcome file0 file1 report0 report1 X Z Y wider told = record {
  done = told.done;
  permitted = told.permitted;
  cut = told.cut;
  lost = told.lost;
  refused = told.refused;
  refuses = λ still. told.refuses (wider still);
  undamaged = told.undamaged;
  complete = λ still. told.complete (wider still);
}

-- ---- the stop of a disk

-- the status of a stop tells that stop
pub stop_again : (why : Stop) (told : Status) → IsOpeningStop why → told ≡ status_of_lem (Err why) → status_stop told ≡ Err why
stop_again why told kind is = ap status_stop is ∙ by_case why kind
  where
    by_case : (why : Stop) → IsOpeningStop why → status_stop (status_of_lem (Err why)) ≡ Err why
    by_case stop.ModuleFault kind = refl
    by_case stop.StoreFault kind = refl
    by_case (stop.Damaged device cell) kind = refl
    by_case stop.EntropyFault kind = absurd kind
    by_case stop.ReadFault kind = absurd kind
    by_case stop.WriteFault kind = absurd kind
    by_case stop.InputLimit kind = absurd kind

-- once the disks are opened, the cell that is told as damaged is one of the store
pub record IsStoreCell (outcome : MoveStatus) (device : Device) (cell : ℕ) : Type 0 where
  pub store : device ≡ Store
  pub within : cell < 1024
  pub is : outcome ≡ Run (status.Damaged Store cell)

pub store_cell : (outcome : MoveStatus) → IsLabelStatus outcome → (device : Device) (cell : ℕ)
    → disk_stop outcome ≡ Err (stop.Damaged device cell) → IsStoreCell outcome device cell
store_cell (Run (status.Damaged Store n)) kind device cell h =
    let same : n ≡ cell = cc h in
    record { store = cc h; within = subst (λ (k : ℕ). k < 1024) same kind; is = ap (λ (k : ℕ). Run (status.Damaged Store k)) same }
store_cell (Run (status.Damaged Module n)) kind device cell h = absurd kind
store_cell (Run status.Done) kind device cell h = absurd (cc h)
store_cell (Run status.WriteFault) kind device cell h = absurd (cc h)
store_cell (Run status.StoreFault) kind device cell h = absurd (cc h)
store_cell (Run status.ModuleFault) kind device cell h = absurd kind
store_cell (Run status.Usage) kind device cell h = absurd kind
store_cell (Run status.NoMemory) kind device cell h = absurd kind
store_cell (Run status.ReadFault) kind device cell h = absurd kind
store_cell (Run status.EntropyFault) kind device cell h = absurd kind
store_cell (Run status.InputLimit) kind device cell h = absurd kind
store_cell (Refused rule) kind device cell h = absurd (cc h)
store_cell ReportFault kind device cell h = absurd (cc h)

pub cell_is_one : (outcome : MoveStatus) (device : Device) (cell : ℕ) → IsStoreCell outcome device cell → IsCell device cell
cell_is_one outcome device cell is = subst (λ (d : Device). IsCell d cell) (sym is.store) is.within

pub not_module : (outcome : MoveStatus) (cell : ℕ) → IsStoreCell outcome Module cell → ⊥
not_module outcome cell is = cc is.store

-- what comes of no state for which the disks stand comes of disks alone that don't tell their bytes
pub never_broken : (m d : Medium) (P : List ℕ → List ℕ → Type 0) → IsSound cca m d → ((s : State) → OnDisks cca s m d → ⊥)
    → Told m (λ c. Told d (P c))
never_broken m d P sound never =
    told_from m.content _ (λ c is. told_from d.content _ (λ e is_e.
    let both = told_at m.content (λ x. Told d (λ y. (s : State) × IsModuleOf s x × IsStoreOf s y)) c is sound.in_both in
    let here = told_at d.content (λ y. (s : State) × IsModuleOf s c × IsStoreOf s y) e is_e both in
    absurd (never here.0 (record {
      in_module = record { image = c; told = is; has = here.1 };
      in_store = record { image = e; told = is_e; has = here.2 };
    }))))

pub never_opened : (m : Medium) (P : List ℕ → Type 0) → Holds m P → Told m (λ _. ⊥) → ⊥
never_opened m P holds never = told_at m.content (λ _. ⊥) holds.image holds.told never

-- what is a stop isn't well
pub no_ok : {T U : Type 0} (r : Result T Stop) (other : Result U Stop) (why : Stop) → r ≡ Err why → IsOk r → IsOk other
no_ok (Ok done) other why is ok = absurd (cc is)
no_ok (Err stop) other why is ok = absurd (cc ok)

-- a stop of opening is one of the ways in which a move ends
pub stop_opens : {T : Type 0} (r : Result T Stop) (why : Stop) (told : Status) → r ≡ Err why → told ≡ status_of_lem (Err why) → IsOpeningStop why
    → ((device : Device) (cell : ℕ) → r ≡ Err (stop.Damaged device cell) → IsCell device cell) → IsOpenStatus (Run told)
stop_opens r why told named is kind cells =
    subst (λ (t : Status). IsOpenStatus (Run t)) (sym is) (by_case why kind (λ device cell same. cells device cell (named ∙ ap Err same)))
  where
    by_case : (why : Stop) → IsOpeningStop why → ((device : Device) (cell : ℕ) → why ≡ stop.Damaged device cell → IsCell device cell)
        → IsOpenStatus (Run (status_of_lem (Err why)))
    by_case stop.ModuleFault kind cells = tt
    by_case stop.StoreFault kind cells = tt
    by_case (stop.Damaged device cell) kind cells = cells device cell refl
    by_case stop.EntropyFault kind cells = absurd kind
    by_case stop.ReadFault kind cells = absurd kind
    by_case stop.WriteFault kind cells = absurd kind
    by_case stop.InputLimit kind cells = absurd kind
