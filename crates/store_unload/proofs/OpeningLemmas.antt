-- The disks as they are opened.
use Rattle.std.proofs.Common.{◌≡◌, ℕ, List, Option, Result, Ok, Err, refl, sym, ap, subst, ◌∙◌, inl, inr}
use Rattle.std.specs.Prelude.{IsOk}
use Rattle.key_cells.specs.Bench.{Bench}
use Rattle.key_cells.specs.Lease.{bench_of, loan_of}
use Rattle.key_cells.specs.declared.leases.Lease.{Lease}
use Rattle.device_cells.specs.Cells.{body}
use Rattle.device_cells.specs.Medium.{Medium, Told}
use Rattle.device_cells.proofs.Media.{told_from, told_at, told_earlier, told_joined, told_map}
use Rattle.master_registers.specs.Loaded.{IsLoaded, Loaded, StandsForLoaded, masters_in}
use Rattle.master_registers.specs.Masters.{Masters}
use Rattle.master_registers.specs.declared.registers.Registers.{Registers}
use Rattle.master_registers.specs.RegisterBody.{StandsForMasters}
use Rattle.master_registers.proofs.BodyLaws.{reads_one}
use Rattle.cca_roles.specs.RolesStand.{StandsForRoles, IsFirstDamaged}
use Rattle.cca_roles.specs.declared.roles.Role.{Role}
use Rattle.cca_roles.proofs.StandLaws.{stands_one as stands_roles}
use Rattle.verb_rules.specs.Keys.{keys_of}
use Rattle.key_records.specs.Changes.{ChangesKeyAndBody}
use Rattle.record_bodies.specs.Entries.{Entry}
use Rattle.record_bodies.specs.StoreStands.{KeepsLabels, labels_in, IsFirstDamaged as IsFirstDamagedRecord}
use Rattle.record_bodies.specs.declared.rows.Row.{Row}
use Rattle.record_bodies.proofs.OpeningLaws.{stands_one as labels_one, stands_undamaged as labels_undamaged}
use Rattle.line_service.specs.Answering.{OnDisks}
use Rattle.line_service.specs.Devices.{DamageTold, Devices, OpeningLeft, Span}
use Rattle.line_service.specs.Stops.{IsOpeningStop}
use Rattle.line_service.specs.declared.stops.Device.TheVariants.{Module, Store}
use Rattle.line_service.specs.declared.stops.Stop.{Stop}
use Rattle.line_service.specs.declared.stops.Stop.TheVariants.{ReadFault, WriteFault, EntropyFault, ModuleFault, StoreFault, Damaged, InputLimit}
use Rattle.cca_machine.specs.State.{State}
use Rattle.request_rules.specs.Judging.{IsStoreStop}
use Rattle.request_rules.specs.Standing.{tables}
use Rattle.store_unload.specs.Opening.{IsOpened}
use Rattle.cca_machine.specs.Coprocessor.{cca, IsBrokenModule, IsBrokenStore, IsModuleStop, module_stands}

-- ---- what is told

-- what follows from what is told now was told before
pub told_earlier_as : (m0 m1 : Medium) (P Q : List ℕ → Type 0) → m1.content ≡ m0.content → ((c : List ℕ) → P c → Q c) → Told m1 P → Told m0 Q
told_earlier_as m0 m1 P Q same weaker told = told_map m0 P Q (told_earlier m0 m1 P same told) weaker

-- ---- the module

-- the registers were loaded, and a cell behind them is damaged
pub broken_role : (m0 m1 : Medium) (cell : ℕ) (registers : Masters) → m1.content ≡ m0.content → Told m1 (λ image. StandsForMasters image registers)
    → Told m1 (λ image. IsFirstDamaged image cell) → Told m0 (IsBrokenModule cell)
broken_role m0 m1 cell registers same loaded damaged =
    told_earlier_as m0 m1 (IsBrokenModule cell) (IsBrokenModule cell) same (λ c broken. broken)
    (told_joined m1 (λ image. StandsForMasters image registers) (λ image. IsFirstDamaged image cell) (IsBrokenModule cell)
    loaded damaged (λ c stands first. inr (λ never. never registers stands, first)))

-- registers that were loaded aren't broken: a broken cell is one of a role
pub judged_role : (m0 m1 : Medium) (registers : Masters) (X : ℕ → Type 0) → m1.content ≡ m0.content → Told m1 (λ image. StandsForMasters image registers)
    → Told m1 (λ image. (cell : ℕ) → IsFirstDamaged image cell → X cell) → Told m0 (λ image. (cell : ℕ) → IsBrokenModule cell image → X cell)
judged_role m0 m1 registers X same loaded judged =
    told_earlier_as m0 m1 _ _ same (λ c here. here)
    (told_joined m1 (λ image. StandsForMasters image registers) (λ image. (cell : ℕ) → IsFirstDamaged image cell → X cell)
    (λ image. (cell : ℕ) → IsBrokenModule cell image → X cell) loaded judged (λ c stands each cell broken. by_case c stands each cell broken))
  where
    by_case : (c : List ℕ) → StandsForMasters c registers → ((cell : ℕ) → IsFirstDamaged c cell → X cell) → (cell : ℕ) → IsBrokenModule cell c → X cell
    by_case c stands each cell (inl damaged) = absurd (damaged.1 registers stands)
    by_case c stands each cell (inr first) = each cell first.1

-- what stands for registers and roles isn't broken
pub stands_unbroken : (m0 m1 : Medium) (registers : Masters) (roles : List (Option Role)) (X : ℕ → Type 0) → m1.content ≡ m0.content
    → Told m1 (λ image. StandsForMasters image registers) → Told m1 (λ image. StandsForRoles image roles)
    → Told m0 (λ image. (cell : ℕ) → IsBrokenModule cell image → X cell)
stands_unbroken m0 m1 registers roles X same loaded opened =
    told_earlier_as m0 m1 _ _ same (λ c here. here)
    (told_joined m1 (λ image. StandsForMasters image registers) (λ image. StandsForRoles image roles)
    (λ image. (cell : ℕ) → IsBrokenModule cell image → X cell) loaded opened
    (λ c in_registers in_roles cell broken. absurd (module_stands cell c registers roles broken in_registers in_roles)))

-- ---- the store beside it

-- the module stands for registers and roles, and a cell of the store is damaged under these registers
pub broken_record : (m0 m1 d0 : Medium) (registers : Masters) (roles : List (Option Role)) (cell : ℕ) → m1.content ≡ m0.content
    → Told m1 (λ image. StandsForMasters image registers) → Told m1 (λ image. StandsForRoles image roles)
    → Told d0 (λ image. IsFirstDamagedRecord (keys_of registers) image cell) → Told m0 (λ c. Told d0 (IsBrokenStore cell c))
broken_record m0 m1 d0 registers roles cell same loaded opened damaged =
    told_from m0.content (λ c. Told d0 (IsBrokenStore cell c)) (λ c is.
    told_from d0.content (IsBrokenStore cell c) (λ d is_d. record {
      registers = registers;
      roles = roles;
      in_registers = told_at m1.content (λ image. StandsForMasters image registers) c (same ∙ is) loaded;
      in_roles = told_at m1.content (λ image. StandsForRoles image roles) c (same ∙ is) opened;
      first = told_at d0.content (λ image. IsFirstDamagedRecord (keys_of registers) image cell) d is_d damaged;
    }))

-- a broken cell of the store is damaged under the registers that were loaded
pub judged_record : (m0 m1 d0 : Medium) (registers : Masters) (X : ℕ → Type 0) → m1.content ≡ m0.content
    → Told m1 (λ image. StandsForMasters image registers)
    → Told d0 (λ image. (cell : ℕ) → IsFirstDamagedRecord (keys_of registers) image cell → X cell)
    → Told m0 (λ c. Told d0 (λ d. (cell : ℕ) → IsBrokenStore cell c d → X cell))
judged_record m0 m1 d0 registers X same loaded judged =
    told_from m0.content _ (λ c is. told_from d0.content _ (λ d is_d cell broken.
    let one = reads_one (body c 0) broken.registers registers broken.in_registers
    (told_at m1.content (λ image. StandsForMasters image registers) c (same ∙ is) loaded) in
    told_at d0.content (λ image. (n : ℕ) → IsFirstDamagedRecord (keys_of registers) image n → X n) d is_d judged cell
    (subst (λ (m : Masters). IsFirstDamagedRecord (keys_of m) d cell) one broken.first)))

no_stop : (stop : Stop) (c : List ℕ) (registers : Masters) (roles : List (Option Role)) → IsModuleStop stop
    → (stop ≡ ModuleFault → ⊥) → ((cell : ℕ) → stop ≡ Damaged Module cell → IsBrokenModule cell c)
    → StandsForMasters c registers → StandsForRoles c roles → ⊥
no_stop ModuleFault c registers roles kind still damaged in_registers in_roles = still refl
no_stop (Damaged Module cell) c registers roles kind still damaged in_registers in_roles =
    module_stands cell c registers roles (damaged cell refl) in_registers in_roles
no_stop (Damaged Store cell) c registers roles kind still damaged in_registers in_roles = kind
no_stop StoreFault c registers roles kind still damaged in_registers in_roles = kind
no_stop ReadFault c registers roles kind still damaged in_registers in_roles = kind
no_stop WriteFault c registers roles kind still damaged in_registers in_roles = kind
no_stop InputLimit c registers roles kind still damaged in_registers in_roles = kind
no_stop EntropyFault c registers roles kind still damaged in_registers in_roles = kind

-- a store that stands for labels has no damaged cell
pub kept_undamaged : (d0 d1 : Medium) (registers : Masters) (rows : List (Option Row)) (X : ℕ → Type 0) → d1.content ≡ d0.content
    → Told d1 (λ image. KeepsLabels (keys_of registers) rows (labels_in (keys_of registers) image) image)
    → Told d0 (λ image. (cell : ℕ) → IsFirstDamagedRecord (keys_of registers) image cell → X cell)
kept_undamaged d0 d1 registers rows X same kept =
    let keys = keys_of registers in
    told_earlier_as d0 d1 (λ image. KeepsLabels keys rows (labels_in keys image) image) _ same
    (λ d keeps cell first. absurd (labels_undamaged keys d (labels_in keys d) cell keeps.stands first.within first.damaged)) kept

-- a stop that is handed on
pub handed_judged : (U : Type 0) {T : Type 0} (r : Result T Stop) (stop : Stop) → r ≡ Err stop → (m : Medium)
    → Told m (λ image. (cell : ℕ) → IsBrokenModule cell image → r ≡ Err (Damaged Module cell))
    → Told m (λ image. (cell : ℕ) → IsBrokenModule cell image → ◌≡◌ {A = Result U Stop} (Err stop) (Err (Damaged Module cell)))
handed_judged U r stop is m judged =
    told_earlier_as m m _ _ refl (λ c each cell broken. same_stop r stop (Damaged Module cell) is (each cell broken)) judged
  where
    same_stop : {T : Type 0} (u : Result T Stop) (a b : Stop) → u ≡ Err a → u ≡ Err b → ◌≡◌ {A = Result U Stop} (Err a) (Err b)
    same_stop u a b first second = cc (first, second)

-- the same of the store, and of a store that was opened
pub handed_record : (U : Type 0) {T : Type 0} (r : Result T Stop) (stop : Stop) → r ≡ Err stop → (m : Medium) (P : List ℕ → ℕ → Type 0)
    → Told m (λ image. (cell : ℕ) → P image cell → r ≡ Err (Damaged Store cell))
    → Told m (λ image. (cell : ℕ) → P image cell → ◌≡◌ {A = Result U Stop} (Err stop) (Err (Damaged Store cell)))
handed_record U r stop is m P judged =
    told_earlier_as m m _ _ refl (λ c each cell broken. cc (is, each cell broken)) judged

pub never_judged : {T : Type 0} (r : Result T Stop) (done : T) → r ≡ Ok done → (m : Medium) (P X : List ℕ → ℕ → Type 0)
    → Told m (λ image. (cell : ℕ) → P image cell → r ≡ Err (Damaged Store cell))
    → Told m (λ image. (cell : ℕ) → P image cell → X image cell)
never_judged r done is m P X judged =
    told_earlier_as m m _ _ refl (λ c each cell broken. absurd (cc (is, each cell broken))) judged

-- ---- one answer for another with the same stops

module _ {T U : Type 0} (r : Result T Stop) (q : Result U Stop) (d : Span Devices)
    (onto : (stop : Stop) → r ≡ Err stop → q ≡ Err stop) (back : (stop : Stop) → q ≡ Err stop → r ≡ Err stop) where
  pub damage_as : DamageTold cca r d → DamageTold cca q d
  damage_as told = record {
    module_damaged = λ cell h. told.module_damaged cell (back (Damaged Module cell) h);
    store_damaged = λ cell h. told.store_damaged cell (back (Damaged Store cell) h);
    module_judged = λ still.
        told_earlier_as d.old.world.module_ d.old.world.module_ _ _ refl
        (λ c each cell broken. onto (Damaged Module cell) (each cell broken)) (told.module_judged still);
    store_judged = λ still_m still_d.
        told_earlier_as d.old.world.module_ d.old.world.module_ _ _ refl
        (λ c inner. told_earlier_as d.old.world.store d.old.world.store _ _ refl
        (λ e each cell broken. onto (Damaged Store cell) (each cell broken)) inner)
        (told.store_judged still_m still_d);
    cells = λ device cell h. told.cells device cell (back (Damaged device cell) h);
  }

  pub left_as : (IsOk q → IsOk r) → OpeningLeft r d → OpeningLeft q d
  left_as ok left = record {
    module_kept = left.module_kept;
    store_kept = left.store_kept;
    module_left = record {
      size = left.module_left.size;
      still = left.module_left.still;
      settled = λ h. left.module_left.settled (ok h);
      later = left.module_left.later;
      fault = λ h. left.module_left.fault (back ModuleFault h);
      quiet = λ never. left.module_left.quiet (λ h. never (onto ModuleFault h));
    };
    store_left = record {
      size = left.store_left.size;
      still = left.store_left.still;
      settled = λ h. left.store_left.settled (ok h);
      later = left.store_left.later;
      fault = λ h. left.store_left.fault (back StoreFault h);
      quiet = λ never. left.store_left.quiet (λ h. never (onto StoreFault h));
    };
  }

-- ---- what was opened

-- registers that are loaded stay so while the key, the schedules and the body of the bench change
loaded_after : (m : Masters) (held : Registers) (old new : Bench)
    → new ≡ record old { key = new.key; schedules = new.schedules; body = new.body } → Loaded m held old → Loaded m held new
loaded_after m held old new is loaded = record {
  valid = loaded.valid;
  placed = record {
    coming = ap (λ (b : Bench). b.coming) is ∙ loaded.placed.coming;
    current = ap (λ (b : Bench). b.current) is ∙ loaded.placed.current;
    former = ap (λ (b : Bench). b.former) is ∙ loaded.placed.former;
  };
  told = loaded.told;
}

-- a bench of which the body alone changes
pub body_changes : (old new : Bench) → new ≡ record old { body = new.body } → new ≡ record old { key = new.key; schedules = new.schedules; body = new.body }
body_changes old new is =
    subst (λ (b : Bench). new ≡ record old { key = b.key; schedules = b.schedules; body = new.body }) (sym is) is

pub is_loaded_after : (held : Registers) (old new : Bench)
    → new ≡ record old { key = new.key; schedules = new.schedules; body = new.body } → IsLoaded held old → IsLoaded held new
is_loaded_after held old new is loaded =
    loaded_after (masters_in held new) held old new is (subst (λ (m : Masters). Loaded m held old) (sym (ap (masters_in held) is)) loaded)

-- and the module stands for them, as it did when it was opened
pub registers_after : (held : Registers) (old new : Bench)
    → new ≡ record old { key = new.key; schedules = new.schedules; body = new.body } → (m0 m1 : Medium) → m1.content ≡ m0.content
    → Told m1 (StandsForLoaded held old) → Told m0 (StandsForLoaded held new)
registers_after held old new is m0 m1 kept stands =
    told_earlier m0 m1 (StandsForLoaded held new) kept
    (subst (λ (m : Masters). Told m1 (λ image. StandsForMasters image m)) (sym (ap (masters_in held) is)) stands)

-- the registers, the roles and the labels that were opened are those of the state for which the disks stand
pub opened_as : (s : State) (held : Registers) (first last : Lease) (roles : List (Option Role)) (rows : List (Option Row)) (m0 m1 d0 d1 : Medium)
    → OnDisks cca s m0 d0 → m1.content ≡ m0.content → d1.content ≡ d0.content
    → IsLoaded held (bench_of first) → Told m1 (StandsForLoaded held (bench_of first)) → Told m1 (λ image. StandsForRoles image roles)
    → Told d1 (λ image. KeepsLabels (keys_of (masters_in held (bench_of first))) rows (labels_in (keys_of (masters_in held (bench_of first))) image) image)
    → ChangesKeyAndBody first last → IsOpened s held (bench_of last) (tables roles rows) d1
opened_as s held first last roles rows m0 m1 d0 d1 disks same_m same_d loaded registers opened kept rest =
    let c = disks.in_module.image in
    let e = disks.in_store.image in
    let masters = masters_in held (bench_of first) in
    let one : masters ≡ s.registers =
    reads_one (body c 0) masters s.registers (told_at m1.content (StandsForLoaded held (bench_of first)) c (same_m ∙ disks.in_module.told) registers) disks.in_module.has.registers in
    let here = told_at d1.content (λ image. KeepsLabels (keys_of masters) rows (labels_in (keys_of masters) image) image) e (same_d ∙ disks.in_store.told) kept in
    let labels : labels_in (keys_of masters) e ≡ s.labels =
    ap (λ (m : Masters). labels_in (keys_of m) e) one ∙ sym (labels_one (keys_of s.registers) e s.labels disks.in_store.has) in
    record {
      loaded = loaded_after s.registers held (bench_of first) (bench_of last) (ap bench_of rest)
          (subst (λ (m : Masters). Loaded m held (bench_of first)) one loaded);
      roles = stands_roles c roles (told_at m1.content (λ image. StandsForRoles image roles) c (same_m ∙ disks.in_module.told) opened)
          ∙ sym (stands_roles c s.roles disks.in_module.has.roles);
      labels = record {
        image = e;
        told = same_d ∙ disks.in_store.told;
        has = subst (λ (m : Masters). KeepsLabels (keys_of m) rows s.labels e) one
            (subst (λ (l : List (Option Entry)). KeepsLabels (keys_of masters) rows l e) labels here);
      };
    }

-- a module that isn't opened, though it didn't fail, stands for no registers and roles, and the store isn't judged
pub unjudged_store : (m0 d0 : Medium) (stop : Stop) (X : ℕ → Type 0) → IsModuleStop stop → (stop ≡ ModuleFault → ⊥)
    → ((cell : ℕ) → stop ≡ Damaged Module cell → Told m0 (IsBrokenModule cell))
    → Told m0 (λ c. Told d0 (λ d. (cell : ℕ) → IsBrokenStore cell c d → X cell))
unjudged_store m0 d0 stop X kind still damaged =
    told_from m0.content _ (λ c is. told_from d0.content _ (λ d is_d cell broken.
    absurd (no_stop stop c broken.registers broken.roles kind still
    (λ n named. told_at m0.content (IsBrokenModule n) c is (damaged n named)) broken.in_registers broken.in_roles)))

-- ---- the stop and the lease

-- the module ended it
pub module_opening : (stop : Stop) → IsModuleStop stop → IsOpeningStop stop
module_opening ModuleFault kind = tt
module_opening (Damaged Module cell) kind = tt
module_opening (Damaged Store cell) kind = tt
module_opening StoreFault kind = tt
module_opening ReadFault kind = kind
module_opening WriteFault kind = kind
module_opening InputLimit kind = kind
module_opening EntropyFault kind = kind

-- the store did
pub store_opening : (stop : Stop) → IsStoreStop stop → IsOpeningStop stop
store_opening ModuleFault kind = tt
store_opening (Damaged Module cell) kind = tt
store_opening (Damaged Store cell) kind = tt
store_opening StoreFault kind = tt
store_opening ReadFault kind = kind
store_opening WriteFault kind = kind
store_opening InputLimit kind = kind
store_opening EntropyFault kind = kind

-- the bench is lent as before
pub loan_kept : (old loaded new : Lease) → loan_of loaded ≡ loan_of old → ChangesKeyAndBody loaded new → loan_of new ≡ loan_of old
loan_kept old loaded new same rest = ap loan_of rest ∙ same
