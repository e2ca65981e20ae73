-- What is left of both disks as they are opened, and the damage that is told.
use Rattle.std.proofs.Common.{◌≡◌, ◌∙◌, ℕ, List, Option, None, Result, Ok, Err, refl, sym, ap, subst, arith}
use Rattle.std.specs.Prelude.{IsOk}
use Rattle.cca_roles.specs.RolesStand.{StandsForRoles}
use Rattle.cca_roles.specs.declared.roles.Role.{Role}
use Rattle.device_cells.specs.Faults.{Rose}
use Rattle.device_cells.specs.Medium.{Keeps, Medium, Told}
use Rattle.device_cells.proofs.Media.{keeps_still}
use Rattle.master_registers.specs.Masters.{Masters}
use Rattle.master_registers.specs.RegisterBody.{StandsForMasters}
use Rattle.record_bodies.specs.StoreStands.{IsFirstDamaged}
use Rattle.verb_rules.specs.Keys.{keys_of}
use Rattle.line_service.specs.Devices.{DamageTold, DiskLeft, OpeningLeft, Span, Devices, devices}
use Rattle.line_service.specs.declared.stops.Device.{Device}
use Rattle.line_service.specs.declared.stops.Device.TheVariants.{Module, Store}
use Rattle.line_service.specs.declared.stops.Stop.{Stop}
use Rattle.line_service.specs.declared.stops.Stop.TheVariants.{ModuleFault, StoreFault, Damaged}
use Rattle.request_rules.specs.Judging.{IsStoreStop}
use Rattle.cca_machine.specs.Coprocessor.{cca, IsBrokenModule, IsCell, IsModuleStop}
use Rattle.store_unload.proofs.OpeningLemmas.{broken_record, handed_judged, handed_record, judged_record, never_judged, stands_unbroken, unjudged_store}

-- both disks before and after, with no random source
abbrev pub both : Medium → ℕ → Medium → ℕ → Medium → ℕ → Medium → ℕ → Span Devices
both m0 mf0 m1 mf1 d0 df0 d1 df1 = record {
  old = devices m0 mf0 d0 df0 None 0;
  new = devices m1 mf1 d1 df1 None 0;
}

-- ---- the cell of a stop

module_cell : (stop : Stop) (device : Device) (cell : ℕ) → IsModuleStop stop → stop ≡ Damaged device cell → IsCell device cell
module_cell stop Module cell kind is = subst IsModuleStop is kind
module_cell stop Store cell kind is = absurd (subst IsModuleStop is kind)

store_cell : (stop : Stop) (device : Device) (cell : ℕ) → IsStoreStop stop → stop ≡ Damaged device cell → IsCell device cell
store_cell stop Module cell kind is = absurd (subst IsStoreStop is kind)
store_cell stop Store cell kind is = subst IsStoreStop is kind

err_is : {T : Type 0} (stop other : Stop) → ◌≡◌ {A = Result T Stop} (Err stop) (Err other) → stop ≡ other
err_is stop other h = cc h

pub never_err : {T : Type 0} (held : T) (stop : Stop) → ◌≡◌ {A = Result T Stop} (Ok held) (Err stop) → ⊥
never_err held stop h = cc h

never_ok : {T : Type 0} (result : Result T Stop) (stop : Stop) → result ≡ Err stop → IsOk result → ⊥
never_ok (Ok held) stop is ok = cc is
never_ok (Err other) stop is ok = cc ok

-- ---- the store was read under registers that were loaded

module _ (T : Type 0) {U : Type 0} (r : Result U Stop) (m0 : Medium) (mf0 : ℕ) (m1 : Medium) (mf1 : ℕ) (d0 : Medium) (df0 : ℕ) (d1 : Medium) (df1 : ℕ)
    (registers : Masters) (roles : List (Option Role)) (same : m1.content ≡ m0.content)
    (loaded : Told m1 (λ image. StandsForMasters image registers)) (opened : Told m1 (λ image. StandsForRoles image roles))
    (judged : (Rose df0 df1 → ⊥) → Told d0 (λ image. (cell : ℕ) → IsFirstDamaged (keys_of registers) image cell → r ≡ Err (Damaged Store cell))) where
  -- no cell is damaged
  pub sound_damage : (held : T) (done : U) → r ≡ Ok done → DamageTold {T = T} cca (Ok held) (both m0 mf0 m1 mf1 d0 df0 d1 df1)
  sound_damage held done is = record {
    module_damaged = λ cell h. absurd (never_err held _ h);
    store_damaged = λ cell h. absurd (never_err held _ h);
    module_judged = λ still. stands_unbroken m0 m1 registers roles _ same loaded opened;
    store_judged = λ still_m still_d. judged_record m0 m1 d0 registers _ same loaded (never_judged r done is d0 _ _ (judged still_d));
    cells = λ device cell h. absurd (never_err held _ h);
  }

  -- one is, or the store failed
  pub store_damage : (stop : Stop) → r ≡ Err stop → IsStoreStop stop
      → ((cell : ℕ) → r ≡ Err (Damaged Store cell) → Told d0 (λ image. IsFirstDamaged (keys_of registers) image cell))
      → DamageTold {T = T} cca (Err stop) (both m0 mf0 m1 mf1 d0 df0 d1 df1)
  store_damage stop is kind damaged = record {
    module_damaged = λ cell h. absurd (subst IsStoreStop (err_is stop (Damaged Module cell) h) kind);
    store_damaged = λ cell h. broken_record m0 m1 d0 registers roles cell same loaded opened (damaged cell (is ∙ ap Err (err_is stop (Damaged Store cell) h)));
    module_judged = λ still. stands_unbroken m0 m1 registers roles _ same loaded opened;
    store_judged = λ still_m still_d. judged_record m0 m1 d0 registers _ same loaded (handed_record T r stop is d0 _ (judged still_d));
    cells = λ device cell h. store_cell stop device cell kind (err_is stop (Damaged device cell) h);
  }

-- ---- the module wasn't opened

pub module_damage : (T : Type 0) {U : Type 0} (r : Result U Stop) (stop : Stop) (m0 : Medium) (mf0 : ℕ) (m1 : Medium) (mf1 : ℕ) (d0 : Medium) (df0 : ℕ)
    → r ≡ Err stop → IsModuleStop stop → ((cell : ℕ) → r ≡ Err (Damaged Module cell) → Told m0 (IsBrokenModule cell))
    → ((Rose mf0 mf1 → ⊥) → Told m0 (λ image. (cell : ℕ) → IsBrokenModule cell image → r ≡ Err (Damaged Module cell)))
    → (r ≡ Err ModuleFault → Rose mf0 mf1) → DamageTold {T = T} cca (Err stop) (both m0 mf0 m1 mf1 d0 df0 d0 df0)
module_damage T r stop m0 mf0 m1 mf1 d0 df0 is kind damaged judged fault = record {
  module_damaged = λ cell h. damaged cell (is ∙ ap Err (err_is stop (Damaged Module cell) h));
  store_damaged = λ cell h. absurd (subst IsModuleStop (err_is stop (Damaged Store cell) h) kind);
  module_judged = λ still. handed_judged T r stop is m0 (judged still);
  store_judged = λ still_m still_d.
      unjudged_store m0 d0 stop _ kind (λ failed. still_m (fault (is ∙ ap Err failed))) (λ cell named. damaged cell (is ∙ ap Err named));
  cells = λ device cell h. module_cell stop device cell kind (err_is stop (Damaged device cell) h);
}

-- ---- what is left of the disks

module _ (T : Type 0) {U V : Type 0} (r : Result U Stop) (q : Result V Stop) (m0 : Medium) (mf0 : ℕ) (m1 : Medium) (mf1 : ℕ) (d0 : Medium) (df0 : ℕ)
    (d1 : Medium) (df1 : ℕ) (module_kept : Keeps m0 m1) (module_left : DiskLeft m0 m1 mf0 mf1 (IsOk r) (r ≡ Err ModuleFault)) where
  -- both were opened
  pub sound_left : (held : T) (done : U) (read : V) → r ≡ Ok done → q ≡ Ok read → Keeps d0 d1 → DiskLeft d0 d1 df0 df1 (IsOk q) (q ≡ Err StoreFault)
      → OpeningLeft {T = T} (Ok held) (both m0 mf0 m1 mf1 d0 df0 d1 df1)
  sound_left held done read is is_read store_kept store_left = record {
    module_kept = module_kept;
    store_kept = store_kept;
    module_left = record {
      size = module_left.size;
      still = module_left.still;
      settled = λ ok. module_left.settled (subst IsOk (sym is) refl);
      later = module_left.later;
      fault = λ h. absurd (never_err held _ h);
      quiet = λ never. module_left.quiet (λ h. cc (h, is));
    };
    store_left = record {
      size = store_left.size;
      still = store_left.still;
      settled = λ ok. store_left.settled (subst IsOk (sym is_read) refl);
      later = store_left.later;
      fault = λ h. absurd (never_err held _ h);
      quiet = λ never. store_left.quiet (λ h. cc (h, is_read));
    };
  }

  -- the store wasn't
  pub store_shut : (done : U) (stop : Stop) → r ≡ Ok done → q ≡ Err stop → IsStoreStop stop → Keeps d0 d1
      → DiskLeft d0 d1 df0 df1 (IsOk q) (q ≡ Err StoreFault) → OpeningLeft {T = T} (Err stop) (both m0 mf0 m1 mf1 d0 df0 d1 df1)
  store_shut done stop is is_stop kind store_kept store_left = record {
    module_kept = module_kept;
    store_kept = store_kept;
    module_left = record {
      size = module_left.size;
      still = module_left.still;
      settled = λ ok. absurd (never_ok {T = T} _ stop refl ok);
      later = module_left.later;
      fault = λ h. absurd (subst IsStoreStop (err_is stop ModuleFault h) kind);
      quiet = λ never. module_left.quiet (λ h. cc (h, is));
    };
    store_left = record {
      size = store_left.size;
      still = store_left.still;
      settled = λ ok. absurd (never_ok {T = T} _ stop refl ok);
      later = store_left.later;
      fault = λ h. store_left.fault (is_stop ∙ ap Err (err_is stop StoreFault h));
      quiet = λ never. store_left.quiet (λ h. never (ap Err (err_is stop StoreFault (sym is_stop ∙ h))));
    };
  }

  -- the module wasn't, and the store wasn't called
  pub module_shut : (stop : Stop) → r ≡ Err stop → IsModuleStop stop → OpeningLeft {T = T} (Err stop) (both m0 mf0 m1 mf1 d0 df0 d0 df0)
  module_shut stop is kind = record {
    module_kept = module_kept;
    store_kept = keeps_still d0;
    module_left = record {
      size = module_left.size;
      still = module_left.still;
      settled = λ ok. absurd (never_ok {T = T} _ stop refl ok);
      later = module_left.later;
      fault = λ h. module_left.fault (is ∙ ap Err (err_is stop ModuleFault h));
      quiet = λ never. module_left.quiet (λ h. never (ap Err (err_is stop ModuleFault (sym is ∙ h))));
    };
    store_left = record {
      size = refl;
      still = λ some. some;
      settled = λ ok. absurd (never_ok {T = T} _ stop refl ok);
      later = omega arith;
      fault = λ h. absurd (subst IsModuleStop (err_is stop StoreFault h) kind);
      quiet = λ never. refl;
    };
  }
