-- What a run leaves at each exit, over plain values: the disks weren't opened, the trail wasn't, or lines were served.
use Rattle.std.proofs.Common.{◌≡◌, ℕ, List, Option, None, Result, Ok, Err, ap, refl, arith}
use Rattle.std.specs.Prelude.{◌⊎◌, ◌<◌, IsOk}
use Rattle.device_cells.specs.Faults.{Rose}
use Rattle.device_cells.specs.Medium.{Medium, Told, Keeps}
use Rattle.device_cells.proofs.Media.{keeps_still}
use Rattle.device_cells.proofs.WhereToldLemmas.{rose_wider, told_same}
use Rattle.audit_trail.specs.Changes.{TrailLeft}
use Rattle.audit_trail.specs.TrailStands.{IsFirstDamaged, StandsForTrail}
use Rattle.audit_trail.specs.declared.entries.Entry.{Entry}
use Rattle.audit_trail.specs.declared.faults.TrailFault.{TrailFault}
use Rattle.audit_trail.specs.declared.faults.TrailFault.TheVariants as trail_fault
use Rattle.line_service.specs.Machine.{Machine, world}
use Rattle.line_service.specs.Answering.{IsSound, OnDisks}
use Rattle.line_service.specs.Devices.{Span, Devices, DamageTold, OpeningLeft, Outside, outside, devices}
use Rattle.line_service.specs.Stops.{IsOpeningStop}
use Rattle.line_service.specs.declared.stops.Device.{Device}
use Rattle.line_service.specs.declared.stops.Stop.{Stop}
use Rattle.line_service.specs.declared.stops.Stop.TheVariants.{Damaged}
use Rattle.line_service.proofs.OpeningLemmas.{unbroken, opened_damage, unopened_left, unopened_taken, unopened_sound, unopened_no_stop}
use Rattle.line_service.proofs.RepliedLemmas.{replied_nothing}
use Rattle.line_service.proofs.RunLemmas.{no_opening_answer}
use Rattle.line_service.proofs.StopLemmas.{count_still, grows_none}
use Rattle.audited_service.specs.Answers.{run_part}
use Rattle.audited_service.specs.Auditing.{AuditLeft, LinesRecorded}
use Rattle.audited_service.specs.EachLine.{RecordsLeft}
use Rattle.audited_service.specs.Noting.{noted}
use Rattle.audited_service.specs.Recording.{RunRecorded}
use Rattle.audited_service.proofs.BegunLemmas.{damage_none, left_from, lines_recorded, lines_unrecorded}
use Rattle.audited_service.proofs.EndingLemmas.{lines_served, prefix_left, taken_at}
use Rattle.audited_service.proofs.FullLemmas.{no_opening_stop, not_full, audits_full, damaged_within, stood_before, told_on, append_undamaged}
use Rattle.audited_service.proofs.OpeningLemmas.{unopened_stop}
use Rattle.audited_service.proofs.RestingLemmas.{grown_kept, grown_on}
use Rattle.audited_service.proofs.RunLemmas.{fault_is}
use Rattle.audited_service.proofs.TrailLemmas.{opened_left, unopened_trail}

fault_same : (a b : TrailFault) → ◌≡◌ {A = Result (Unit {0}) TrailFault} (Err a) (Err b) → a ≡ b
fault_same a b is = cc

ok_not_err : (fault : TrailFault) → ◌≡◌ {A = Result (Unit {0}) TrailFault} (Ok tt) (Err fault) → ⊥
ok_not_err fault is = cc is

stop_not_fault : (stop : Stop) (fault : TrailFault) → ◌≡◌ {A = Result (Result (Unit {0}) Stop) TrailFault} (Ok (Err stop)) (Err fault) → ⊥
stop_not_fault stop fault is = cc is

stop_not_done : (stop : Stop) → ◌≡◌ {A = Result (Result (Unit {0}) Stop) TrailFault} (Ok (Err stop)) (Ok (Ok tt)) → ⊥
stop_not_done stop is = cc is

fault_not_done : (fault : TrailFault) → ◌≡◌ {A = Result (Result (Unit {0}) Stop) TrailFault} (Err fault) (Ok (Ok tt)) → ⊥
fault_not_done fault is = cc is

module _ (A : Machine) (entry : List ℕ → List ℕ → Entry) (m0 m d0 d t0 : Medium) (mc0 mc dc0 dc : ℕ) (random : Option (List ℕ)) (draws : ℕ) (i p : Option (List ℕ)) (reads writes : ℕ) where
  abbrev begun : Outside
  begun = outside i reads p writes (devices m0 mc0 d0 dc0 random draws)

  abbrev opened : Outside
  opened = outside i reads p writes (devices m mc d dc random draws)

  abbrev opening : Span Outside
  opening = record { old = begun; new = opened }

  -- what opening is said to leave speaks of the disks alone
  abbrev shown : Span Devices
  shown = record { old = devices m0 mc0 d0 dc0 None 0; new = devices m mc d dc None 0 }

  -- ---- the disks weren't opened

  module _ (stop : Stop) (kind : IsOpeningStop stop) (left : OpeningLeft {T = Unit {0}} (Err stop) shown)
      (damage : DamageTold {T = Unit {0}} A (Err stop) shown) where
    at_fault : (s : A.State) → OnDisks A s m0 d0 → (Rose mc0 mc → ⊥) → (Rose dc0 dc → ⊥) → ⊥
    at_fault s disks still_m still_d =
        no_opening_stop stop kind (λ h. still_m (left.module_left.fault (ap Err h))) (λ h. still_d (left.store_left.fault (ap Err h)))
        (unbroken A m0 d0 s stop disks (λ cell h. damage.module_damaged cell (ap Err h)) (λ cell h. damage.store_damaged cell (ap Err h)))

    lines_unopened : (s : A.State) (es : List Entry) → OnDisks A s m0 d0 → (f : ℕ) → LinesRecorded A entry s es (Ok (Err stop)) opening t0 t0 f f
    lines_unopened s es disks f =
        let undamaged : (device : Device) (cell : ℕ) → stop ≡ Damaged device cell → ⊥ =
        unbroken A m0 d0 s stop disks (λ cell h. damage.module_damaged cell (ap Err h)) (λ cell h. damage.store_damaged cell (ap Err h)) in
        let recorded : RunRecorded A entry (noted s es) (Ok (Err stop)) (world m0 d0 random) (world m d random) t0 t0 i i p p =
        unopened_stop A entry m0 m d0 d t0 t0 random left.module_kept left.store_kept (keeps_still t0) (noted s es) stop i p kind undamaged in
        record {
          recorded = recorded;
          run = lines_served A entry (noted s es) opening t0 t0 (Ok (Err stop)) recorded
              (λ none. unopened_no_stop stop kind (λ h. none.on_module (left.module_left.fault h)) (λ h. none.on_store (left.store_left.fault h)))
              (unopened_taken stop opening kind refl);
          prefix = prefix_left A entry (noted s es) (world m0 d0 random) (world m d random) t0 t0 i i p p (Ok (Err stop)) recorded;
          complete = λ none still some. absurd (at_fault s disks none.on_module none.on_store);
          full = λ some h. absurd (stop_not_fault stop trail_fault.Full h);
        }

    pub left_unopened : (f : ℕ) → AuditLeft A entry (Ok (Err stop)) opening t0 t0 f f
    left_unopened f = record {
      lines = λ s es disks trail. lines_unopened s es disks f;
      taken = record { run = unopened_taken stop opening kind refl; within = told_same i _ (λ x. omega arith) };
      each = replied_nothing _ _ (stop_not_done stop) i p;
      sound = record { disks = unopened_sound A stop _ kind; trail = λ h. absurd (no_opening_answer stop kind h) };
      damage = record {
        module_damaged = damage.module_damaged;
        store_damaged = damage.store_damaged;
        module_judged = damage.module_judged;
        store_judged = damage.store_judged;
        cells = damage.cells;
      };
      trail_damage = record {
        damaged = λ cell h. absurd (stop_not_fault stop (trail_fault.Damaged cell) h);
        cells = λ cell h. absurd (stop_not_fault stop (trail_fault.Damaged cell) h);
        judged = λ still_m still_d still_t s disks. absurd (at_fault s disks still_m still_d);
      };
      left = unopened_left A stop opening kind left.module_left left.store_left refl refl refl refl;
      trail_left = record {
        size = refl;
        still = λ some. some;
        settled = λ h. absurd (no_opening_answer stop kind h);
        later = omega arith;
        fault = λ h. absurd (stop_not_fault stop trail_fault.DiskFault h);
        quiet = λ none. refl;
      };
      rests = λ unfailed. grown_kept t0 t0 (keeps_still t0);
    }

  -- ---- the disks were opened

  module _ (t : Medium) (f0 f : ℕ) (left : OpeningLeft {T = Unit {0}} (Ok tt) shown) (sound : IsSound A m0 d0) (kept_t : Keeps t0 t) where
    -- and the trail wasn't
    pub left_untrailed : (fault : TrailFault) → (fault ≡ trail_fault.DiskFault) ⊎ ((cell : ℕ) × (cell < 4096) × (fault ≡ trail_fault.Damaged cell))
        → TrailLeft t0 t f0 f (IsOk {T = Unit {0}} (Err fault)) (◌≡◌ {A = Result (Unit {0}) TrailFault} (Err fault) (Err trail_fault.DiskFault))
        → ((cell : ℕ) → ◌≡◌ {A = Result (Unit {0}) TrailFault} (Err fault) (Err (trail_fault.Damaged cell)) → Told t0 (λ image. IsFirstDamaged image cell))
        → ((Rose f0 f → ⊥) → Told t0 (λ image. (cell : ℕ) → IsFirstDamaged image cell → ◌≡◌ {A = Result (Unit {0}) TrailFault} (Err fault) (Err (trail_fault.Damaged cell))))
        → AuditLeft A entry (Err fault) opening t0 t f0 f
    left_untrailed fault faults trail_left damaged exact = record {
      lines = λ s es disks trail.
          lines_unrecorded A entry m0 m d0 d t0 t mc0 mc dc0 dc random draws i p reads writes left.module_kept left.store_kept kept_t f0 f s es disks trail fault faults
          (λ failed. trail_left.fault (ap Err failed)) (λ cell named. damaged cell (ap Err named));
      taken = record { run = tt; within = told_same i _ (λ x. omega arith) };
      each = replied_nothing _ _ (fault_not_done fault) i p;
      sound = record {
        disks = record { sound = λ h. sound; settled = λ h. record { module_settled = left.module_left.settled refl; store_settled = left.store_left.settled refl } };
        trail = λ audits. absurd (not_full fault faults (audits_full fault audits));
      };
      damage = damage_none A (record { old = begun.devices; new = opened.devices }) sound;
      trail_damage = record {
        damaged = λ cell h. damaged cell (ap Err (fault_is fault (trail_fault.Damaged cell) h));
        cells = λ cell h. damaged_within fault cell faults (fault_is fault (trail_fault.Damaged cell) h);
        judged = λ still_m still_d still_t s disks.
            told_on t0 _ _ (λ image exact cell first. ap Err (fault_same fault (trail_fault.Damaged cell) (exact cell first))) (exact still_t);
      };
      left = record {
        devices_left = record { module_left = left.module_left; store_left = left.store_left; entropy_left = count_still draws _ (λ h. cc h) };
        source_left = count_still reads _ (λ h. cc h);
        sink_left = count_still writes _ (λ h. cc h);
        sink_grows = grows_none p;
      };
      trail_left = unopened_trail t0 t f0 f fault faults trail_left;
      rests = λ unfailed. grown_kept t0 t kept_t;
    }

    -- and the trail, and lines were served
    pub left_audited : (k : A.State → Type 0) → ((s : A.State) → OnDisks A s m0 d0 → k s) → (number : ℕ) → Told t (λ image. StandsForTrail image number)
        → TrailLeft t0 t f0 f (IsOk {T = Unit {0}} {E = TrailFault} (Ok tt)) (◌≡◌ {A = Result (Unit {0}) TrailFault} (Ok tt) (Err trail_fault.DiskFault))
        → ((Rose f0 f → ⊥) → Told t0 (λ image. (cell : ℕ) → IsFirstDamaged image cell → ◌≡◌ {A = Result (Unit {0}) TrailFault} (Ok tt) (Err (trail_fault.Damaged cell))))
        → (after : Outside) (t1 : Medium) (f1 : ℕ) (result : Result (Result (Unit {0}) Stop) TrailFault) → RecordsLeft A entry k result (record { old = opened; new = after }) t t1 f f1
        → AuditLeft A entry result (record { old = begun; new = after }) t0 t1 f0 f1
    left_audited k agrees number stands trail_left exact after t1 f1 result ends = record {
      lines = λ s es disks trail.
          lines_recorded A entry m0 m d0 d t0 t mc0 mc dc0 dc random draws i p reads writes left.module_kept left.store_kept kept_t f0 f s es disks trail
          left.module_left.later left.store_left.later trail_left.later after t1 f1 k (agrees s disks) result ends;
      taken = record { run = taken_at result (record { old = opened; new = after }) begun.devices ends.taken.run; within = ends.taken.within };
      each = ends.each;
      sound = record {
        disks = record { sound = λ h. sound; settled = λ h. ends.settled h };
        trail = λ h. stood_before t0 t number kept_t stands;
      };
      damage = opened_damage A (run_part result) (record { old = begun.devices; new = after.devices }) opened.devices left.module_kept left.store_kept sound ends.undamaged;
      trail_damage = record {
        damaged = λ cell h. absurd (append_undamaged result cell ends.kinds h);
        cells = λ cell h. absurd (append_undamaged result cell ends.kinds h);
        judged = λ still_m still_d still_t s disks.
            told_on t0 _ _ (λ image exact cell first. absurd (ok_not_err (trail_fault.Damaged cell) (exact cell first)))
            (exact (λ rose. still_t (rose_wider _ _ _ _ (omega arith) trail_left.later ends.trail.left.later rose)));
      };
      left = left_from A entry m0 m d0 d t0 t mc0 mc dc0 dc random draws i p reads writes after (run_part result)
          left.module_left.size left.module_left.still (left.module_left.quiet (λ h. cc h)) left.store_left.size left.store_left.still (left.store_left.quiet (λ h. cc h)) ends.left;
      trail_left = opened_left t0 t t1 f0 f f1 _ _ result trail_left (ok_not_err trail_fault.DiskFault) ends.trail.left;
      rests = λ unfailed. grown_on t0 t t1 (grown_kept t0 t kept_t) (ends.trail.rests unfailed);
    }
