-- What a run leaves of devices that were opened first, from the devices as they were before, over plain values.
use Rattle.std.proofs.Common.{◌≡◌, ◌≤◌, ℕ, List, Option, Result, Ok, Err, sym, subst, arith}
use Rattle.std.specs.Prelude.{◌⊎◌, ◌<◌, IsSome}
use Rattle.device_cells.specs.Faults.{Rose}
use Rattle.device_cells.specs.Medium.{Medium, Told, Keeps}
use Rattle.device_cells.proofs.WhereToldLemmas.{rose_wider}
use Rattle.audit_trail.specs.TrailStands.{IsTrail, IsFirstDamaged}
use Rattle.audit_trail.specs.declared.entries.Entry.{Entry}
use Rattle.audit_trail.specs.declared.faults.TrailFault.{TrailFault}
use Rattle.audit_trail.specs.declared.faults.TrailFault.TheVariants as trail_fault
use Rattle.line_service.specs.Machine.{Machine}
use Rattle.line_service.specs.Answering.{IsSound, OnDisks}
use Rattle.line_service.specs.Devices.{Span, Devices, DamageTold, Outside, OutsideLeft, outside, devices}
use Rattle.line_service.specs.Running.{NoneFailed}
use Rattle.line_service.specs.declared.stops.Stop.{Stop}
use Rattle.line_service.proofs.OpeningLemmas.{module_unbroken, not_stopped, store_unbroken}
use Rattle.line_service.proofs.RunLemmas.{NoStop}
use Rattle.line_service.proofs.StopLemmas.{disk_on}
use Rattle.audited_service.specs.Answers.{run_part}
use Rattle.audited_service.specs.Noting.{noted}
use Rattle.audited_service.specs.Recording.{RunRecorded}
use Rattle.audited_service.specs.Auditing.{LinesRecorded}
use Rattle.audited_service.specs.EachLine.{RecordsLeft}
use Rattle.audited_service.proofs.EndingLemmas.{limit_of, lines_served, prefix_left, taken_at}
use Rattle.audited_service.proofs.FullLemmas.{completes, no_trail_fault, not_full}
use Rattle.audited_service.proofs.OpeningLemmas.{stands_all, opened_recorded, unopened_fault}

-- disks that stand for a state aren't damaged
pub damage_none : (A : Machine) (d : Span Devices) → IsSound A d.old.world.module_ d.old.world.store → DamageTold {T = Unit {0}} A (Ok tt) d
damage_none A d sound = record {
  module_damaged = λ cell h. absurd (cc h);
  store_damaged = λ cell h. absurd (cc h);
  module_judged = λ still. module_unbroken A d.old.world.module_ d.old.world.store _ sound;
  store_judged = λ still_m still_d. store_unbroken A d.old.world.module_ d.old.world.store _ sound;
  cells = λ device cell h. absurd (cc h);
}

module _ (A : Machine) (entry : List ℕ → List ℕ → Entry) (m0 m d0 d t0 t : Medium) (mc0 mc dc0 dc : ℕ) (random : Option (List ℕ)) (draws : ℕ) (i p : Option (List ℕ)) (reads writes : ℕ) where
  abbrev begun : Outside
  begun = outside i reads p writes (devices m0 mc0 d0 dc0 random draws)

  abbrev opened : Outside
  opened = outside i reads p writes (devices m mc d dc random draws)

  -- ---- lines were served

  -- opening left each disk as it was, and no fault was counted
  pub left_from : (after : Outside) (r : Result (Unit {0}) Stop) → m.size ≡ m0.size → (IsSome m0.content → IsSome m.content) → mc ≡ mc0
      → d.size ≡ d0.size → (IsSome d0.content → IsSome d.content) → dc ≡ dc0 → OutsideLeft r (record { old = opened; new = after }) → OutsideLeft r (record { old = begun; new = after })
  left_from after r m_size m_still m_quiet d_size d_still d_quiet left = record {
    devices_left = record {
      module_left = disk_on _ _ _ _ _ _ _ _ m_size m_still m_quiet left.devices_left.module_left;
      store_left = disk_on _ _ _ _ _ _ _ _ d_size d_still d_quiet left.devices_left.store_left;
      entropy_left = left.devices_left.entropy_left;
    };
    source_left = left.source_left;
    sink_left = left.sink_left;
    sink_grows = left.sink_grows;
  }

  module _ (kept_m : Keeps m0 m) (kept_d : Keeps d0 d) (kept_t : Keeps t0 t) (f0 f : ℕ) (s : A.State) (es : List Entry) (disks : OnDisks A s m0 d0) (trail : Told t0 (λ c. IsTrail c es)) where
    pub lines_recorded : mc0 ≤ mc → dc0 ≤ dc → f0 ≤ f → (after : Outside) (t1 : Medium) (f1 : ℕ) (k : A.State → Type 0) → k s → (result : Result (Result (Unit {0}) Stop) TrailFault)
        → RecordsLeft A entry k result (record { old = opened; new = after }) t t1 f f1 → LinesRecorded A entry s es result (record { old = begun; new = after }) t0 t1 f0 f1
    lines_recorded later_m later_d later_t after t1 f1 k agrees result left =
        let first = begun.devices.world in
        let last = after.devices.world in
        let stands = stands_all A entry m0 m d0 d t0 t random kept_m kept_d kept_t s es k disks agrees trail in
        let recorded : RunRecorded A entry (noted s es) result first last t0 t1 i after.input p after.output =
        opened_recorded A entry m0 m d0 d t0 t random kept_m kept_d kept_t (noted s es) result last t1 i after.input p after.output (left.serves (noted s es) stands) in
        let still : NoneFailed (record { old = begun; new = after }) → NoStop (run_part result) = λ none.
        not_stopped A (run_part result) begun (record { old = opened; new = after }) left.left none (omega arith) (omega arith) later_m later_d (omega arith) in
        record {
          recorded = recorded;
          run = lines_served A entry (noted s es) (record { old = begun; new = after }) t0 t1 result recorded still (taken_at result (record { old = opened; new = after }) begun.devices left.taken.run);
          prefix = prefix_left A entry (noted s es) first last t0 t1 i after.input p after.output result recorded;
          complete = λ none trail_still some.
              completes A entry (noted s es) es result first last t0 t1 i after.input p after.output recorded (still none)
              (λ h. trail_still (rose_wider _ _ _ _ later_t left.trail.left.later (omega arith) (left.trail.left.fault h)))
              left.kinds
              (λ h. left.full (noted s es) stands (subst (λ (o : Option (List ℕ)). IsSome o) (sym kept_t.content) some) h)
              (limit_of result (record { old = opened; new = after }) left.taken.run left.taken.within);
          full = λ some h. left.full (noted s es) stands (subst (λ (o : Option (List ℕ)). IsSome o) (sym kept_t.content) some) h;
        }

    -- ---- the trail didn't open

    pub lines_unrecorded : (fault : TrailFault) → (fault ≡ trail_fault.DiskFault) ⊎ ((cell : ℕ) × (cell < 4096) × (fault ≡ trail_fault.Damaged cell)) → (fault ≡ trail_fault.DiskFault → Rose f0 f)
        → ((cell : ℕ) → fault ≡ trail_fault.Damaged cell → Told t0 (λ image. IsFirstDamaged image cell))
        → LinesRecorded A entry s es (Err fault) (record { old = begun; new = opened }) t0 t f0 f
    lines_unrecorded fault faults failed damaged =
        let recorded : RunRecorded A entry (noted s es) (Err fault) begun.devices.world opened.devices.world t0 t i i p p =
        unopened_fault A entry m0 m d0 d t0 t random kept_m kept_d kept_t (noted s es) fault i p (not_full fault faults) in
        record {
          recorded = recorded;
          run = tt;
          prefix = prefix_left A entry (noted s es) begun.devices.world opened.devices.world t0 t i i p p (Err fault) recorded;
          complete = λ none still some. absurd (no_trail_fault t0 es fault some trail faults (λ is. still (failed is)) damaged);
          full = λ some h. absurd (not_full fault faults (cc h));
        }
