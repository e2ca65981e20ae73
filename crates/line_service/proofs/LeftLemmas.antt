-- What a session leaves at each exit, over plain values: the disks weren't opened, or lines were served.
use Rattle.std.proofs.Common.{◌≡◌, ℕ, List, Option, None, Result, Ok, Err, ap, refl, arith}
use Rattle.std.specs.Prelude.{IsOk}
use Rattle.device_cells.specs.Medium.{Medium}
use Rattle.line_service.specs.Answering.{IsSound, OnDisks}
use Rattle.line_service.specs.Devices.{Span, Devices, DamageTold, OpeningLeft, Outside, outside, devices}
use Rattle.line_service.specs.Machine.{Machine, World, world}
use Rattle.line_service.specs.Running.{LinesLeft, LinesServed, SessionLeft}
use Rattle.line_service.specs.Serving.{RunServed}
use Rattle.line_service.specs.Stops.{IsOpeningStop}
use Rattle.line_service.specs.declared.stops.Stop.{Stop}
use Rattle.line_service.specs.declared.stops.Stop.TheVariants.{WriteFault}
use Rattle.line_service.proofs.OpeningLemmas.{stands_opened, opened as opened_run, unopened, unbroken, not_stopped, opened_damage, unopened_left, unopened_taken, unopened_sound, unopened_no_stop}
use Rattle.line_service.proofs.RepliedLemmas.{replied_nothing}
use Rattle.line_service.proofs.RunLemmas.{prefix_sent, completes, no_limit}
use Rattle.line_service.proofs.StopLemmas.{disk_on}

module _ (A : Machine) (m0 m d0 d : Medium) (mc0 mc dc0 dc : ℕ) (random : Option (List ℕ)) (draws : ℕ) (i p : Option (List ℕ)) (reads writes : ℕ) where
  abbrev begun : Outside
  begun = outside i reads p writes (devices m0 mc0 d0 dc0 random draws)

  abbrev opened : Outside
  opened = outside i reads p writes (devices m mc d dc random draws)

  -- what opening is said to leave speaks of the disks alone
  abbrev shown : Span Devices
  shown = record { old = devices m0 mc0 d0 dc0 None 0; new = devices m mc d dc None 0 }

  abbrev first : World
  first = world m0 d0 random

  -- ---- the disks weren't opened

  module _ (stop : Stop) (kind : IsOpeningStop stop) (left : OpeningLeft {T = Unit {0}} (Err stop) shown) (damage : DamageTold {T = Unit {0}} A (Err stop) shown) where
    lines_unopened : (s : A.State) → OnDisks A s m0 d0 → LinesServed A s (Err stop) (record { old = begun; new = opened })
    lines_unopened s disks =
        let serves : RunServed A s (Err stop) first (world m d random) i i p p =
        unopened A m0 m d0 d random left.module_kept left.store_kept s stop i p kind
        (unbroken A m0 d0 s stop disks (λ cell h. damage.module_damaged cell (ap Err h)) (λ cell h. damage.store_damaged cell (ap Err h))) in
        record {
          serves = serves;
          prefix = prefix_sent A s first (world m d random) i i p p (Err stop) serves;
          complete = λ none. completes A s first (world m d random) i i p p (Err stop) serves
              (unopened_no_stop stop kind (λ h. none.on_module (left.module_left.fault h)) (λ h. none.on_store (left.store_left.fault h)))
              (no_limit stop i kind);
        }

    pub session_unopened : SessionLeft A (Err stop) (record { old = begun; new = opened })
    session_unopened = record {
      lines = lines_unopened;
      taken = unopened_taken stop (record { old = begun; new = opened }) kind refl;
      each = replied_nothing (IsOk {T = Unit {0}} {E = Stop} (Err stop)) (◌≡◌ {A = Result (Unit {0}) Stop} (Err stop) (Err WriteFault)) (λ h. cc h) i p;
      sound = unopened_sound A stop (record { old = begun.devices; new = opened.devices }) kind;
      damage = record {
        module_damaged = damage.module_damaged;
        store_damaged = damage.store_damaged;
        module_judged = damage.module_judged;
        store_judged = damage.store_judged;
        cells = damage.cells;
      };
      left = unopened_left A stop (record { old = begun; new = opened }) kind left.module_left left.store_left refl refl refl refl;
    }

  -- ---- lines were served

  module _ (left : OpeningLeft {T = Unit {0}} (Ok tt) shown) (k : A.State → Type 0) (agrees : (s : A.State) → OnDisks A s m0 d0 → k s) (after : Outside) (result : Result (Unit {0}) Stop)
      (ends : LinesLeft A k result (record { old = opened; new = after })) where
    lines_opened : (s : A.State) → OnDisks A s m0 d0 → LinesServed A s result (record { old = begun; new = after })
    lines_opened s disks =
        let last = after.devices.world in
        let serves : RunServed A s result first last i after.input p after.output =
        opened_run A m0 m d0 d random left.module_kept left.store_kept s result last i after.input p after.output
        (ends.serves s (stands_opened A m0 m d0 d random left.module_kept left.store_kept s k disks (agrees s disks))) in
        record {
          serves = serves;
          prefix = prefix_sent A s first last i after.input p after.output result serves;
          complete = λ none. completes A s first last i after.input p after.output result serves
              (not_stopped A result begun (record { old = opened; new = after }) ends.left none (omega arith) (omega arith) left.module_left.later left.store_left.later (omega arith)) ends.taken.limit;
        }

    pub session_served : IsSound A m0 d0 → SessionLeft A result (record { old = begun; new = after })
    session_served sound = record {
      lines = lines_opened;
      taken = record { at_end = ends.taken.at_end; limit = ends.taken.limit; within = ends.taken.within };
      each = ends.each;
      sound = record { sound = λ h. sound; settled = ends.settled };
      damage = opened_damage A result (record { old = begun.devices; new = after.devices }) opened.devices left.module_kept left.store_kept sound ends.undamaged;
      left = record {
        devices_left = record {
          module_left = disk_on m0 m after.devices.world.module_ mc0 mc after.devices.module_faults _ _ left.module_left.size left.module_left.still (left.module_left.quiet (λ h. cc h)) ends.left.devices_left.module_left;
          store_left = disk_on d0 d after.devices.world.store dc0 dc after.devices.store_faults _ _ left.store_left.size left.store_left.still (left.store_left.quiet (λ h. cc h)) ends.left.devices_left.store_left;
          entropy_left = ends.left.devices_left.entropy_left;
        };
        source_left = ends.left.source_left;
        sink_left = ends.left.sink_left;
        sink_grows = ends.left.sink_grows;
      };
    }
