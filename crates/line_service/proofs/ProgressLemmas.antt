-- One line more after those that were served, and the end of a run at its last line, over plain values.
use Rattle.std.proofs.Common.{◌≡◌, None, Result, Ok, Err, ap, refl, inl, subst}
use Rattle.device_cells.specs.Medium.{IsSettled}
use Rattle.device_cells.specs.WhereTold.{WhereTold}
use Rattle.line_service.specs.Reading.{Reading, blank}
use Rattle.line_service.specs.Answering.{Stands}
use Rattle.line_service.specs.Devices.{Span, BothSettled, Outside, OutsideLeft, Undamaged, devices}
use Rattle.line_service.specs.Machine.{Machine, World}
use Rattle.line_service.specs.Running.{LineLeaves, LineTaken, LinesLeft}
use Rattle.line_service.specs.Sending.{GotReply}
use Rattle.line_service.specs.Stops.{IsUnanswered}
use Rattle.line_service.specs.declared.serving.Served.{Served}
use Rattle.line_service.specs.declared.serving.Served.TheVariants.{Replied, Ended}
use Rattle.line_service.specs.declared.stops.Stop.{Stop}
use Rattle.line_service.specs.declared.stops.Stop.TheVariants.{WriteFault}
use Rattle.line_service.proofs.CourseLemmas.{IsNextLine, IsOnCourse, course_begins, course_goes_on, lines_left, run_ended, run_stopped}
use Rattle.line_service.proofs.SessionLemmas.{HasServed, has_served_more, has_served_nothing}
use Rattle.line_service.proofs.SpareLaws.{SparesSo, spares_more, spares_nothing}
use Rattle.line_service.proofs.StopLemmas.{ended_uncut, ended_unsent, follows_ok, follows_stop, not_replied}

-- what the lines since the start came to, up to now
pub record HasLines (A : Machine) (k0 k : A.State → Type 0) (start now : Outside) (reading : Reading) : Type 0 where
  pub served : (s : A.State) → Stands A s k0 start.devices.world.module_ start.devices.world.store → HasServed A s k start.devices.world now.devices.world start.input now.input start.output now.output reading
  pub spares : (s : A.State) → Stands A s k0 start.devices.world.module_ start.devices.world.store → SparesSo start.devices.world now.devices.world
  pub stands : (s : A.State) → Stands A s k0 start.devices.world.module_ start.devices.world.store → (t : A.State) × Stands A t k now.devices.world.module_ now.devices.world.store
  pub course : IsOnCourse start now reading

pub lines_none : (A : Machine) (k : A.State → Type 0) (now : Outside) (reading : Reading) → reading ≡ blank → IsSettled now.devices.world.module_ → IsSettled now.devices.world.store → HasLines A k k now now reading
lines_none A k now reading fresh m d = record {
  served = λ s stands. has_served_nothing A s k now.devices.world now.input now.output reading fresh stands m d;
  spares = λ s stands. spares_nothing now.devices.world m d;
  stands = λ s stands. (s, stands);
  course = course_begins now reading fresh m d;
}

module _ (A : Machine) (k0 k k1 : A.State → Type 0) (start : Outside) (o : Span Outside) (old new : Reading) (result : Result Served Stop) where
  abbrev w0 : World
  w0 = start.devices.world

  abbrev w : World
  w = o.old.devices.world

  abbrev w1 : World
  w1 = o.new.devices.world

  module _ (before : HasLines A k0 k start o.old old) (leaves : (t : A.State) → Stands A t k w.module_ w.store → LineLeaves A t k1 result o old new)
      (taken : LineTaken result o old new) (left : OutsideLeft result o) where
    -- ---- from one line to the next

    pub lines_more : result ≡ Ok Replied → WhereTold o.old.output o.new.output GotReply → HasLines A k0 k1 start o.new new
    lines_more replied got = record {
      served = λ s begun.
          has_served_more A s k k1 w0 w w1 start.input o.old.input o.new.input start.output o.old.output o.new.output old new _ result (before.served s begun) taken.counted leaves replied;
      spares = λ s begun. let here = before.stands s begun in let line = leaves here.0 here.1 in spares_more A w0 w w1 (before.spares s begun) line.spare (line.turns (inl replied));
      stands = λ s begun. let here = before.stands s begun in on_replied (subst (λ (r : Result Served Stop). LineLeaves A here.0 k1 r o old new) replied (leaves here.0 here.1));
      course = course_goes_on A start o old before.course new result replied taken got left;
    }
      where
        on_replied : {t : A.State} → LineLeaves A t k1 (Ok Replied) o old new → (u : A.State) × Stands A u k1 w1.module_ w1.store
        on_replied line = line.goes_on

    -- ---- the last line

    module _ (unanswered : IsUnanswered result → w1 ≡ w) (unsent : (result ≡ Ok Replied → ⊥) → (result ≡ Err WriteFault → ⊥) → o.new.output ≡ o.old.output)
        (cut : result ≡ Err WriteFault → BothSettled (devices w1.module_ o.new.devices.module_faults w1.store o.new.devices.store_faults None 0))
        (undamaged : Undamaged A result (devices w.module_ o.old.devices.module_faults w.store o.old.devices.store_faults None 0)) where
      next_line : (s : A.State) → Stands A s k0 w0.module_ w0.store → IsNextLine A s k k1 start o old new result
      next_line s begun = record {
        served = before.served s begun;
        spares = before.spares s begun;
        stands = before.stands s begun;
        taken = taken;
        leaves = leaves;
        unanswered = unanswered;
        unsent = unsent;
      }

      settled : result ≡ Err WriteFault → BothSettled o.new.devices
      settled h = record { module_settled = (cut h).module_settled; store_settled = (cut h).store_settled }

      still_undamaged : Undamaged A result o.old.devices
      still_undamaged = record { module_sound = undamaged.module_sound; store_sound = undamaged.store_sound; cells = undamaged.cells; reread = undamaged.reread }

      pub lines_ended : result ≡ Ok Ended → LinesLeft A k0 (Ok tt) (record { old = start; new = o.new })
      lines_ended is =
          lines_left A start o old before.course k0 new result (Ok tt) (follows_ok result Ended (Ok tt) is refl) (λ ok. is)
          (λ s begun. run_ended A s k k1 start o old new result (next_line s begun) is) taken
          (λ uncut. unsent (ended_unsent result is) (ended_uncut result is)) unanswered settled still_undamaged left

      pub lines_stopped : (stop : Stop) → result ≡ Err stop → LinesLeft A k0 (Err stop) (record { old = start; new = o.new })
      lines_stopped stop is =
          lines_left A start o old before.course k0 new result (Err stop) (follows_stop result stop is) (λ ok. absurd (cc ok))
          (λ s begun. run_stopped A s k k1 start o old new result (next_line s begun) stop is) taken
          (λ uncut. unsent (not_replied result stop is) (λ cut_off. uncut (stopped_by stop result is cut_off))) unanswered settled still_undamaged left
        where
          stopped_by : (stop : Stop) (r : Result Served Stop) → r ≡ Err stop → r ≡ Err WriteFault → ◌≡◌ {A = Result (Unit {0}) Stop} (Err stop) (Err WriteFault)
          stopped_by stop r is cut_off = let same : stop ≡ WriteFault = cc (is, cut_off) in ap Err same
