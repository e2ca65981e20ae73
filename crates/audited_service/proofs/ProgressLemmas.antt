-- What lines leave that were recorded and answered, and what the run leaves after one more line, over plain values: a
-- function's answers are applications of these.
use Rattle.std.proofs.Common.{◌≡◌, ◌^◌, ℕ, List, Option, Result, Ok, Err, refl, ap, sym, subst, ◌∙◌, inl}
use Rattle.std.specs.Prelude.{OnErr, IfErr, IsOk}
use Rattle.device_cells.specs.Medium.{Medium, IsSettled, Told}
use Rattle.device_cells.specs.WhereTold.{WhereTold}
use Rattle.line_service.specs.Reading.{Reading, blank}
use Rattle.audit_trail.specs.TrailStands.{StandsForTrail}
use Rattle.audit_trail.specs.declared.entries.Entry.{Entry}
use Rattle.audit_trail.specs.declared.faults.TrailFault.{TrailFault}
use Rattle.audit_trail.specs.declared.faults.TrailFault.TheVariants as trail_fault
use Rattle.line_service.specs.Machine.{Machine, World, world}
use Rattle.line_service.specs.Answering.{Stands}
use Rattle.line_service.specs.Devices.{Span, Outside}
use Rattle.line_service.specs.Running.{Unmoved}
use Rattle.line_service.specs.Stops.{IsUnanswered}
use Rattle.line_service.specs.declared.serving.Served.{Served}
use Rattle.line_service.specs.declared.serving.Served.TheVariants.{Replied, Ended}
use Rattle.line_service.specs.declared.stops.Stop.{Stop}
use Rattle.line_service.specs.declared.stops.Stop.TheVariants.{WriteFault}
use Rattle.line_service.proofs.CourseLemmas.{IsOnCourse, course_begins, course_goes_on, unmoved_world}
use Rattle.line_service.proofs.SessionLemmas.{HasServed, has_served_nothing, has_served_more}
use Rattle.line_service.proofs.SpareLaws.{SparesSo, spares_nothing, spares_more}
use Rattle.line_service.proofs.StopLemmas.{ended_uncut, ended_unsent, not_replied}
use Rattle.audited_service.specs.Noting.{Noted, noting}
use Rattle.audited_service.specs.Recording.{RunRecorded}
use Rattle.audited_service.specs.EachLine.{Agrees, AppendFails, IsAppendFault, LineAudited, LineKept, RecordsLeft, TrailAppended, line_part}
use Rattle.audited_service.proofs.CourseLemmas.{EndsAs, IsNextRecord, audit_ended, audit_stopped, audit_failed, ends_done, ends_failed, ends_stopped, records_left}
use Rattle.audited_service.proofs.FullLemmas.{exit_full, told_number}
use Rattle.audited_service.proofs.RunLemmas.{TrailOn, trail_at_start, trail_more, on_ok}
use Rattle.audited_service.proofs.TrailLemmas.{trail_still, trail_then}

-- Lines were recorded and answered since the start. The trail was `t0` and is `t`, and has failed so often.
pub record HasRecords (A : Machine) (entry : List ℕ → List ℕ → Entry) (k0 k : A.State → Type 0) (start now : Outside) (t0 t : Medium) (f0 f : ℕ) (reading : Reading) : Type 0 where
  pub served : (s : Noted A.State) → Stands (noting A entry) s (Agrees k0 t0) start.devices.world.module_ start.devices.world.store
      → HasServed (noting A entry) s (Agrees k t) start.devices.world now.devices.world start.input now.input start.output now.output reading
  pub spares : (s : Noted A.State) → Stands (noting A entry) s (Agrees k0 t0) start.devices.world.module_ start.devices.world.store → SparesSo start.devices.world now.devices.world
  pub stands : (s : Noted A.State) → Stands (noting A entry) s (Agrees k0 t0) start.devices.world.module_ start.devices.world.store
      → (u : Noted A.State) × Stands (noting A entry) u (Agrees k t) now.devices.world.module_ now.devices.world.store
  pub on_trail : (s : Noted A.State) → Stands (noting A entry) s (Agrees k0 t0) start.devices.world.module_ start.devices.world.store
      → WhereTold start.input now.input (λ i r. TrailOn A entry s start.devices.world.random i t0 t)
  pub course : IsOnCourse start now reading
  pub trail : TrailAppended t0 t f0 f ⊥

pub records_none : (A : Machine) (entry : List ℕ → List ℕ → Entry) (k : A.State → Type 0) (start : Outside) (t : Medium) (f : ℕ) (reading : Reading) → reading ≡ blank
    → IsSettled start.devices.world.module_ → IsSettled start.devices.world.store → IsSettled t → HasRecords A entry k k start start t t f f reading
records_none A entry k start t f reading fresh m d settled = record {
  served = λ s stands. has_served_nothing (noting A entry) s (Agrees k t) start.devices.world start.input start.output reading fresh stands m d;
  spares = λ s stands. spares_nothing start.devices.world m d;
  stands = λ s stands. (s, stands);
  on_trail = λ s stands. trail_at_start A entry s start.devices.world.random start.input t settled stands.agrees.1;
  course = course_begins start reading fresh m d;
  trail = trail_still t f ⊥ settled (λ h. h);
}

-- what a line leaves as it was, where its reply wasn't sent
pub record LineStill (line : Result (Result Served Stop) TrailFault) (number : ℕ) (w w1 : World) (p p1 : Option (List ℕ)) (t t1 : Medium) : Type 1 where
  pub unanswered : IsUnanswered (line_part line) → w1 ≡ w
  pub unsent : (line_part line ≡ Ok Replied → ⊥) → (line_part line ≡ Err WriteFault → ⊥) → p1 ≡ p
  pub untrailed : (line_part line ≡ Ok Replied → ⊥) → (line_part line ≡ Err WriteFault → ⊥) → t1 ≡ t
  pub failed_unsent : OnErr line (p1 ≡ p)
  pub kinds : IfErr line IsAppendFault
  pub full : line ≡ Err trail_fault.Full → number ≡ 2 ^ 63

pub line_still : {K M D E A T : Type 0} (held : K → Option (List ℕ)) (fm : M → Medium) (fd : D → Medium) (fe : E → Option (List ℕ)) (ft : T → Medium)
    (line : Result (Result Served Stop) TrailFault) (number : ℕ) (k k1 : K) (m m1 : M) (d d1 : D) (e e1 : E) (a a1 : A) (t t1 : T) → Unmoved (line_part line) k k1 m m1 d d1 e e1 a a1
    → ((line_part line ≡ Ok Replied → ⊥) → (line_part line ≡ Err WriteFault → ⊥) → t1 ≡ t) → AppendFails line number t t1 k k1
    → LineStill line number (world (fm m) (fd d) (fe e)) (world (fm m1) (fd d1) (fe e1)) (held k) (held k1) (ft t) (ft t1)
line_still held fm fd fe ft line number k k1 m m1 d d1 e e1 a a1 t t1 unmoved untrailed fails = record {
  unanswered = unmoved_world fm fd fe (line_part line) k k1 m m1 d d1 e e1 a a1 unmoved;
  unsent = λ unreplied uncut. ap held (unmoved.sink_unmoved unreplied uncut);
  untrailed = λ unreplied uncut. ap ft (untrailed unreplied uncut);
  failed_unsent = shown line fails.unsent;
  kinds = fails.kinds;
  full = fails.number;
}
  where
    shown : (line : Result (Result Served Stop) TrailFault) → OnErr line (k1 ≡ k) → OnErr line (held k1 ≡ held k)
    shown (Ok r) same = tt
    shown (Err fault) same = ap held same

cut_as : (stop : Stop) (r : Result Served Stop) → r ≡ Err stop → r ≡ Err WriteFault → ◌≡◌ {A = Result (Result (Unit {0}) Stop) TrailFault} (Ok (Err stop)) (Ok (Err WriteFault))
cut_as stop r is cut_off = let same : stop ≡ WriteFault = cc (is, cut_off) in cc same

module _ (A : Machine) (entry : List ℕ → List ℕ → Entry) (k0 k k1 : A.State → Type 0) (start : Outside) (o : Span Outside) (t0 t t1 : Medium) (f0 f f1 : ℕ) (old new : Reading)
    (before : HasRecords A entry k0 k start o.old t0 t f0 f old) where
  -- one line more was recorded and answered
  pub records_more : (r : Result Served Stop) → r ≡ Ok Replied
      → ((u : Noted A.State) → Stands (noting A entry) u (Agrees k t) o.old.devices.world.module_ o.old.devices.world.store → LineAudited A entry u (Agrees k1 t1) (Ok r) o t t1 old new)
      → (Ready Holds : Type 0) → LineKept A Ready Holds (Ok r) o t t1 f f1 old new → HasRecords A entry k0 k1 start o.new t0 t1 f0 f1 new
  records_more r replied leaves Ready Holds kept =
      let w0 = start.devices.world in
      let w = o.old.devices.world in
      let w1 = o.new.devices.world in
      record {
        served = λ s stands.
            has_served_more (noting A entry) s (Agrees k t) (Agrees k1 t1) w0 w w1 start.input o.old.input o.new.input start.output o.old.output o.new.output old new _ r
            (before.served s stands) kept.taken.counted (λ u st. (leaves u st).served) replied;
        spares = λ s stands.
            let at = before.stands s stands in
            let line = leaves at.0 at.1 in
            spares_more (noting A entry) w0 w w1 (before.spares s stands) line.spare (line.served.turns (inl replied));
        stands = λ s stands. let at = before.stands s stands in on_ok r _ replied (leaves at.0 at.1).served.goes_on;
        on_trail = λ s stands.
            trail_more A entry s k k1 t0 t t1 w0 w w1 (before.trail.left.settled (λ h. h)) start.input o.old.input o.new.input start.output o.old.output old _
            (before.served s stands) (before.on_trail s stands) kept.taken.counted (λ u st. (leaves u st).on_trail);
        course = course_goes_on A start o old before.course new r replied kept.taken (kept.replied (ap Ok replied)) kept.left;
        trail = trail_then t0 t t1 f0 f f1 _ _ (λ h. absurd h) (λ h. cc h) before.trail kept.trail;
      }

  -- ---- the last line

  module _ (number : ℕ) (held : Told t (λ c. StandsForTrail c number)) (line : Result (Result Served Stop) TrailFault)
      (leaves : (u : Noted A.State) → Stands (noting A entry) u (Agrees k t) o.old.devices.world.module_ o.old.devices.world.store → LineAudited A entry u (Agrees k1 t1) line o t t1 old new)
      (Ready Holds : Type 0) (kept : LineKept A Ready Holds line o t t1 f f1 old new)
      (same : LineStill line number o.old.devices.world o.new.devices.world o.old.output o.new.output t t1) where
    next_record : (s : Noted A.State) → Stands (noting A entry) s (Agrees k0 t0) start.devices.world.module_ start.devices.world.store → IsNextRecord A entry s k k1 start o t0 t t1 old new line
    next_record s stands = record {
      served = before.served s stands;
      spares = before.spares s stands;
      stands = before.stands s stands;
      on_trail = before.on_trail s stands;
      was_settled = before.trail.left.settled (λ h. h);
      taken = kept.taken;
      leaves = leaves;
      unanswered = same.unanswered;
      unsent = same.unsent;
      untrailed = same.untrailed;
      failed_unsent = same.failed_unsent;
      settled = kept.trail.left.settled;
      kinds = same.kinds;
      numbered = λ h told es trail. told_number t number es (before.trail.left.still told) held trail ∙ same.full h;
    }

    -- what the run leaves, by what the lines come to
    run_left : (q : Result (Result (Unit {0}) Stop) TrailFault) → EndsAs line q → ((q ≡ Ok (Err WriteFault) → ⊥) → o.new.output ≡ o.old.output)
        → ((s : Noted A.State) → Stands (noting A entry) s (Agrees k0 t0) start.devices.world.module_ start.devices.world.store
        → RunRecorded A entry s q start.devices.world o.new.devices.world t0 t1 start.input o.new.input start.output o.new.output)
        → RecordsLeft A entry k0 q (record { old = start; new = o.new }) t0 t1 f0 f1
    run_left q ends unsent recorded =
        records_left A entry start o old new before.course line q ends k0 t0 t t1 f0 f f1 recorded
        (λ s stands some is.
        let full = ends.fault trail_fault.Full is in
        exit_full A entry s k k1 t start.devices.world o.old.devices.world o.new.devices.world number (before.trail.left.still some) held (same.full full) t1
        start.input o.old.input o.new.input start.output o.old.output old new _ (before.served s stands) kept.taken.counted (λ u st. (leaves u st).unsent trail_fault.Full full))
        kept.taken unsent same.unanswered (λ h. kept.cut (cut_off line h)) kept.undamaged kept.left before.trail kept.trail same.kinds
      where
        cut_off : (line : Result (Result Served Stop) TrailFault) → line_part line ≡ Err WriteFault → line ≡ Ok (Err WriteFault)
        cut_off (Ok r) is = ap Ok is
        cut_off (Err fault) is = absurd (cc is)

  module _ (number : ℕ) (held : Told t (λ c. StandsForTrail c number)) where
    module _ (r : Result Served Stop)
        (leaves : (u : Noted A.State) → Stands (noting A entry) u (Agrees k t) o.old.devices.world.module_ o.old.devices.world.store → LineAudited A entry u (Agrees k1 t1) (Ok r) o t t1 old new)
        (Ready Holds : Type 0) (kept : LineKept A Ready Holds (Ok r) o t t1 f f1 old new)
        (same : LineStill (Ok r) number o.old.devices.world o.new.devices.world o.old.output o.new.output t t1) where
      pub records_done : r ≡ Ok Ended → RecordsLeft A entry k0 (Ok (Ok tt)) (record { old = start; new = o.new }) t0 t1 f0 f1
      records_done is =
          run_left number held (Ok r) leaves Ready Holds kept same (Ok (Ok tt)) (ends_done r is) (λ uncut. same.unsent (ended_unsent r is) (ended_uncut r is))
          (λ s stands. audit_ended A entry s k k1 start o t0 t t1 old new r (next_record number held (Ok r) leaves Ready Holds kept same s stands) is)

      pub records_stopped : (stop : Stop) → r ≡ Err stop → RecordsLeft A entry k0 (Ok (Err stop)) (record { old = start; new = o.new }) t0 t1 f0 f1
      records_stopped stop is =
          run_left number held (Ok r) leaves Ready Holds kept same (Ok (Err stop)) (ends_stopped r stop is)
          (λ uncut. same.unsent (not_replied r stop is) (λ cut_off. uncut (cut_as stop r is cut_off)))
          (λ s stands. audit_stopped A entry s k k1 start o t0 t t1 old new r (next_record number held (Ok r) leaves Ready Holds kept same s stands) stop is)

    pub records_failed : (fault : TrailFault)
        → ((u : Noted A.State) → Stands (noting A entry) u (Agrees k t) o.old.devices.world.module_ o.old.devices.world.store → LineAudited A entry u (Agrees k1 t1) (Err fault) o t t1 old new)
        → (Ready Holds : Type 0) → LineKept A Ready Holds (Err fault) o t t1 f f1 old new
        → LineStill (Err fault) number o.old.devices.world o.new.devices.world o.old.output o.new.output t t1
        → RecordsLeft A entry k0 (Err fault) (record { old = start; new = o.new }) t0 t1 f0 f1
    records_failed fault leaves Ready Holds kept same =
        run_left number held (Err fault) leaves Ready Holds kept same (Err fault) (ends_failed fault) (λ uncut. same.failed_unsent)
        (λ s stands. audit_failed A entry s k k1 start o t0 t t1 old new fault (next_record number held (Err fault) leaves Ready Holds kept same s stands))
