-- What a run leaves at its last line, on the disks and on the trail.
use Rattle.std.proofs.Common.{◌≡◌, ◌+◌, ◌^◌, ◌<◌, ℕ, List, length, Option, Result, Ok, Err, ap, refl, sym, subst, inl, inr}
use Rattle.std.specs.Prelude.{◌⊎◌, OnErr, IfErr, IfOk, IsOk, IsSome}
use Rattle.device_cells.specs.Medium.{Medium, EachImage, IsSettled, Told}
use Rattle.device_cells.specs.WhereTold.{WhereTold}
use Rattle.device_cells.proofs.WhereToldLemmas.{told_weaker}
use Rattle.line_service.specs.Lines.{lines}
use Rattle.line_service.specs.Reading.{Reading}
use Rattle.audit_trail.specs.TrailStands.{IsTrail}
use Rattle.audit_trail.specs.declared.entries.Entry.{Entry}
use Rattle.audit_trail.specs.declared.faults.TrailFault.{TrailFault}
use Rattle.audit_trail.specs.declared.faults.TrailFault.TheVariants as trail_fault
use Rattle.line_service.specs.Machine.{Machine, World}
use Rattle.line_service.specs.Answering.{Stands}
use Rattle.line_service.specs.Devices.{Span, BothSettled, Outside, OutsideLeft, Undamaged}
use Rattle.line_service.specs.Running.{InputTaken, LineTaken}
use Rattle.line_service.specs.Serving.{IsOnTheWay, AllAnswered, WholeLinesAnswered, LineLost}
use Rattle.line_service.specs.Stops.{IsLineStop, IsUnanswered}
use Rattle.line_service.specs.declared.serving.Served.{Served}
use Rattle.line_service.specs.declared.serving.Served.TheVariants.{Replied, Ended}
use Rattle.line_service.specs.declared.stops.Stop.{Stop}
use Rattle.line_service.specs.declared.stops.Stop.TheVariants.{ReadFault, WriteFault, EntropyFault, InputLimit}
use Rattle.line_service.proofs.CourseLemmas.{IsNextLine, IsOnCourse, course_each, course_left, course_settled, course_taken, course_undamaged, course_within, run_ended, run_stopped}
use Rattle.line_service.proofs.SessionLemmas.{HasServed}
use Rattle.line_service.proofs.SpareLaws.{SparesSo, spares_last, spares_always}
use Rattle.line_service.proofs.StopLemmas.{Follows, follows_ok, follows_stop, ok_no_stop, same_stop, stopped_as, not_ended, not_replied, not_cut, line_not_cut, ended_unsent, ended_uncut}
use Rattle.audited_service.specs.Answers.{run_part}
use Rattle.audited_service.specs.Noting.{Noted, noting, Recorded}
use Rattle.audited_service.specs.Recording.{ReplyUnsent, RunRecorded}
use Rattle.audited_service.specs.EachLine.{Agrees, IsAppendFault, LineAudited, RecordedBy, RecordsLeft, TrailAppended, line_part}
use Rattle.audited_service.proofs.RunLemmas.{TrailOn, module_way, store_way, trail_way, exit_all, exit_whole, exit_cut, exit_lost, exit_unsent, carried_at_rest, run_is, fault_is, stop_not_done, done_not_stop, run_not_fault, fault_not_run}
use Rattle.audited_service.proofs.TrailLemmas.{trail_then}

unread_unsent : (r : Result Served Stop) → IsUnanswered r → r ≡ Ok Replied → ⊥
unread_unsent r (inl ended) = ended_unsent r ended
unread_unsent r (inr (inl is)) = not_replied r ReadFault is
unread_unsent r (inr (inr is)) = not_replied r InputLimit is

unread_uncut : (r : Result Served Stop) → IsUnanswered r → r ≡ Err WriteFault → ⊥
unread_uncut r (inl ended) = ended_uncut r ended
unread_uncut r (inr unread) = not_cut r unread

done_no_stop : ◌≡◌ {A = Result (Result (Unit {0}) Stop) TrailFault} (Ok (Ok tt)) (Ok (Err ReadFault)) ⊎ ◌≡◌ {A = Result (Result (Unit {0}) Stop) TrailFault} (Ok (Ok tt)) (Ok (Err InputLimit)) → ⊥
done_no_stop (inl h) = done_not_stop _ h
done_no_stop (inr h) = done_not_stop _ h

fault_no_stop : (fault : TrailFault) → ◌≡◌ {A = Result (Result (Unit {0}) Stop) TrailFault} (Err fault) (Ok (Err ReadFault)) ⊎ ◌≡◌ {A = Result (Result (Unit {0}) Stop) TrailFault} (Err fault) (Ok (Err InputLimit)) → ⊥
fault_no_stop fault (inl h) = fault_not_run _ _ h
fault_no_stop fault (inr h) = fault_not_run _ _ h

run_either : (stop : Stop) → ◌≡◌ {A = Result (Result (Unit {0}) Stop) TrailFault} (Ok (Err stop)) (Ok (Err ReadFault)) ⊎ ◌≡◌ {A = Result (Result (Unit {0}) Stop) TrailFault} (Ok (Err stop)) (Ok (Err InputLimit))
    → ◌≡◌ {A = Result (Unit {0}) Stop} (Err stop) (Err ReadFault) ⊎ ◌≡◌ {A = Result (Unit {0}) Stop} (Err stop) (Err InputLimit)
run_either stop (inl h) = inl (run_is _ _ h)
run_either stop (inr h) = inr (run_is _ _ h)

module _ (A : Machine) (entry : List ℕ → List ℕ → Entry) (s : Noted A.State) (k k1 : A.State → Type 0) (start : Outside) (o : Span Outside) (t0 t t1 : Medium) (old new : Reading) where
  abbrev w0 : World
  w0 = start.devices.world

  abbrev w : World
  w = o.old.devices.world

  abbrev w1 : World
  w1 = o.new.devices.world

  -- one line more, after those that were served and recorded since the start
  pub record IsNextRecord (result : Result (Result Served Stop) TrailFault) : Type 1 where
    pub served : HasServed (noting A entry) s (Agrees k t) w0 w start.input o.old.input start.output o.old.output old
    pub spares : SparesSo w0 w
    pub stands : (u : Noted A.State) × Stands (noting A entry) u (Agrees k t) w.module_ w.store
    pub on_trail : WhereTold start.input o.old.input (λ i r. TrailOn A entry s w0.random i t0 t)
    pub was_settled : IsSettled t
    pub taken : LineTaken (line_part result) o old new
    pub leaves : (u : Noted A.State) → Stands (noting A entry) u (Agrees k t) w.module_ w.store → LineAudited A entry u (Agrees k1 t1) result o t t1 old new
    pub unanswered : IsUnanswered (line_part result) → w1 ≡ w
    pub unsent : (line_part result ≡ Ok Replied → ⊥) → (line_part result ≡ Err WriteFault → ⊥) → o.new.output ≡ o.old.output
    pub untrailed : (line_part result ≡ Ok Replied → ⊥) → (line_part result ≡ Err WriteFault → ⊥) → t1 ≡ t
    pub failed_unsent : OnErr result (o.new.output ≡ o.old.output)
    pub settled : (result ≡ Err trail_fault.DiskFault → ⊥) → IsSettled t1
    pub kinds : IfErr result IsAppendFault
    -- a trail that tells its content was full only where it has 2^63 entries
    pub numbered : result ≡ Err trail_fault.Full → IsSome t0.content → (es : List Entry) → Told t (λ c. IsTrail c es) → length es ≡ 2 ^ 63

  trail_moments : (result : Result (Result Served Stop) TrailFault) → (next : IsNextRecord result)
      → WhereTold start.input o.new.input (λ i r. EachImage t0 t1 (λ e. t0.images e ⊎ IsOnTheWay (noting A entry) s w0.random i (λ v. IsTrail e v.entries)))
  trail_moments result next =
      trail_way A entry s k k1 t0 t t1 w0 w w1 next.was_settled start.input o.old.input o.new.input start.output o.old.output old _ next.served next.taken.counted next.on_trail
      (λ u st. (next.leaves u st).on_trail)

  -- ---- the trail didn't fail

  module _ (r : Result Served Stop) (next : IsNextRecord (Ok r)) where
    as_line : IsNextLine (noting A entry) s (Agrees k t) (Agrees k1 t1) start o old new r
    as_line = record {
      served = next.served;
      spares = next.spares;
      stands = next.stands;
      taken = next.taken;
      leaves = λ u st. (next.leaves u st).served;
      unanswered = next.unanswered;
      unsent = next.unsent;
    }

    nothing_moved : (P : World → Medium → Option (List ℕ) → Type 0) → IsUnanswered r → P w t o.old.output → P w1 t1 o.new.output
    nothing_moved P none has =
        subst (λ (x : World). P x t1 o.new.output) (sym (next.unanswered none))
        (subst (λ (x : Medium). P w x o.new.output) (sym (next.untrailed (unread_unsent r none) (unread_uncut r none)))
        (subst (λ (x : Option (List ℕ)). P w t x) (sym (next.unsent (unread_unsent r none) (unread_uncut r none))) has))

    lost_recorded : (stop : Stop) → IsLineStop stop → r ≡ Err stop
        → WhereTold start.input o.new.input (λ i r. (lost : LineLost (noting A entry) stop s w0.random w1 i start.output o.new.output) × Recorded t1 lost.state.entries)
    lost_recorded stop kind is =
        subst (λ (x : Option (List ℕ)). WhereTold start.input o.new.input (λ i r. (lost : LineLost (noting A entry) stop s w0.random w1 i start.output x) × Recorded t1 lost.state.entries))
        (sym (next.unsent (not_replied r stop is) (line_not_cut r stop kind is)))
        (subst (λ (x : Medium). WhereTold start.input o.new.input (λ i r. (lost : LineLost (noting A entry) stop s w0.random w1 i start.output o.old.output) × Recorded x lost.state.entries))
        (sym (next.untrailed (not_replied r stop is) (line_not_cut r stop kind is)))
        (exit_lost A entry s k k1 t0 t t1 w0 w w1 next.was_settled start.input o.old.input o.new.input start.output o.old.output o.new.output old new _ next.served next.taken.counted stop kind r
        (λ u st. (next.leaves u st).served) is))

    pub audit_ended : r ≡ Ok Ended → RunRecorded A entry s (Ok (Ok tt)) w0 w1 t0 t1 start.input o.new.input start.output o.new.output
    audit_ended ended =
        let run = run_ended (noting A entry) s (Agrees k t) (Agrees k1 t1) start o old new r as_line ended in
        record {
          done = λ h.
              nothing_moved (λ x y z. WhereTold start.input o.new.input (λ i r. (all : AllAnswered (noting A entry) s w0.random x i start.output z) × Recorded y all.led.last.entries)) (inl ended)
              (exit_all A entry s k k1 t0 t t1 w0 w w1 next.was_settled start.input o.old.input o.new.input start.output o.old.output old new next.served (next.taken.all_taken ended));
          stopped = λ h. absurd (done_no_stop h);
          cut = λ h. absurd (done_not_stop _ h);
          lost = λ stop kind h. absurd (done_not_stop _ h);
          undrawn = λ h. absurd (done_not_stop _ h);
          full = λ h. absurd (run_not_fault _ _ h);
          failed = λ h. absurd (run_not_fault _ _ h);
          damaged = λ cell h. absurd (run_not_fault _ _ h);
          undamaged = λ device cell h. done_not_stop _ h;
          on_module = run.on_module;
          on_store = run.on_store;
          on_trail = trail_moments (Ok r) next;
          spare = run.spare;
          at_rest = run.at_rest;
        }

    pub audit_stopped : (stop : Stop) → r ≡ Err stop → RunRecorded A entry s (Ok (Err stop)) w0 w1 t0 t1 start.input o.new.input start.output o.new.output
    audit_stopped stop is =
        let run = run_stopped (noting A entry) s (Agrees k t) (Agrees k1 t1) start o old new r as_line stop is in
        record {
          done = λ h. absurd (stop_not_done stop h);
          stopped = λ h.
              let unread = stopped_as r stop is (run_either stop h) in
              nothing_moved (λ x y z. WhereTold start.input o.new.input (λ i r. (whole : WholeLinesAnswered (noting A entry) s w0.random x i r start.output z) × Recorded y whole.led.last.entries)) (inr unread)
              (exit_whole A entry s k k1 t0 t t1 w0 w w1 next.was_settled start.input o.old.input o.new.input start.output o.old.output old next.served
              (not_ended o.old.input o.new.input old.ended new.ended old.pending r stop is next.taken.still_ended next.taken.ended)
              (next.taken.part_lost unread));
          cut = λ h.
              exit_cut A entry s k k1 t0 t t1 w0 w w1 next.was_settled start.input o.old.input o.new.input start.output o.old.output o.new.output old new _ next.served next.taken.counted
              (next.settled (λ failed. cc failed)) r (λ u st. (next.leaves u st).served) (same_stop r stop WriteFault is (run_is _ _ h));
          lost = λ other kind h. told_weaker start.input o.new.input _ _ (λ i r x. inl x) (lost_recorded other kind (same_stop r stop other is (run_is _ _ h)));
          undrawn = λ h. lost_recorded EntropyFault tt (same_stop r stop EntropyFault is (run_is _ _ h));
          full = λ h. absurd (run_not_fault _ _ h);
          failed = λ h. absurd (run_not_fault _ _ h);
          damaged = λ cell h. absurd (run_not_fault _ _ h);
          undamaged = λ device cell h. run.undamaged device cell (run_is _ _ h);
          on_module = run.on_module;
          on_store = run.on_store;
          on_trail = trail_moments (Ok r) next;
          spare = run.spare;
          at_rest = run.at_rest;
        }

  -- ---- it failed

  module _ (fault : TrailFault) (next : IsNextRecord (Err fault)) where
    reply_unsent : (other : TrailFault) → fault ≡ other → (Y : List Entry → Type 0) → ((es : List Entry) → Told t (λ c. IsTrail c es) → Y es)
        → WhereTold start.input o.new.input (λ i r. (unsent : ReplyUnsent A entry s w0.random w1 i start.output o.new.output) × RecordedBy other t1 unsent.state.entries unsent.next.entries × Y unsent.state.entries)
    reply_unsent other same Y of_trail =
        subst (λ (x : Option (List ℕ)). WhereTold start.input o.new.input (λ i r. (unsent : ReplyUnsent A entry s w0.random w1 i start.output x) × RecordedBy other t1 unsent.state.entries unsent.next.entries × Y unsent.state.entries))
        (sym next.failed_unsent)
        (exit_unsent A entry s k k1 t0 t t1 w0 w w1 next.was_settled start.input o.old.input o.new.input start.output o.old.output o.new.output old new _ next.served next.taken.counted other Y of_trail
        (λ u st. (next.leaves u st).unsent other (ap Err same)))

    pub audit_failed : RunRecorded A entry s (Err fault) w0 w1 t0 t1 start.input o.new.input start.output o.new.output
    audit_failed = record {
      done = λ h. absurd (fault_not_run _ _ h);
      stopped = λ h. absurd (fault_no_stop fault h);
      cut = λ h. absurd (fault_not_run _ _ h);
      lost = λ stop kind h. absurd (fault_not_run _ _ h);
      undrawn = λ h. absurd (fault_not_run _ _ h);
      full = λ h. reply_unsent trail_fault.Full (fault_is fault trail_fault.Full h) (λ es. IsSome t0.content → length es ≡ 2 ^ 63) (λ es trail told. next.numbered (ap Err (fault_is fault trail_fault.Full h)) told es trail);
      failed = λ h. told_weaker start.input o.new.input _ _ (λ i r x. inl (x.0, x.1)) (reply_unsent trail_fault.DiskFault (fault_is fault trail_fault.DiskFault h) (λ es. Unit {0}) (λ es trail. tt));
      damaged = λ cell h. absurd (subst IsAppendFault (fault_is fault (trail_fault.Damaged cell) h) next.kinds);
      undamaged = λ device cell h. fault_not_run _ _ h;
      on_module = module_way A entry s k k1 t0 t t1 w0 w w1 next.was_settled start.input o.old.input o.new.input start.output o.old.output old _ next.served next.taken.counted
          (λ u st. (next.leaves u st).on_module);
      on_store = store_way A entry s k k1 t0 t t1 w0 w w1 next.was_settled start.input o.old.input o.new.input start.output o.old.output old _ next.served next.taken.counted
          (λ u st. (next.leaves u st).on_store);
      on_trail = trail_moments (Err fault) next;
      spare = spares_always w0 w1 (spares_last w0 w w1 next.spares (next.leaves next.stands.0 next.stands.1).spare);
      at_rest = λ answers.
          carried_at_rest A entry s k k1 t0 t t1 w0 w w1 next.was_settled start.input o.old.input o.new.input start.output o.old.output o.new.output old new _ next.served next.taken.counted
          (λ u st. (next.leaves u st).turns);
    }

-- ---- whatever the disks hold

-- the run ends as the call for its last line did
pub record EndsAs (line : Result (Result Served Stop) TrailFault) (q : Result (Result (Unit {0}) Stop) TrailFault) : Type 0 where
  pub follows : Follows (line_part line) (run_part q)
  pub ended : (r : Result (Unit {0}) Stop) → q ≡ Ok r → IsOk r → line_part line ≡ Ok Ended
  pub fault : (f : TrailFault) → q ≡ Err f → line ≡ Err f
  pub back : (f : TrailFault) → line ≡ Err f → q ≡ Err f

pub ends_done : (r : Result Served Stop) → r ≡ Ok Ended → EndsAs (Ok r) (Ok (Ok tt))
ends_done r is = record {
  follows = follows_ok r Ended (Ok tt) is refl;
  ended = λ q h ok. is;
  fault = λ f h. absurd (cc h);
  back = λ f h. absurd (cc h);
}

pub ends_stopped : (r : Result Served Stop) (stop : Stop) → r ≡ Err stop → EndsAs (Ok r) (Ok (Err stop))
ends_stopped r stop is = record {
  follows = follows_stop r stop is;
  ended = λ q h ok. absurd (ok_no_stop q stop ok (sym (run_is _ _ h)));
  fault = λ f h. absurd (cc h);
  back = λ f h. absurd (cc h);
}

pub ends_failed : (f : TrailFault) → EndsAs (Err f) (Err f)
ends_failed f = record {
  follows = follows_ok (Ok Replied) Replied (Ok tt) refl refl;
  ended = λ q h ok. absurd (cc h);
  fault = λ other h. ap Err (fault_is _ _ h);
  back = λ other h. let same : f ≡ other = cc h in ap Err same;
}

module _ (A : Machine) (entry : List ℕ → List ℕ → Entry) (start : Outside) (o : Span Outside) (old new : Reading) (course : IsOnCourse start o.old old)
    (line : Result (Result Served Stop) TrailFault) (q : Result (Result (Unit {0}) Stop) TrailFault) (ends : EndsAs line q) where
  run_taken : LineTaken (line_part line) o old new → (r : Result (Result (Unit {0}) Stop) TrailFault) → q ≡ r → IfOk r (λ x. InputTaken x (record { old = start; new = o.new }))
  run_taken taken (Err f) is = tt
  run_taken taken (Ok r) is =
      course_taken A start o old course (line_part line) r new taken (subst (λ (x : Result (Result (Unit {0}) Stop) TrailFault). Follows (line_part line) (run_part x)) is ends.follows) (ends.ended r is)

  -- what the run leaves, by what its last line left; the trail is `t0` at the start, `t` before the line and `t1` after it
  pub records_left : (K : A.State → Type 0) (t0 t t1 : Medium) (f0 f f1 : ℕ)
      → ((s : Noted A.State) → Stands (noting A entry) s (Agrees K t0) start.devices.world.module_ start.devices.world.store
      → RunRecorded A entry s q start.devices.world o.new.devices.world t0 t1 start.input o.new.input start.output o.new.output)
      → ((s : Noted A.State) → Stands (noting A entry) s (Agrees K t0) start.devices.world.module_ start.devices.world.store → IsSome t0.content → q ≡ Err trail_fault.Full
      → WhereTold start.input o.new.input (λ i r. 2 ^ 63 < length s.entries + length (lines i)))
      → LineTaken (line_part line) o old new → ((q ≡ Ok (Err WriteFault) → ⊥) → o.new.output ≡ o.old.output) → (IsUnanswered (line_part line) → o.new.devices.world ≡ o.old.devices.world) → (line_part line ≡ Err WriteFault → BothSettled o.new.devices)
      → Undamaged A (line_part line) o.old.devices → OutsideLeft (line_part line) o
      → TrailAppended t0 t f0 f ⊥ → TrailAppended t t1 f f1 (line ≡ Err trail_fault.DiskFault) → IfErr line IsAppendFault
      → RecordsLeft A entry K q (record { old = start; new = o.new }) t0 t1 f0 f1
  records_left K t0 t t1 f0 f f1 serves full taken unsent unanswered cut undamaged left one two kinds = record {
    serves = serves;
    full = full;
    taken = record { run = run_taken taken q refl; within = course_within A start o old course (line_part line) (run_part q) new taken };
    each = course_each A start o old course new (line_part line) taken (q ≡ Ok (Ok tt)) (q ≡ Ok (Err WriteFault)) (λ h. ends.ended (Ok tt) h refl) unsent;
    settled = course_settled A start o old course (line_part line) (run_part q) unanswered cut left ends.follows;
    undamaged = course_undamaged A start o old course (line_part line) (run_part q) ends.follows undamaged;
    left = course_left A start o old course (line_part line) (run_part q) ends.follows left;
    trail = trail_then t0 t t1 f0 f f1 _ _ (ends.fault trail_fault.DiskFault) (ends.back trail_fault.DiskFault) one two;
    kinds = by_fault q refl;
  }
    where
      by_fault : (r : Result (Result (Unit {0}) Stop) TrailFault) → q ≡ r → IfErr r IsAppendFault
      by_fault (Ok r) is = tt
      by_fault (Err f) is = subst (λ (x : Result (Result Served Stop) TrailFault). IfErr x IsAppendFault) (ends.fault f is) kinds
