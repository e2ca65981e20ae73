-- How far the input was taken at one line, by what was read.
use Rattle.std.proofs.Common.{◌≡◌, ◌<◌, ◌≤◌, ◌+◌, ◌++◌, [], length, Result, Ok, Err, refl, ap, sym, subst, inl, inr, ⊎_elim}
use Rattle.std.specs.Prelude.{◌⊎◌, ◌↔◌, IsTrue, IsErr, IfOk, OnErr}
use Rattle.std.specs.Io.KnownBytes.{IsAtEnd}
use Rattle.device_cells.specs.WhereTold.{WhereTold}
use Rattle.device_cells.proofs.WhereToldLemmas.{told_weaker}
use Rattle.line_service.specs.Lines.{NoNewline}
use Rattle.line_service.specs.Reading.{Reading, blank, input_limit, given, KeepsPart, Takes, Shows, Advances, bytes_ahead}
use Rattle.line_service.specs.declared.lines.LineFault.{LineFault}
use Rattle.line_service.specs.declared.lines.LineFault.TheVariants as line_fault
use Rattle.line_service.specs.declared.lines.Taken.{Taken}
use Rattle.line_service.specs.declared.lines.Taken.TheVariants.{Line, TooLong, End}
use Rattle.line_service.specs.Devices.{Span, Outside}
use Rattle.line_service.specs.Running.{LineTaken}
use Rattle.line_service.specs.Stops.{IsDeskStop, IsUnanswered}
use Rattle.line_service.specs.declared.serving.Served.{Served}
use Rattle.line_service.specs.declared.serving.Served.TheVariants.{Replied, Ended}
use Rattle.line_service.specs.declared.stops.Stop.{Stop}
use Rattle.line_service.specs.declared.stops.Stop.TheVariants.{ReadFault, WriteFault, InputLimit}

-- ---- answers to a line

pub answered_replied : IsUnanswered (Ok Replied) → ⊥
answered_replied (inl h) = cc h
answered_replied (inr (inl h)) = cc h
answered_replied (inr (inr h)) = cc h

pub answered_cut : IsUnanswered (Err WriteFault) → ⊥
answered_cut (inl h) = cc h
answered_cut (inr (inl h)) = cc h
answered_cut (inr (inr h)) = cc h

pub answered_stop : (stop : Stop) → IsDeskStop stop → IsUnanswered (Err stop) → ⊥
answered_stop stop kind (inl h) = cc h
answered_stop stop kind (inr (inl h)) = let same : stop ≡ ReadFault = cc h in subst IsDeskStop same kind
answered_stop stop kind (inr (inr h)) = let same : stop ≡ InputLimit = cc h in subst IsDeskStop same kind

-- ---- a line was taken

module _ (taken : Taken) (some : taken ≡ End → ⊥) (o : Span Outside) (r0 r1 : Reading) where
  advanced : Advances taken r0 r1 → bytes_ahead r1 < bytes_ahead r0
  advanced = by_taken taken some
    where
      by_taken : (taken : Taken) → (taken ≡ End → ⊥) → Advances taken r0 r1 → bytes_ahead r1 < bytes_ahead r0
      by_taken Line some advances = advances
      by_taken TooLong some advances = advances
      by_taken End some advances = absurd (some refl)

  pub line_was_taken : WhereTold o.old.input o.new.input (λ i r. Takes taken (r0.pending ++ i) r1 (r1.pending ++ r)) → Shows taken r1 → Advances taken r0 r1
      → WhereTold o.old.input o.new.input (λ i r. (◌≡◌ {A = Result Taken LineFault} (Ok taken) (Ok End)) ↔ (IsTrue r1.ended × (r0.pending ++ i ≡ [])))
      → (IsTrue r0.ended → IsTrue r1.ended) → (IsTrue r1.ended → IsAtEnd o.new.input) → WhereTold o.old.input o.new.input (λ i r. r1.taken + length r ≡ r0.taken + length i)
      → r1.taken ≤ input_limit
      → WhereTold o.old.input o.new.input (λ i r. (◌≡◌ {A = Result Taken LineFault} (Ok taken) (Err line_fault.InputLimit)) ↔ ((r1.taken ≡ input_limit) × NoNewline (r0.pending ++ given i r)))
      → (q : Result Served Stop) → (IsUnanswered q → ⊥) → LineTaken q o r0 r1
  line_was_taken takes shows advances end still at_end counted within limit q answered = record {
    ended = told_weaker o.old.input o.new.input _ _ (λ i r e. (λ h. absurd (answered (inl h)), λ both. absurd (some (cc (e.1 both))))) end;
    all_taken = λ h. absurd (answered (inl h));
    ends = λ h. absurd (answered (inl h));
    limit = told_weaker o.old.input o.new.input _ _ (λ i r e. (λ h. absurd (answered (inr (inr h))), λ both. absurd (cc (e.1 both)))) limit;
    part_lost = λ h. absurd (answered (inr h));
    still_ended = still;
    at_end = at_end;
    advances = λ h. advanced advances;
    counted = counted;
    within = within;
    full = λ h. absurd (answered (inr (inr h)));
    short = λ h. absurd (⊎_elim (λ read. answered (inr (inl read))) (λ ended. answered (inl ended)) h);
    unshown = λ h. absurd (answered h);
    emptied = λ h. absurd (answered (inr h));
    shown = λ h. record { taken = taken; some = some; takes = takes; shows = shows };
  }

-- ---- no line was taken

-- the answer to a read that took none
pub record AsRead (f : Result Taken LineFault) (q : Result Served Stop) : Type 0 where
  pub unreplied : q ≡ Ok Replied → ⊥
  pub unanswered : IsUnanswered q
  pub ended : (q ≡ Ok Ended) ↔ (f ≡ Ok End)
  pub unread : q ≡ Err ReadFault → f ≡ Err line_fault.ReadFault
  pub over : (q ≡ Err InputLimit) ↔ (f ≡ Err line_fault.InputLimit)
  pub stopped : (q ≡ Err ReadFault) ⊎ (q ≡ Err InputLimit) → IsErr f

at_end_read : AsRead (Ok End) (Ok Ended)
at_end_read = record {
  unreplied = λ h. cc h;
  unanswered = inl refl;
  ended = (λ h. refl, λ h. refl);
  unread = λ h. absurd (cc h);
  over = (λ h. absurd (cc h), λ h. absurd (cc h));
  stopped = λ h. absurd (⊎_elim (λ is. cc is) (λ is. cc is) h);
}

failed_read : AsRead (Err line_fault.ReadFault) (Err ReadFault)
failed_read = record {
  unreplied = λ h. cc h;
  unanswered = inr (inl refl);
  ended = (λ h. absurd (cc h), λ h. absurd (cc h));
  unread = λ h. refl;
  over = (λ h. absurd (cc h), λ h. absurd (cc h));
  stopped = λ h. refl;
}

over_read : AsRead (Err line_fault.InputLimit) (Err InputLimit)
over_read = record {
  unreplied = λ h. cc h;
  unanswered = inr (inr refl);
  ended = (λ h. absurd (cc h), λ h. absurd (cc h));
  unread = λ h. absurd (cc h);
  over = (λ h. refl, λ h. refl);
  stopped = λ h. refl;
}

pub read_ended : (taken : Taken) → taken ≡ End → AsRead (Ok taken) (Ok Ended)
read_ended taken is = subst (λ (x : Taken). AsRead (Ok x) (Ok Ended)) (sym is) at_end_read

pub read_failed : (fault : LineFault) → fault ≡ line_fault.ReadFault → AsRead (Err fault) (Err ReadFault)
read_failed fault is = subst (λ (x : LineFault). AsRead (Err x) (Err ReadFault)) (sym is) failed_read

pub read_over : (fault : LineFault) → fault ≡ line_fault.InputLimit → AsRead (Err fault) (Err InputLimit)
read_over fault is = subst (λ (x : LineFault). AsRead (Err x) (Err InputLimit)) (sym is) over_read

pub over_not_failed : (fault : LineFault) → fault ≡ line_fault.InputLimit → ◌≡◌ {A = Result Taken LineFault} (Err fault) (Err line_fault.ReadFault) → ⊥
over_not_failed fault is h = cc (is, h)

-- a read that gave a line is none of these
not_end : (taken : Taken) (q : Result Served Stop) → AsRead (Ok taken) q → (◌≡◌ {A = Result Taken LineFault} (Ok taken) (Ok End) → ⊥) → ⊥
not_end taken q tells never = by_answer tells.unanswered
  where
    by_answer : IsUnanswered q → ⊥
    by_answer (inl h) = never (tells.ended.0 h)
    by_answer (inr h) = cc (tells.stopped h)

on_err : {P : Type 0} (f : Result Taken LineFault) → IsErr f → OnErr f P → P
on_err (Ok taken) is has = absurd (cc is)
on_err (Err fault) is has = has

module _ (f : Result Taken LineFault) (o : Span Outside) (r0 r1 : Reading) where
  none_shown : IfOk f (λ taken. Shows taken r1) → OnErr f (r1 ≡ record blank { pending = r1.pending; taken = r1.taken }) → (q : Result Served Stop) → AsRead f q → r1.line ≡ []
  none_shown = by_read f
    where
      by_read : (f : Result Taken LineFault) → IfOk f (λ taken. Shows taken r1) → OnErr f (r1 ≡ record blank { pending = r1.pending; taken = r1.taken }) → (q : Result Served Stop) → AsRead f q → r1.line ≡ []
      by_read (Ok Line) shows emptied q tells = absurd (not_end Line q tells (λ h. cc h))
      by_read (Ok TooLong) shows emptied q tells = shows
      by_read (Ok End) shows emptied q tells = shows
      by_read (Err fault) shows emptied q tells = ap (λ (r : Reading). r.line) emptied

  pub no_line_was_taken : (q : Result Served Stop) → AsRead f q
      → IfOk f (λ taken. WhereTold o.old.input o.new.input (λ i r. Takes taken (r0.pending ++ i) r1 (r1.pending ++ r))) → IfOk f (λ taken. Shows taken r1)
      → WhereTold o.old.input o.new.input (λ i r. (f ≡ Ok End) ↔ (IsTrue r1.ended × (r0.pending ++ i ≡ [])))
      → (IsTrue r0.ended → IsTrue r1.ended) → (f ≡ Ok End → IsTrue r1.ended) → (IsTrue r1.ended → IsAtEnd o.new.input) → WhereTold o.old.input o.new.input (λ i r. r1.taken + length r ≡ r0.taken + length i)
      → r1.taken ≤ input_limit → (IsTrue r1.ended → r1.taken < input_limit)
      → WhereTold o.old.input o.new.input (λ i r. (f ≡ Err line_fault.InputLimit) ↔ ((r1.taken ≡ input_limit) × NoNewline (r0.pending ++ given i r)))
      → (f ≡ Err line_fault.InputLimit → r1.taken ≡ input_limit) → (f ≡ Err line_fault.ReadFault → r1.taken < input_limit) → OnErr f (r1 ≡ record blank { pending = r1.pending; taken = r1.taken })
      → OnErr f (WhereTold o.old.input o.new.input (λ i r. KeepsPart (r0.pending ++ i) r1.pending r)) → LineTaken q o r0 r1
  no_line_was_taken q tells takes shows end still ends at_end counted within early limit full short emptied kept = record {
    ended = told_weaker o.old.input o.new.input _ _ (λ i r e. (λ h. e.0 (tells.ended.0 h), λ both. tells.ended.1 (e.1 both))) end;
    all_taken = λ h. at_the_end f (tells.ended.0 h) takes;
    ends = λ h. ends (tells.ended.0 h);
    limit = told_weaker o.old.input o.new.input _ _ (λ i r e. (λ h. e.0 (tells.over.0 h), λ both. tells.over.1 (e.1 both))) limit;
    part_lost = λ h. told_weaker o.old.input o.new.input _ _ (λ i r part. (part.part, part.clean, part.bytes)) (on_err f (tells.stopped h) kept);
    still_ended = still;
    at_end = at_end;
    advances = λ h. absurd (tells.unreplied h);
    counted = counted;
    within = within;
    full = λ h. full (tells.over.0 h);
    short = λ h. ⊎_elim (λ read. short (tells.unread read)) (λ ended. early (ends (tells.ended.0 ended))) h;
    unshown = λ h. none_shown shows emptied q tells;
    emptied = λ h. on_err f (tells.stopped h) emptied;
    shown = λ answered. absurd (answered tells.unanswered);
  }
    where
      at_the_end : (f : Result Taken LineFault) → f ≡ Ok End → IfOk f (λ taken. WhereTold o.old.input o.new.input (λ i r. Takes taken (r0.pending ++ i) r1 (r1.pending ++ r)))
          → WhereTold o.old.input o.new.input (λ i r. (r0.pending ++ i ≡ []) × (r1.pending ++ r ≡ []))
      at_the_end (Ok End) is takes = told_weaker o.old.input o.new.input _ _ (λ i r has. (has.0, has.1)) takes
      at_the_end (Ok Line) is takes = absurd (cc is)
      at_the_end (Ok TooLong) is takes = absurd (cc is)
      at_the_end (Err fault) is takes = absurd (cc is)
