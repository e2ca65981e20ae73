-- What one line leaves besides, whatever disks and trail stand for, over plain values.
use Rattle.std.proofs.Common.{◌≡◌, ◌<◌, ◌≤◌, ◌+◌, ◌++◌, ℕ, List, [], length, Option, None, Result, Ok, Err, refl, sym, subst}
use Rattle.std.specs.Prelude.{◌↔◌, IsTrue, IfOk, OnErr, OnOk}
use Rattle.std.specs.Io.KnownBytes.{IsAtEnd}
use Rattle.device_cells.specs.Medium.{Medium, IsSettled}
use Rattle.device_cells.specs.WhereTold.{WhereTold}
use Rattle.line_service.specs.Lines.{EndsInNewline, NoNewline}
use Rattle.line_service.specs.Reading.{Reading, blank, input_limit, given, KeepsPart, Takes, Shows, Advances}
use Rattle.line_service.specs.declared.lines.LineFault.{LineFault}
use Rattle.line_service.specs.declared.lines.LineFault.TheVariants as line_fault
use Rattle.line_service.specs.declared.lines.Taken.{Taken}
use Rattle.line_service.specs.declared.lines.Taken.TheVariants.{End}
use Rattle.audit_trail.specs.declared.entries.Entry.{Entry}
use Rattle.audit_trail.specs.declared.faults.TrailFault.{TrailFault}
use Rattle.line_service.specs.Machine.{Machine}
use Rattle.line_service.specs.Devices.{Span, Devices, DevicesLeft, Outside, TellsFault, Undamaged, behind, devices}
use Rattle.line_service.specs.Running.{LineTaken}
use Rattle.line_service.specs.Sending.{Grows}
use Rattle.line_service.specs.Stops.{IsDeskStop, IsUnanswered}
use Rattle.line_service.specs.declared.serving.Served.{Served}
use Rattle.line_service.specs.declared.serving.Served.TheVariants.{Replied}
use Rattle.line_service.specs.declared.stops.Stop.{Stop}
use Rattle.line_service.specs.declared.stops.Stop.TheVariants.{ReadFault, WriteFault}
use Rattle.line_service.proofs.AnsweredLemmas.{devices_answered, handed_on, outside_untouched, source_read, unanswered_uncut, undamaged_answered, undamaged_untouched}
use Rattle.line_service.proofs.RepliedLemmas.{got_reply}
use Rattle.line_service.proofs.StopLemmas.{devices_stopped, no_desk_write, count_still, grows_none}
use Rattle.line_service.proofs.TakenLemmas.{AsRead, line_was_taken, no_line_was_taken, answered_stop}
use Rattle.audited_service.specs.EachLine.{EntrySent, LineKept, line_part}
use Rattle.audited_service.proofs.SentLemmas.{not_cut_by, sent_answered, sent_stop}
use Rattle.audited_service.proofs.TrailLemmas.{trail_still}

-- ---- no line was taken

module _ (A : Machine) (Ready Holds : Type 0) (now : Devices) (a b p : Option (List ℕ)) (reads reads1 writes : ℕ) (t : Medium) (faults : ℕ) (r0 r1 : Reading) where
  abbrev around : Span Outside
  around = record {
    old = record { devices = now; input = a; output = p; source_faults = reads; sink_faults = writes };
    new = record { devices = now; input = b; output = p; source_faults = reads1; sink_faults = writes };
  }

  -- source and buffer show what was read, and nothing else was called
  pub unread_kept : (f : Result Taken LineFault) (q : Result Served Stop) → AsRead f q
      → IfOk f (λ taken. WhereTold a b (λ i r. Takes taken (r0.pending ++ i) r1 (r1.pending ++ r))) → IfOk f (λ taken. Shows taken r1)
      → WhereTold a b (λ i r. (f ≡ Ok End) ↔ (IsTrue r1.ended × (r0.pending ++ i ≡ [])))
      → (IsTrue r0.ended → IsTrue r1.ended) → (f ≡ Ok End → IsTrue r1.ended) → (IsTrue r1.ended → IsAtEnd b) → WhereTold a b (λ i r. r1.taken + length r ≡ r0.taken + length i)
      → r1.taken ≤ input_limit → (IsTrue r1.ended → r1.taken < input_limit)
      → WhereTold a b (λ i r. (f ≡ Err line_fault.InputLimit) ↔ ((r1.taken ≡ input_limit) × NoNewline (r0.pending ++ given i r)))
      → (f ≡ Err line_fault.InputLimit → r1.taken ≡ input_limit) → (f ≡ Err line_fault.ReadFault → r1.taken < input_limit) → OnErr f (r1 ≡ record blank { pending = r1.pending; taken = r1.taken })
      → OnErr f (WhereTold a b (λ i r. KeepsPart (r0.pending ++ i) r1.pending r))
      → TellsFault reads reads1 (q ≡ Err ReadFault) → IsSettled now.world.module_ → IsSettled now.world.store → IsSettled t → Holds
      → LineKept A Ready Holds (Ok q) around t t faults faults r0 r1
  unread_kept f q tells takes shows end still ends at_end counted within early limit full short emptied kept source m d settled holds = record {
    ready = λ h. let replied : q ≡ Ok Replied = cc h in absurd (tells.unreplied replied);
    held = holds;
    taken = no_line_was_taken f around r0 r1 q tells takes shows end still ends at_end counted within early limit full short emptied kept;
    replied = λ h. let replied : q ≡ Ok Replied = cc h in absurd (tells.unreplied replied);
    left = outside_untouched now a b p reads reads1 writes q tells.unanswered m d source;
    undamaged = undamaged_untouched A now q tells.unanswered;
    cut = λ h. let cut : q ≡ Err WriteFault = cc h in absurd (unanswered_uncut q tells.unanswered cut);
    trail = trail_still t faults _ settled (λ h. cc h);
  }

-- ---- a line was taken

module _ (A : Machine) (Ready Holds : Type 0) (o : Span Outside) (r0 r1 : Reading) (taken : Taken) (some : taken ≡ End → ⊥)
    (takes : WhereTold o.old.input o.new.input (λ i r. Takes taken (r0.pending ++ i) r1 (r1.pending ++ r))) (shows : Shows taken r1) (advances : Advances taken r0 r1)
    (end : WhereTold o.old.input o.new.input (λ i r. (◌≡◌ {A = Result Taken LineFault} (Ok taken) (Ok End)) ↔ (IsTrue r1.ended × (r0.pending ++ i ≡ []))))
    (still : IsTrue r0.ended → IsTrue r1.ended) (at_end : IsTrue r1.ended → IsAtEnd o.new.input) (counted : WhereTold o.old.input o.new.input (λ i r. r1.taken + length r ≡ r0.taken + length i))
    (within : r1.taken ≤ input_limit)
    (limit : WhereTold o.old.input o.new.input (λ i r. (◌≡◌ {A = Result Taken LineFault} (Ok taken) (Err line_fault.InputLimit)) ↔ ((r1.taken ≡ input_limit) × NoNewline (r0.pending ++ given i r))))
    (later : o.old.source_faults ≤ o.new.source_faults) (quiet : o.new.source_faults ≡ o.old.source_faults) where
  was_taken : (q : Result Served Stop) → (IsUnanswered q → ⊥) → LineTaken q o r0 r1
  was_taken q answered = line_was_taken taken some o r0 r1 takes shows advances end still at_end counted within limit q answered

  -- it was answered, its entry was appended, and then its reply was sent
  pub sent_kept : (r : Result (Result Served Stop) TrailFault) (n : ℕ) (e : Entry) (reply : List ℕ) (t t1 : Medium) (faults faults1 : ℕ)
      → EntrySent n e reply r t t1 faults faults1 o.old.output o.new.output o.old.sink_faults o.new.sink_faults → EndsInNewline reply → DevicesLeft {T = Unit {0}} (Ok tt) (behind o) → Ready → OnOk r Holds
      → LineKept A Ready Holds r o t t1 faults faults1 r0 r1
  sent_kept r n e reply t t1 faults faults1 sent line left ready holds = record {
    ready = λ h. ready;
    held = holds;
    taken = was_taken (line_part r) (sent_answered r sent.answers);
    replied = λ h. got_reply o.old.output o.new.output reply reply refl line (sent.all h);
    left = record {
      devices_left = devices_answered (behind o) (line_part r) (sent_stop r sent.answers) left;
      source_left = source_read o.old.source_faults o.new.source_faults (line_part r) (sent_answered r sent.answers) later quiet;
      sink_left = sent.count;
      sink_grows = sent.grows;
    };
    undamaged = undamaged_answered A o.old.devices (line_part r) (sent_stop r sent.answers);
    cut = λ h. record { module_settled = left.module_left.settled refl; store_settled = left.store_left.settled refl };
    trail = sent.trail;
  }

  -- it wasn't answered: sink and trail weren't called
  pub stopped_kept : (stop : Stop) → IsDeskStop stop → DevicesLeft {T = Unit {0}} (Err stop) (behind o)
      → Undamaged {T = Unit {0}} A (Err stop) (devices o.old.devices.world.module_ o.old.devices.module_faults o.old.devices.world.store o.old.devices.store_faults None 0)
      → o.new.output ≡ o.old.output → o.new.sink_faults ≡ o.old.sink_faults → (t : Medium) (faults : ℕ) → IsSettled t → Holds → LineKept A Ready Holds (Ok (Err stop)) o t t faults faults r0 r1
  stopped_kept stop stops left undamaged output count t faults settled holds = record {
    ready = λ h. absurd (cc h);
    held = holds;
    taken = was_taken (Err stop) (answered_stop stop stops);
    replied = λ h. absurd (cc h);
    left = record {
      devices_left = devices_stopped A stop (behind o) left;
      source_left = source_read o.old.source_faults o.new.source_faults (Err stop) (answered_stop stop stops) later quiet;
      sink_left = subst (λ (x : ℕ). TellsFault o.old.sink_faults x (◌≡◌ {A = Result Served Stop} (Err stop) (Err WriteFault))) (sym count) (count_still o.old.sink_faults _ (no_desk_write stop stops));
      sink_grows = subst (λ (x : Option (List ℕ)). WhereTold o.old.output x Grows) (sym output) (grows_none o.old.output);
    };
    undamaged = record {
      module_sound = λ cell h. undamaged.module_sound cell (handed_on {T = Served} {U = Unit {0}} stop _ h);
      store_sound = λ cell h. undamaged.store_sound cell (handed_on {T = Served} {U = Unit {0}} stop _ h);
      cells = λ device cell h. undamaged.cells device cell (handed_on {T = Served} {U = Unit {0}} stop _ h);
      reread = λ device cell h. undamaged.reread device cell (handed_on {T = Served} {U = Unit {0}} stop _ h);
    };
    cut = λ h. absurd (not_cut_by stop stops h);
    trail = trail_still t faults _ settled (λ h. cc h);
  }
