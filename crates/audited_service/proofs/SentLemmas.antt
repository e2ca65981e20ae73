-- What a line leaves whose entry was appended before its reply was sent, and what a line leaves that wasn't answered.
use Rattle.std.proofs.Common.{◌≡◌, ◌≤◌, ◌++◌, ℕ, List, Option, Result, Ok, Err, refl, ap, sym, subst, inl, inr, ⊎_elim}
use Rattle.std.specs.Prelude.{◌⊎◌, OnErr, IsOk}
use Rattle.device_cells.specs.Faults.{Rose}
use Rattle.device_cells.specs.Medium.{Medium, IsSettled, Told}
use Rattle.device_cells.specs.WhereTold.{WhereTold}
use Rattle.device_cells.proofs.WhereToldLemmas.{told_weaker}
use Rattle.line_service.specs.Reading.{Reading, Takes}
use Rattle.line_service.specs.declared.lines.Taken.{Taken}
use Rattle.line_service.specs.declared.lines.Taken.TheVariants.{End}
use Rattle.audit_trail.specs.Changes.{AppendsEntry, TrailLeft}
use Rattle.audit_trail.proofs.MediumLaws.{same_fault}
use Rattle.audit_trail.specs.TrailStands.{IsTrail}
use Rattle.audit_trail.specs.declared.entries.Entry.{Entry}
use Rattle.audit_trail.specs.declared.faults.TrailFault.{TrailFault}
use Rattle.audit_trail.specs.declared.faults.TrailFault.TheVariants as trail_fault
use Rattle.line_service.specs.Answering.{Serves}
use Rattle.line_service.specs.Machine.{Machine, World}
use Rattle.line_service.specs.Sending.{GotPart}
use Rattle.line_service.specs.Serving.{IsTheLine}
use Rattle.line_service.specs.Stops.{IsDeskStop, IsUnanswered}
use Rattle.line_service.specs.declared.serving.Served.{Served}
use Rattle.line_service.specs.declared.serving.Served.TheVariants.{Replied}
use Rattle.line_service.specs.declared.stops.Stop.{Stop}
use Rattle.line_service.specs.declared.stops.Stop.TheVariants.{WriteFault}
use Rattle.line_service.proofs.StopLemmas.{count_still, grows_none}
use Rattle.audited_service.specs.EachLine.{Agrees, AppendFails, EntrySent, IsAppendFault, IsSent, LineRecorded, TrailAppended, line_part}
use Rattle.audited_service.specs.Noting.{Noted}
use Rattle.audited_service.proofs.TrailLemmas.{trail_appended}
use Rattle.audited_service.proofs.RecordLemmas.{line_sent, line_cut_off, line_unsent, recorded_by}

-- ---- the answers

pub sent_part : (r : Result (Result Served Stop) TrailFault) → IsSent r → (line_part r ≡ Ok Replied) ⊎ (line_part r ≡ Err WriteFault)
sent_part (Ok q) sent = sent
sent_part (Err fault) sent = inl refl

-- a line was answered, whether or not its reply was sent
pub sent_answered : (r : Result (Result Served Stop) TrailFault) → IsSent r → IsUnanswered (line_part r) → ⊥
sent_answered r sent unanswered = apart (line_part r) (sent_part r sent) unanswered
  where
    apart : (q : Result Served Stop) → (q ≡ Ok Replied) ⊎ (q ≡ Err WriteFault) → IsUnanswered q → ⊥
    apart q (inl is) (inl h) = cc (is, h)
    apart q (inl is) (inr (inl h)) = cc (is, h)
    apart q (inl is) (inr (inr h)) = cc (is, h)
    apart q (inr is) (inl h) = cc (is, h)
    apart q (inr is) (inr (inl h)) = cc (is, h)
    apart q (inr is) (inr (inr h)) = cc (is, h)

-- a stop that a sent line has is that of the sink
pub sent_stop : (r : Result (Result Served Stop) TrailFault) → IsSent r → (stop : Stop) → line_part r ≡ Err stop → stop ≡ WriteFault
sent_stop r sent stop h = of_sink (line_part r) (sent_part r sent) h
  where
    of_sink : (q : Result Served Stop) → (q ≡ Ok Replied) ⊎ (q ≡ Err WriteFault) → q ≡ Err stop → stop ≡ WriteFault
    of_sink q (inl is) h = absurd (cc (is, h))
    of_sink q (inr is) h = cc (is, h)

-- the sink is as before where no byte was sent
pub sent_unmoved : {K : Type 0} (r : Result (Result Served Stop) TrailFault) → IsSent r → (sink0 sink1 : K) → OnErr r (sink1 ≡ sink0) → (line_part r ≡ Ok Replied → ⊥) → (line_part r ≡ Err WriteFault → ⊥) → sink1 ≡ sink0
sent_unmoved (Ok q) sent sink0 sink1 unsent unreplied uncut = absurd (⊎_elim unreplied uncut sent)
sent_unmoved (Err fault) sent sink0 sink1 unsent unreplied uncut = unsent

-- no entry was appended, and trail and sink weren't called
pub unappended : {T K : Type 0} (r : Result Served Stop) (next : ℕ) (trail : T) (sink : K) → AppendFails (Ok r) next trail trail sink sink
unappended r next trail sink = record {
  kinds = tt;
  unsent = tt;
  number = λ h. absurd (cc h);
  uncalled = λ h. absurd (cc h);
}

pub not_cut_by : (stop : Stop) → IsDeskStop stop → ◌≡◌ {A = Result (Result Served Stop) TrailFault} (Ok (Err stop)) (Ok (Err WriteFault)) → ⊥
not_cut_by stop kind h = let same : stop ≡ WriteFault = cc h in subst IsDeskStop same kind

-- ---- what the line comes to

module _ (A : Machine) (entry : List ℕ → List ℕ → Entry) (s : Noted A.State) (k : A.State → Type 0) (taken : Taken) (now : Reading) (some : taken ≡ End → ⊥) (reply : List ℕ)
    (old new : World) (m : IsSettled new.module_) (d : IsSettled new.store)
    (serves : (line : List ℕ) → IsTheLine taken now line → Serves A s.state k line (Ok tt) reply old new) (n : ℕ) (e : Entry)
    (e_is : (line : List ℕ) → IsTheLine taken now line → e ≡ entry line reply) (r0 : Reading) (a b : Option (List ℕ))
    (takes : WhereTold a b (λ i r. Takes taken (r0.pending ++ i) now (now.pending ++ r))) where
  pub line_after_append : (T K : Type 0) (medium : T → Medium) (trail0 trail1 : T) (sink0 sink1 : K) (r : Result (Result Served Stop) TrailFault) (before after : ℕ) (p q : Option (List ℕ)) (f0 f1 : ℕ)
      → EntrySent n e reply r (medium trail0) (medium trail1) before after p q f0 f1 → AppendFails r n trail0 trail1 sink0 sink1 → IsSettled (medium trail0) → Told (medium trail0) (λ c. IsTrail c s.entries)
      → LineRecorded A entry s (Agrees k (medium trail1)) r old new (medium trail0) (medium trail1) a b p q r0 now
  line_after_append T K medium trail0 trail1 sink0 sink1 (Ok answer) before after p q f0 f1 sent failed settled told = by_answer answer sent.answers sent
    where
      by_answer : (answer : Result Served Stop) → (answer ≡ Ok Replied) ⊎ (answer ≡ Err WriteFault) → EntrySent n e reply (Ok answer) (medium trail0) (medium trail1) before after p q f0 f1
          → LineRecorded A entry s (Agrees k (medium trail1)) (Ok answer) old new (medium trail0) (medium trail1) a b p q r0 now
      by_answer answer (inl is) sent =
          subst (λ (x : Result Served Stop). LineRecorded A entry s (Agrees k (medium trail1)) (Ok x) old new (medium trail0) (medium trail1) a b p q r0 now) (sym is)
          (line_sent A entry s k (medium trail0) (medium trail1) taken now some reply old new serves n e e_is told r0 a b p q takes sent.appended (sent.all (ap Ok is)))
      by_answer answer (inr is) sent =
          subst (λ (x : Result Served Stop). LineRecorded A entry s (Agrees k (medium trail1)) (Ok x) old new (medium trail0) (medium trail1) a b p q r0 now) (sym is)
          (line_cut_off A entry s k (medium trail0) (medium trail1) taken now some reply old new serves n e e_is told r0 a b p q takes sent.appended (sent.part (ap Ok is)))
  line_after_append T K medium trail0 trail1 sink0 sink1 (Err fault) before after p q f0 f1 sent failed settled told =
      line_unsent A entry s k (medium trail0) (medium trail1) taken now some reply old new serves n e e_is told r0 a b p q takes (Agrees k (medium trail1)) fault m d sent.appended
      (recorded_by fault n e (medium trail0) (medium trail1) s.entries sent.appended settled told (of_append fault failed.kinds) (λ full. ap medium (failed.uncalled (ap Err full))))
    where
      of_append : (fault : TrailFault) → IsAppendFault fault → (fault ≡ trail_fault.DiskFault) ⊎ (fault ≡ trail_fault.Full)
      of_append trail_fault.DiskFault is = inl refl
      of_append trail_fault.Full is = inr refl
      of_append (trail_fault.Damaged cell) is = absurd is

-- ---- an append, and then the reply

module _ (n : ℕ) (e : Entry) (reply : List ℕ) (t0 t1 : Medium) (before now : ℕ) (settled : IsSettled t0) (p : Option (List ℕ)) (writes : ℕ) where
  module _ (q : Option (List ℕ)) (writes1 : ℕ) (appended : AppendsEntry n e t0 t1 (Ok tt)) (left : TrailLeft t0 t1 before now (IsOk {T = Unit {0}} {E = TrailFault} (Ok tt)) (◌≡◌ {A = Result (Unit {0}) TrailFault} (Ok tt) (Err trail_fault.DiskFault)))
      (later : writes ≤ writes1) where
    left_by : {r : Result Served Stop} → TrailAppended t0 t1 before now (◌≡◌ {A = Result (Result Served Stop) TrailFault} (Ok r) (Err trail_fault.DiskFault))
    left_by = trail_appended n e t0 t1 before now _ settled (Ok tt) appended left tt (λ h. absurd (cc h)) (λ h. absurd (cc h)) (λ h. absurd (cc h))

    pub entry_sent : WhereTold p q (λ x y. y ≡ x ++ reply) → writes1 ≡ writes → EntrySent n e reply (Ok (Ok Replied)) t0 t1 before now p q writes writes1
    entry_sent all quiet = record {
      answers = inl refl;
      appended = appended;
      trail = left_by;
      all = λ h. all;
      part = λ h. absurd (cc h);
      grows = told_weaker p q _ _ (λ x y is. (reply, is)) all;
      count = record { later = later; fault = λ h. absurd (cc h); quiet = λ none. quiet };
    }

    pub entry_cut : WhereTold p q (λ x y. GotPart x y reply) → Rose writes writes1 → EntrySent n e reply (Ok (Err WriteFault)) t0 t1 before now p q writes writes1
    entry_cut part failed = record {
      answers = inr refl;
      appended = appended;
      trail = left_by;
      all = λ h. absurd (cc h);
      part = λ h. part;
      grows = told_weaker p q _ _ (λ x y got. (got.sent, got.held)) part;
      count = record { later = later; fault = λ h. failed; quiet = λ none. absurd (none refl) };
    }

  pub entry_unsent : (fault : TrailFault) → AppendsEntry n e t0 t1 (Err fault)
      → TrailLeft t0 t1 before now (IsOk {T = Unit {0}} (Err fault)) (◌≡◌ {A = Result (Unit {0}) TrailFault} (Err fault) (Err trail_fault.DiskFault))
      → (fault ≡ trail_fault.DiskFault) ⊎ (fault ≡ trail_fault.Full) → (◌≡◌ {A = Result (Unit {0}) TrailFault} (Err fault) (Err trail_fault.Full) → t1 ≡ t0)
      → EntrySent n e reply (Err fault) t0 t1 before now p p writes writes
  entry_unsent fault appended left faults untouched = record {
    answers = tt;
    appended = appended;
    trail = trail_appended n e t0 t1 before now _ settled (Err fault) appended left faults untouched
        (λ h. ap Err (same_fault fault trail_fault.DiskFault h)) (λ h. ap Err (same_fault fault trail_fault.DiskFault h));
    all = λ h. absurd (cc h);
    part = λ h. absurd (cc h);
    grows = grows_none p;
    count = count_still writes _ (λ h. cc h);
  }
