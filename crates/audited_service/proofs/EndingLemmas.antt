-- What holds however an audited run ended.
use Rattle.std.proofs.Common.{◌≡◌, ℕ, ◌+◌, ◌≤◌, List, [], ◌∷◌, length, Option, Result, Ok, Err, refl, ap, sym, ◌∙◌, inl, inr, append_assoc}
use Rattle.std.specs.Prelude.{◌⊎◌, IfOk}
use Rattle.std.proofs.lemmas.List.{append-nil}
use Rattle.device_cells.specs.Medium.{Medium, Keeps}
use Rattle.device_cells.specs.WhereTold.{WhereTold}
use Rattle.device_cells.proofs.WhereToldLemmas.{told_weaker}
use Rattle.line_service.specs.Lines.{lines}
use Rattle.line_service.specs.Reading.{input_limit}
use Rattle.audit_trail.specs.declared.entries.Entry.{Entry}
use Rattle.audit_trail.specs.declared.faults.TrailFault.{TrailFault}
use Rattle.audit_trail.specs.declared.faults.TrailFault.TheVariants as trail_fault
use Rattle.line_service.specs.Machine.{Machine, World}
use Rattle.line_service.specs.Devices.{Span, Devices, Outside}
use Rattle.line_service.specs.Running.{NoneFailed, LinesServed, InputTaken}
use Rattle.line_service.specs.Serving.{LineLost, Unopened, PrefixSent, RunServed}
use Rattle.line_service.specs.declared.stops.Stop.{Stop}
use Rattle.line_service.specs.declared.stops.Stop.TheVariants.{ReadFault, InputLimit}
use Rattle.line_service.proofs.RunLemmas.{NoStop, prefix_none, prefix_sent, completes}
use Rattle.audited_service.specs.Answers.{run_part}
use Rattle.audited_service.specs.Noting.{Noted, noting, Recorded, RecordedEither}
use Rattle.audited_service.specs.Recording.{ReplyUnsent, RunRecorded}
use Rattle.audited_service.proofs.PlainLemmas.{run_plain, prefix_plain}
use Rattle.audited_service.proofs.RunLemmas.{run_is}

module _ (A : Machine) (entry : List ℕ → List ℕ → Entry) (s : Noted A.State) (old new : World) (t0 t1 : Medium) (a b p q : Option (List ℕ)) where
  -- all that a run leaves
  run_recorded : (r : Result (Unit {0}) Stop) → RunRecorded A entry s (Ok r) old new t0 t1 a b p q → RunServed (noting A entry) s r old new a b p q
  run_recorded r run = record {
    done = λ h. told_weaker a b _ _ (λ i x all. all.0) (run.done (ap Ok h));
    stopped = λ h. told_weaker a b _ _ (λ i x whole. whole.0) (run.stopped (either h));
    cut = λ h. told_weaker a b _ _ (λ i x cut. cut.0) (run.cut (ap Ok h));
    lost = λ stop kind h. told_weaker a b _ _ (λ i x lost. lost_or_early stop i x lost) (run.lost stop kind (ap Ok h));
    undrawn = λ h. told_weaker a b _ _ (λ i x lost. lost.0) (run.undrawn (ap Ok h));
    undamaged = λ device cell h. run.undamaged device cell (ap Ok h);
    on_module = run.on_module;
    on_store = run.on_store;
    spare = run.spare;
    at_rest = run.at_rest;
  }
    where
      either : (r ≡ Err ReadFault) ⊎ (r ≡ Err InputLimit) → ◌≡◌ {A = Result (Result (Unit {0}) Stop) TrailFault} (Ok r) (Ok (Err ReadFault)) ⊎ ◌≡◌ {A = Result (Result (Unit {0}) Stop) TrailFault} (Ok r) (Ok (Err InputLimit))
      either (inl h) = inl (ap Ok h)
      either (inr h) = inr (ap Ok h)

      lost_or_early : (stop : Stop) (i x : List ℕ) → ((lost : LineLost (noting A entry) stop s old.random new i p q) × Recorded t1 lost.state.entries) ⊎ (Unopened old new i x p q × Keeps t0 t1)
          → LineLost (noting A entry) stop s old.random new i p q ⊎ Unopened old new i x p q
      lost_or_early stop i x (inl lost) = inl lost.0
      lost_or_early stop i x (inr early) = inr early.0

  -- ---- what the sink got

  prefix_unsent : (i : List ℕ) → ReplyUnsent A entry s old.random new i p q → PrefixSent (noting A entry) s old.random i p q
  prefix_unsent i unsent = record {
    first = lines unsent.whole;
    others = unsent.line ∷ lines unsent.others;
    lines_are = unsent.lines_are ∙ append_assoc (lines unsent.whole) (unsent.line ∷ []) (lines unsent.others);
    state = unsent.state;
    replies = unsent.sent;
    leads = unsent.leads;
    held = told_weaker p q _ _ (λ x y h. (unsent.sent, [], h, sym (append-nil unsent.sent))) unsent.held;
  }

  prefix_recorded : (result : Result (Result (Unit {0}) Stop) TrailFault) → RunRecorded A entry s result old new t0 t1 a b p q → WhereTold a b (λ i r. PrefixSent (noting A entry) s old.random i p q)
  prefix_recorded (Ok r) run = prefix_sent (noting A entry) s old new a b p q r (run_recorded r run)
  prefix_recorded (Err trail_fault.Full) run = told_weaker a b _ _ (λ i r unsent. prefix_unsent i unsent.0) (run.full refl)
  prefix_recorded (Err (trail_fault.Damaged cell)) run = told_weaker a b _ _ (λ i r early. prefix_none (noting A entry) s old.random i p q early.0.held) (run.damaged cell refl)
  prefix_recorded (Err trail_fault.DiskFault) run = told_weaker a b _ _ (λ i r x. by_case i r x) (run.failed refl)
    where
      by_case : (i r : List ℕ) → ((unsent : ReplyUnsent A entry s old.random new i p q) × RecordedEither t1 unsent.state.entries unsent.next.entries) ⊎ (Unopened old new i r p q × Keeps t0 t1)
          → PrefixSent (noting A entry) s old.random i p q
      by_case i r (inl unsent) = prefix_unsent i unsent.0
      by_case i r (inr early) = prefix_none (noting A entry) s old.random i p q early.0.held

  pub prefix_left : (result : Result (Result (Unit {0}) Stop) TrailFault) → RunRecorded A entry s result old new t0 t1 a b p q → WhereTold a b (λ i r. PrefixSent A s.state old.random i p q)
  prefix_left result recorded = told_weaker a b _ _ (λ i r prefix. prefix_plain A entry s old.random i p q prefix) (prefix_recorded result recorded)

-- ---- how far the input was taken

-- from devices as they were before they were opened
pub taken_at : (result : Result (Result (Unit {0}) Stop) TrailFault) (o : Span Outside) (d : Devices) → IfOk result (λ r. InputTaken r o)
    → IfOk result (λ r. InputTaken r (record { old = record o.old { devices = d }; new = o.new }))
taken_at (Err fault) o d taken = tt
taken_at (Ok r) o d taken = record { at_end = taken.at_end; limit = taken.limit; within = taken.within }

pub limit_of : (result : Result (Result (Unit {0}) Stop) TrailFault) (o : Span Outside) → IfOk result (λ r. InputTaken r o)
    → WhereTold o.old.input o.new.input (λ i r. length i ≤ length r + input_limit)
    → WhereTold o.old.input o.new.input (λ i r. result ≡ Ok (Err InputLimit) → length i ≡ length r + input_limit)
limit_of (Err fault) o taken within = told_weaker o.old.input o.new.input _ _ (λ i r few h. absurd (cc h)) within
limit_of (Ok r) o taken within = told_weaker o.old.input o.new.input _ _ (λ i x limit h. (limit.0 (run_is _ _ h)).0) taken.limit

-- ---- what a run leaves

pub lines_served : (A : Machine) (entry : List ℕ → List ℕ → Entry) (s : Noted A.State) (o : Span Outside) (t0 t1 : Medium) (result : Result (Result (Unit {0}) Stop) TrailFault)
    → RunRecorded A entry s result o.old.devices.world o.new.devices.world t0 t1 o.old.input o.new.input o.old.output o.new.output
    → (NoneFailed o → NoStop (run_part result)) → IfOk result (λ r. InputTaken r o) → IfOk result (λ r. LinesServed A s.state r o)
lines_served A entry s o t0 t1 (Err fault) recorded still taken = tt
lines_served A entry s o t0 t1 (Ok r) recorded still taken =
    let old = o.old.devices.world in
    let new = o.new.devices.world in
    let noted_run = run_recorded A entry s old new t0 t1 o.old.input o.new.input o.old.output o.new.output r recorded in
    let run : RunServed A s.state r old new o.old.input o.new.input o.old.output o.new.output = run_plain A entry s r old new o.old.input o.new.input o.old.output o.new.output noted_run in
    record {
      serves = run;
      prefix = prefix_sent A s.state old new o.old.input o.new.input o.old.output o.new.output r run;
      complete = λ none. completes A s.state old new o.old.input o.new.input o.old.output o.new.output r run (still none) taken.limit;
    }
