-- What an audited run leaves is a store at rest too.
use Rattle.std.proofs.Common.{◌≡◌, ◌⊎◌, inl, inr, ℕ, ◌*◌, ◌<◌, List, ◌++◌, slice_index, Option, Some, Result, Ok, Err, refl, sym, ap, subst, ◌∙◌}
use Rattle.device_cells.specs.Cells.{other_body}
use Rattle.device_cells.specs.Medium.{Medium, Told, Becomes, Keeps}
use Rattle.device_cells.specs.SpareBytes.{SameCell}
use Rattle.device_cells.proofs.Media.{becomes_weaker}
use Rattle.line_service.specs.Lines.{lines}
use Rattle.audited_service.specs.LineEntries.{entry_of}
use Rattle.audit_trail.specs.declared.entries.Entry.{Entry}
use Rattle.audit_trail.specs.declared.faults.TrailFault.{TrailFault}
use Rattle.audit_trail.specs.declared.faults.TrailFault.TheVariants.{DiskFault, Full, Damaged}
use Rattle.audited_service.specs.Answers.{run_part}
use Rattle.audited_service.specs.Auditing.{LinesRecorded}
use Rattle.audited_service.specs.Noting.{Noted, RecordedEither, noted, noting}
use Rattle.audited_service.specs.Recording.{ReplyUnsent, RunRecorded}
use Rattle.audited_service.proofs.NotingLemmas.{notes_lines, off_disks}
use Rattle.line_service.specs.Answering.{OnDisks, Steps}
use Rattle.line_service.specs.Devices.{Outside, Span}
use Rattle.line_service.specs.Machine.{Machine, Outcome, World}
use Rattle.line_service.specs.Serving.{Rests, Runs, Unopened, WasSelected, session}
use Rattle.line_service.specs.Stops.{AnswersLines}
use Rattle.line_service.specs.declared.stops.Stop.{Stop}
use Rattle.cca_machine.specs.Session.{line_step}
use Rattle.cca_machine.specs.State.{State, IsStoreOf}
use Rattle.cca_machine.specs.Coprocessor.{cca}
use Rattle.cca_laws.specs.Sealed.{IsSealed, states_along}
use Rattle.cca_laws.proofs.RunLaws.{Ends, front, in_store, next_there, run_sealed, sealed_by, stands_last, where_told}
use Rattle.cca_laws.proofs.SealedLaws.{first_along}

-- the coprocessor, with the entries of its lines noted
abbrev noting_cca : Machine
noting_cca = noting cca entry_of

-- ---- what it does with the entries noted, it does

outcome_is : (o : Outcome State) (state : State) (reply random : List ℕ) → o.state ≡ state → o.reply ≡ reply → o.random ≡ random
    → o ≡ record { state = state; reply = reply; random = random }
outcome_is o state reply random one two three =
    ap (λ (x : State). record { state = x; reply = o.reply; random = o.random }) one
    ∙ (ap (λ (x : List ℕ). record { state = state; reply = x; random = o.random }) two
    ∙ ap (λ (x : List ℕ). record { state = state; reply = reply; random = x }) three)

steps_plain : (s next : Noted State) (line drawn reply : List ℕ) → Steps noting_cca s line drawn next reply → Steps cca s.state line drawn next.state reply
steps_plain s next line drawn reply steps = λ rest.
    outcome_is (line_step s.state (drawn ++ rest) line) next.state reply rest
    (ap (λ (o : Outcome (Noted State)). o.state.state) (steps rest))
    (ap (λ (o : Outcome (Noted State)). o.reply) (steps rest))
    (ap (λ (o : Outcome (Noted State)). o.random) (steps rest))

runs_plain : (s t : Noted State) (ls : List (List ℕ)) (drawn sent : List ℕ) → Runs noting_cca s ls drawn t sent → Runs cca s.state ls drawn t.state sent
runs_plain s t ls drawn sent runs = λ rest.
    let notes = notes_lines cca entry_of ls s.state s.entries (drawn ++ rest) in
    outcome_is (session cca s.state (drawn ++ rest) ls) t.state sent rest
    (sym notes.state ∙ ap (λ (o : Outcome (Noted State)). o.state.state) (runs rest))
    (sym notes.reply ∙ ap (λ (o : Outcome (Noted State)). o.reply) (runs rest))
    (sym notes.random_left ∙ ap (λ (o : Outcome (Noted State)). o.random) (runs rest))

module _ (s : Noted State) (random : Option (List ℕ)) (ls : List (List ℕ)) where
  was_plain : (n : ℕ) (bytes : List ℕ) → WasSelected noting_cca (λ t. IsStoreOf t.state) s random ls n bytes → WasSelected cca IsStoreOf s.state random ls n bytes
  was_plain n bytes was = record {
    first = was.first;
    others = was.others;
    lines_are = was.lines_are;
    state = was.state.state;
    sent = was.sent;
    leads = record {
      drawn = was.leads.drawn;
      front = was.leads.front;
      runs = runs_plain s was.state was.first was.leads.drawn was.sent was.leads.runs;
    };
    content = was.content;
    stands = was.stands;
    is = was.is;
  }

  rests_plain : (old new : List ℕ) → Rests noting_cca (λ t. IsStoreOf t.state) 1024 s random ls old new → Rests cca IsStoreOf 1024 s.state random ls old new
  rests_plain old new rests = record { same = rests.same; each = λ n below. by_case n (rests.each n below) }
    where
      by_case : (n : ℕ) → SameCell n old new ⊎ ((slice_index new (1536 * n) < 2) × WasSelected noting_cca (λ t. IsStoreOf t.state) s random ls n (other_body new n))
          → SameCell n old new ⊎ ((slice_index new (1536 * n) < 2) × WasSelected cca IsStoreOf s.state random ls n (other_body new n))
      by_case n (inl same) = inl same
      by_case n (inr turned) = inr (turned.0, was_plain n (other_body new n) turned.1)

-- ---- where the trail ended it

module _ (s : Noted State) (random input : List ℕ) (old new : World) (drawn_from : old.random ≡ Some random) (disks : OnDisks cca s.state old.module_ old.store) where
  abbrev EndsSo : Type 0
  EndsSo = Ends s.state random input old new drawn_from

  -- the reply to a line wasn't sent
  unsent_last : (before now : Option (List ℕ)) → ReplyUnsent cca entry_of s old.random new input before now → EndsSo
  unsent_last before now u =
      let f = front s.state random input old new drawn_from (u.leads.drawn ++ u.drawn) u.consumed in
      stands_last s.state random input old new drawn_from u.next.state
      (next_there s.state random (lines input) (lines u.whole) (lines u.others) u.line u.lines_are u.leads.drawn u.drawn f.0 f.1
      u.state.state u.next.state u.sent u.reply
      (runs_plain s u.state (lines u.whole) u.leads.drawn u.sent u.leads.runs)
      (steps_plain u.state u.next u.line u.drawn u.reply u.steps))
      (off_disks cca entry_of u.next new.module_ new.store u.stands)

  -- no line was taken
  unopened_last : (rest : List ℕ) (before now : Option (List ℕ)) → Unopened old new input rest before now → EndsSo
  unopened_last rest before now early =
      stands_last s.state random input old new drawn_from s.state (first_along s.state random (lines input)) (record {
        in_module = record { image = disks.in_module.image; told = early.on_module.content ∙ disks.in_module.told; has = disks.in_module.has };
        in_store = record { image = disks.in_store.image; told = early.on_store.content ∙ disks.in_store.told; has = disks.in_store.has };
      })

  module _ (t0 t1 : Medium) (rest before now : Option (List ℕ)) (fault : TrailFault)
      (recorded : RunRecorded cca entry_of s (Err fault) old new t0 t1 (Some input) rest before now) where
    failed_last : (r : List ℕ)
        → ((unsent : ReplyUnsent cca entry_of s old.random new input before now) × RecordedEither t1 unsent.state.entries unsent.next.entries)
        ⊎ (Unopened old new input r before now × Keeps t0 t1)
        → EndsSo
    failed_last r (inl unsent) = unsent_last before now unsent.0
    failed_last r (inr early) = unopened_last r before now early.0

    ended : (f : TrailFault) → fault ≡ f → EndsSo
    ended Full is = let all = where_told rest _ input (recorded.full (ap (λ (x : TrailFault). Err x) is)) in unsent_last before now all.1.0
    ended DiskFault is =
        let all = where_told rest _ input (recorded.failed (ap (λ (x : TrailFault). Err x) is)) in failed_last all.0 all.1
    ended (Damaged cell) is =
        let all = where_told rest _ input (recorded.damaged cell (ap (λ (x : TrailFault). Err x) is)) in unopened_last all.0 before now all.1.0

    sealed_end : (before_run : List State) → Told old.store (IsSealed before_run) → Told new.store (IsSealed (before_run ++ states_along s.state random (lines input)))
    sealed_end before_run was =
        let resting = where_told rest _ input (recorded.at_rest (inl refl)) in
        sealed_by s.state random input old new drawn_from before_run disks.in_module.image disks.in_module.has (in_store s.state old disks) was
        (subst (λ (o : Option (List ℕ)). Becomes (Rests cca IsStoreOf 1024 s.state o (lines input)) old.store new.store) drawn_from
        (becomes_weaker old.store new.store _ _ resting.1.on_store (rests_plain s old.random (lines input))))
        (ended fault refl)

-- ---- however it ended

pub audited_sealed : (s : State) (es : List Entry) (before : List State) (outcome : Result (Result (Unit {0}) Stop) TrailFault) (random input : List ℕ) (o : Span Outside)
    (t0 t1 : Medium) (f0 f1 : ℕ) → OnDisks cca s o.old.devices.world.module_ o.old.devices.world.store → LinesRecorded cca entry_of s es outcome o t0 t1 f0 f1
    → AnswersLines (run_part outcome) → Told o.old.devices.world.store (IsSealed before) → o.old.input ≡ Some input → o.old.devices.world.random ≡ Some random
    → Told o.new.devices.world.store (IsSealed (before ++ states_along s random (lines input)))
audited_sealed s es before (Ok r) random input o t0 t1 f0 f1 disks recorded answers was told drawn_from =
    run_sealed s before r random input o disks recorded.run answers was told drawn_from
audited_sealed s es before (Err fault) random input o t0 t1 f0 f1 disks recorded answers was told drawn_from =
    sealed_end (noted s es) random input o.old.devices.world o.new.devices.world drawn_from disks t0 t1 o.new.input o.old.output o.new.output fault
    (subst (λ (i : Option (List ℕ)). RunRecorded cca entry_of (noted s es) (Err fault) o.old.devices.world o.new.devices.world t0 t1 i o.new.input o.old.output o.new.output) told
    recorded.recorded)
    before was
