-- What a run leaves is a store at rest.
use Rattle.std.proofs.Common.{◌≡◌, ◌⊎◌, inl, inr, ⊎_elim, ℕ, suc, ◌*◌, ◌<◌, List, [], ◌∷◌, ◌++◌, append_assoc, append-nil, slice_index, Option, None, Some, Result, Ok, Err, refl, sym, ap, subst, ◌∙◌, arith}
use Rattle.std.specs.Prelude.{Contains, IfSome, IsOk}
use Rattle.std.specs.Io.KnownBytes.{Consumes}
use Rattle.device_cells.specs.Cells.{other_body}
use Rattle.device_cells.specs.Medium.{Told, Becomes}
use Rattle.device_cells.specs.SpareBytes.{SameCell}
use Rattle.device_cells.specs.WhereTold.{WhereTold}
use Rattle.device_cells.proofs.Media.{told_at, told_from}
use Rattle.line_service.specs.Lines.{lines}
use Rattle.line_service.proofs.CutLines.{lines-append}
use Rattle.line_service.specs.Answering.{OnDisks}
use Rattle.line_service.specs.Devices.{Outside, Span}
use Rattle.line_service.specs.Machine.{Outcome, World, outcome_of_lines}
use Rattle.line_service.specs.Running.{LinesServed}
use Rattle.line_service.specs.Serving.{Leads, Led, ReplyCut, Rests, RunServed, WholeLinesAnswered, WasSelected as Selected}
use Rattle.line_service.specs.Stops.{AnswersLines}
use Rattle.line_service.specs.declared.stops.Stop.{Stop}
use Rattle.cca_machine.specs.Lines.{line_outcome}
use Rattle.cca_machine.specs.Session.{line_step}
use Rattle.cca_machine.specs.State.{State, IsModuleOf, IsStoreOf}
use Rattle.cca_machine.specs.Coprocessor.{cca}
use Rattle.cca_laws.specs.Sealed.{IsAtRest, IsSealed, WasSelected, states_along}
use Rattle.cca_laws.proofs.SealedLaws.{first_along, sealed}

-- ---- the states that lines lead through

-- what comes of lines
abbrev after_lines : State → List ℕ → List (List ℕ) → Outcome State
after_lines s random ls = outcome_of_lines line_step s random ls

first_lines : (s : State) (random : List ℕ) (first others : List (List ℕ)) → Contains (states_along s random (first ++ others)) (after_lines s random first).state
first_lines s random [] others = first_along s random others
first_lines s random (line ∷ first) others =
    let later = first_lines (line_outcome s random line).state (line_outcome s random line).random first others in
    (suc later.0, omega (arith, later.1), later.2)

-- with one more line
next_line : (s : State) (random : List ℕ) (first : List (List ℕ)) (line : List ℕ)
    → (after_lines s random (first ++ line ∷ [])).state ≡ (line_step (after_lines s random first).state (after_lines s random first).random line).state
next_line s random [] line = refl
next_line s random (l ∷ first) line = next_line (line_outcome s random l).state (line_outcome s random l).random first line

consumed_front : (random : List ℕ) (now : Option (List ℕ)) (drawn : List ℕ) → Consumes (Some random) now drawn → (left : List ℕ) × (random ≡ drawn ++ left)
consumed_front random None drawn is = absurd is
consumed_front random (Some left) drawn is = (left, is)

pub where_told : (now : Option (List ℕ)) (P : List ℕ → List ℕ → Type 0) (before : List ℕ) → WhereTold (Some before) now P → (later : List ℕ) × P before later
where_told None P before is = absurd is
where_told (Some later) P before is = (later, is)

module _ (s : State) (random : List ℕ) (ls : List (List ℕ)) where
  abbrev along : List State
  along = states_along s random ls

  first_there : (first others : List (List ℕ)) → ls ≡ first ++ others → Contains along (after_lines s random first).state
  first_there first others lines_are =
      subst (λ x. Contains (states_along s random x) (after_lines s random first).state) (sym lines_are) (first_lines s random first others)

  -- the state that some first lines lead to
  led_there : (first others : List (List ℕ)) → ls ≡ first ++ others → (drawn left : List ℕ) → random ≡ drawn ++ left → (t : State) (sent : List ℕ)
      → ((rest : List ℕ) → after_lines s (drawn ++ rest) first ≡ record { state = t; reply = sent; random = rest }) → Contains along t
  led_there first others lines_are drawn left front t sent runs =
      let there : (after_lines s random first).state ≡ t =
      ap (λ r. (after_lines s r first).state) front ∙ ap (λ (o : Outcome State). o.state) (runs left) in
      subst (Contains along) there (first_there first others lines_are)

  leads_there : (first others : List (List ℕ)) → ls ≡ first ++ others → (t : State) (sent : List ℕ) → Leads cca s (Some random) first t sent → Contains along t
  leads_there first others lines_are t sent leads = led_there first others lines_are leads.drawn leads.front.0 leads.front.1 t sent leads.runs

  -- one more line, after some first lines
  pub next_there : (first others : List (List ℕ)) (line : List ℕ) → ls ≡ (first ++ line ∷ []) ++ others → (drawn more left : List ℕ) → random ≡ (drawn ++ more) ++ left
      → (t next : State) (sent reply : List ℕ)
      → ((rest : List ℕ) → after_lines s (drawn ++ rest) first ≡ record { state = t; reply = sent; random = rest })
      → ((rest : List ℕ) → line_step t (more ++ rest) line ≡ record { state = next; reply = reply; random = rest }) → Contains along next
  next_there first others line lines_are drawn more left front t next sent reply runs steps =
      let all : random ≡ drawn ++ (more ++ left) = front ∙ append_assoc drawn more left in
      let before : after_lines s random first ≡ record { state = t; reply = sent; random = more ++ left } = ap (λ r. after_lines s r first) all ∙ runs (more ++ left) in
      let there : (after_lines s random (first ++ line ∷ [])).state ≡ next =
      next_line s random first line ∙ (ap (λ (o : Outcome State). (line_step o.state o.random line).state) before ∙ ap (λ (o : Outcome State). o.state) (steps left)) in
      subst (Contains along) there (first_there (first ++ line ∷ []) others lines_are)

  -- a body that was selected
  selected_there : (n : ℕ) (bytes : List ℕ) → Selected cca IsStoreOf s (Some random) ls n bytes → WasSelected along n bytes
  selected_there n bytes was = record {
    state = was.state;
    among = leads_there was.first was.others was.lines_are was.state was.sent was.leads;
    content = was.content;
    stands = was.stands;
    is = was.is;
  }

  -- a store that stands for one of the states at last
  pub record IsLast (new : List ℕ) : Type 0 where
    pub last : State
    pub among : Contains along last
    pub stands : IsStoreOf last new

  has_turned : (n : ℕ) (old new : List ℕ) → (slice_index new (1536 * n) < 2) × Selected cca IsStoreOf s (Some random) ls n (other_body new n)
      → SameCell n old new ⊎ ((slice_index new (1536 * n) < 2) × WasSelected along n (other_body new n))
  has_turned n old new turned = inr (turned.0, selected_there n (other_body new n) turned.1)

  at_rest : (old new : List ℕ) → Rests cca IsStoreOf 1024 s (Some random) ls old new → IsLast new → IsAtRest along old new
  at_rest old new rests is = record {
    last = is.last;
    among = is.among;
    stands = is.stands;
    same = rests.same;
    each = λ n within. ⊎_elim (λ (same : SameCell n old new). inl same) (has_turned n old new) (rests.each n within);
  }

-- ---- how a run ended

pub in_store : (s : State) (w : World) → OnDisks cca s w.module_ w.store → Told w.store (IsStoreOf s)
in_store s w disks = subst (λ (i : Option (List ℕ)). IfSome i (IsStoreOf s)) (sym disks.in_store.told) disks.in_store.has

module _ (s : State) (random input : List ℕ) (old new : World) (drawn_from : old.random ≡ Some random) where
  abbrev pub all_along : List State
  all_along = states_along s random (lines input)

  abbrev pub Ends : Type 0
  Ends = Told new.store (IsLast s random (lines input))

  pub stands_last : (last : State) → Contains all_along last → OnDisks cca last new.module_ new.store → Ends
  stands_last last among disks =
      let held = disks.in_store in
      subst (λ (o : Option (List ℕ)). IfSome o (IsLast s random (lines input))) (sym held.told) (record { last = last; among = among; stands = held.has })

  pub front : (drawn : List ℕ) → Consumes old.random new.random drawn → (left : List ℕ) × (random ≡ drawn ++ left)
  front drawn is = consumed_front random new.random drawn (subst (λ (o : Option (List ℕ)). Consumes o new.random drawn) drawn_from is)

  led_last : (first others : List (List ℕ)) (sent : List ℕ) → lines input ≡ first ++ others → Led cca s old.random new first sent → Ends
  led_last first others sent lines_are led =
      let f = front led.drawn led.consumed in
      stands_last led.last (led_there s random (lines input) first others lines_are led.drawn f.0 f.1 led.last sent led.runs) led.stands

  whole_last : (rest : List ℕ) (before now : Option (List ℕ)) → WholeLinesAnswered cca s old.random new input rest before now → Ends
  whole_last rest before now w =
      led_last (lines w.whole) (lines (w.part ++ rest)) w.sent
      (ap lines (w.taken ∙ append_assoc w.whole w.part rest) ∙ lines-append w.whole (w.part ++ rest) w.ends) w.led

  cut_last : (before now : Option (List ℕ)) → ReplyCut cca s old.random new input before now → Ends
  cut_last before now c =
      let f = front (c.leads.drawn ++ c.drawn) c.consumed in
      stands_last c.next
      (next_there s random (lines input) (lines c.whole) (lines c.others) c.line c.lines_are c.leads.drawn c.drawn f.0 f.1
      c.state c.next c.sent c.reply c.leads.runs c.steps)
      c.stands

  -- a store at rest is sealed, where it was before
  pub sealed_by : (before_run : List State) (c : List ℕ) → IsModuleOf s c → Told old.store (IsStoreOf s) → Told old.store (IsSealed before_run)
      → Becomes (Rests cca IsStoreOf 1024 s (Some random) (lines input)) old.store new.store → Ends → Told new.store (IsSealed (before_run ++ all_along))
  sealed_by before_run c stands store was becomes ends =
      told_from new.store.content (IsSealed (before_run ++ all_along)) (λ image is.
      let from = becomes.told image is in
      sealed s before_run c random from.0 image (lines input) stands
      (told_at old.store.content (IsStoreOf s) from.0 from.1 store) (told_at old.store.content (IsSealed before_run) from.0 from.1 was)
      (at_rest s random (lines input) from.0 image from.2 (told_at new.store.content (IsLast s random (lines input)) image is ends)))

  module _ (result : Result (Unit {0}) Stop) (rest before now : Option (List ℕ)) (served : RunServed cca s result old new (Some input) rest before now) where
    ended : AnswersLines result → Ends
    ended (inl ok) =
        let all = where_told rest _ input (served.done (is_done result ok)) in
        led_last (lines input) [] all.1.sent (sym (append-nil (lines input))) all.1.led
      where
        is_done : (r : Result (Unit {0}) Stop) → IsOk r → r ≡ Ok tt
        is_done (Ok done) is = refl
        is_done (Err stop) is = cc is
    ended (inr (inl read)) = let whole = where_told rest _ input (served.stopped (inl read)) in whole_last whole.0 before now whole.1
    ended (inr (inr (inl limit))) = let whole = where_told rest _ input (served.stopped (inr limit)) in whole_last whole.0 before now whole.1
    ended (inr (inr (inr write))) = let cut = where_told rest _ input (served.cut write) in cut_last before now cut.1

    -- and what it leaves is sealed
    sealed_end : (before_run : List State) (c : List ℕ) → IsModuleOf s c → Told old.store (IsStoreOf s) → Told old.store (IsSealed before_run) → AnswersLines result
        → Told new.store (IsSealed (before_run ++ all_along))
    sealed_end before_run c stands store was answers =
        let resting = where_told rest _ input (served.at_rest answers) in
        sealed_by before_run c stands store was
        (subst (λ (o : Option (List ℕ)). Becomes (Rests cca IsStoreOf 1024 s o (lines input)) old.store new.store) drawn_from resting.1.on_store)
        (ended answers)

pub run_sealed : (s : State) (before : List State) (outcome : Result (Unit {0}) Stop) (random input : List ℕ) (o : Span Outside)
    → OnDisks cca s o.old.devices.world.module_ o.old.devices.world.store → LinesServed cca s outcome o → AnswersLines outcome
    → Told o.old.devices.world.store (IsSealed before) → o.old.input ≡ Some input → o.old.devices.world.random ≡ Some random
    → Told o.new.devices.world.store (IsSealed (before ++ states_along s random (lines input)))
run_sealed s before outcome random input o disks served answers was told drawn_from =
    sealed_end s random input o.old.devices.world o.new.devices.world drawn_from outcome o.new.input o.old.output o.new.output
    (subst (λ (i : Option (List ℕ)). RunServed cca s outcome o.old.devices.world o.new.devices.world i o.new.input o.old.output o.new.output) told served.serves)
    before disks.in_module.image disks.in_module.has (in_store s o.old.devices.world disks) was answers
