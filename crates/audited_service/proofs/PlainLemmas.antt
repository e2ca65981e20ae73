-- What a machine leaves that notes entries, the machine leaves.
use Rattle.std.proofs.Common.{◌≡◌, ◌<◌, ◌*◌, ℕ, List, ◌∷◌, ◌++◌, Option, Result, sym, ap, ◌∙◌, inl, inr}
use Rattle.std.specs.Prelude.{◌⊎◌, slice_index}
use Rattle.device_cells.proofs.Media.{each_weaker, becomes_weaker}
use Rattle.device_cells.proofs.WhereToldLemmas.{told_weaker}
use Rattle.device_cells.specs.Cells.{other_body}
use Rattle.device_cells.specs.SpareBytes.{SameCell}
use Rattle.audit_trail.specs.declared.entries.Entry.{Entry}
use Rattle.line_service.specs.Machine.{Machine, Outcome, World}
use Rattle.line_service.specs.Answering.{Steps, Around, Both}
use Rattle.line_service.specs.Serving.{session, Runs, Leads, Led, IsOnTheWay, EachPairStands, StandsAround, AllAnswered, WholeLinesAnswered, ReplyCut, LineLost, Unopened, PrefixSent, WasSelected, Rests, AtRest, RunServed}
use Rattle.line_service.specs.declared.stops.Stop.{Stop}
use Rattle.audited_service.specs.Noting.{Noted, noting}
use Rattle.audited_service.proofs.NotingLemmas.{notes_lines, off_disks}

outcome_is : {S : Type 0} (o : Outcome S) (state : S) (reply random : List ℕ) → o.state ≡ state → o.reply ≡ reply → o.random ≡ random
    → o ≡ record { state = state; reply = reply; random = random }
outcome_is {S} o state reply random one two three =
    ap (λ (x : S). record { state = x; reply = o.reply; random = o.random }) one
    ∙ (ap (λ (x : List ℕ). record { state = state; reply = x; random = o.random }) two
    ∙ ap (λ (x : List ℕ). record { state = state; reply = reply; random = x }) three)

module _ (A : Machine) (entry : List ℕ → List ℕ → Entry) where
  steps_plain : (s next : Noted A.State) (line drawn reply : List ℕ) → Steps (noting A entry) s line drawn next reply → Steps A s.state line drawn next.state reply
  steps_plain s next line drawn reply steps = λ rest.
      outcome_is (A.step s.state (drawn ++ rest) line) next.state reply rest
      (ap (λ (o : Outcome (Noted A.State)). o.state.state) (steps rest))
      (ap (λ (o : Outcome (Noted A.State)). o.reply) (steps rest))
      (ap (λ (o : Outcome (Noted A.State)). o.random) (steps rest))

  runs_plain : (s t : Noted A.State) (ls : List (List ℕ)) (drawn sent : List ℕ) → Runs (noting A entry) s ls drawn t sent → Runs A s.state ls drawn t.state sent
  runs_plain s t ls drawn sent runs = λ rest.
      let notes = notes_lines A entry ls s.state s.entries (drawn ++ rest) in
      outcome_is (session A s.state (drawn ++ rest) ls) t.state sent rest
      (sym notes.state ∙ ap (λ (o : Outcome (Noted A.State)). o.state.state) (runs rest))
      (sym notes.reply ∙ ap (λ (o : Outcome (Noted A.State)). o.reply) (runs rest))
      (sym notes.random_left ∙ ap (λ (o : Outcome (Noted A.State)). o.random) (runs rest))

  around_plain : (s next : Noted A.State) (line : List ℕ) (P : A.State → Type 0) → Around (noting A entry) s line next (λ t. P t.state) → Around A s.state line next.state P
  around_plain s next line P (inl has) = inl has
  around_plain s next line P (inr (inl has)) = inr (inl has)
  around_plain s next line P (inr (inr between)) = inr (inr (between.0.state, between.1.0, between.2))

  module _ (s : Noted A.State) (random : Option (List ℕ)) where
    abbrev leads_plain : (ls : List (List ℕ)) (t : Noted A.State) (sent : List ℕ) → Leads (noting A entry) s random ls t sent → Leads A s.state random ls t.state sent
    leads_plain ls t sent leads = record { drawn = leads.drawn; front = leads.front; runs = runs_plain s t ls leads.drawn sent leads.runs }

    led_plain : (new : World) (ls : List (List ℕ)) (sent : List ℕ) → Led (noting A entry) s random new ls sent → Led A s.state random new ls sent
    led_plain new ls sent led = record {
      last = led.last.state;
      drawn = led.drawn;
      consumed = led.consumed;
      runs = runs_plain s led.last ls led.drawn sent led.runs;
      stands = off_disks A entry led.last new.module_ new.store led.stands;
    }

    on_the_way_plain : (input : List ℕ) (P : A.State → Type 0) → IsOnTheWay (noting A entry) s random input (λ t. P t.state) → IsOnTheWay A s.state random input P
    on_the_way_plain input P way = record {
      first = way.first;
      others = way.others;
      lines_are = way.lines_are;
      state = way.state.state;
      sent = way.sent;
      leads = leads_plain way.first way.state way.sent way.leads;
      has = by_case way.has;
    }
      where
        by_case : P way.state.state ⊎ ((line : List ℕ) × (more : List (List ℕ)) × (way.others ≡ line ∷ more) × ((t : Noted A.State) × (noting A entry).Between way.state line t × P t.state))
            → P way.state.state ⊎ ((line : List ℕ) × (more : List (List ℕ)) × (way.others ≡ line ∷ more) × ((t : A.State) × A.Between way.state.state line t × P t))
        by_case (inl has) = inl has
        by_case (inr between) = inr (between.0, between.1, between.2, (between.3.0.state, between.3.1.0, between.3.2))

    all_plain : (new : World) (input : List ℕ) (before now : Option (List ℕ)) → AllAnswered (noting A entry) s random new input before now → AllAnswered A s.state random new input before now
    all_plain new input before now all = record { sent = all.sent; held = all.held; led = led_plain new _ all.sent all.led }

    whole_plain : (new : World) (input rest : List ℕ) (before now : Option (List ℕ)) → WholeLinesAnswered (noting A entry) s random new input rest before now
        → WholeLinesAnswered A s.state random new input rest before now
    whole_plain new input rest before now w = record {
      whole = w.whole;
      part = w.part;
      taken = w.taken;
      ends = w.ends;
      no_line = w.no_line;
      sent = w.sent;
      held = w.held;
      led = led_plain new _ w.sent w.led;
    }

    cut_plain : (new : World) (input : List ℕ) (before now : Option (List ℕ)) → ReplyCut (noting A entry) s random new input before now → ReplyCut A s.state random new input before now
    cut_plain new input before now cut = record {
      whole = cut.whole;
      line = cut.line;
      others = cut.others;
      lines_are = cut.lines_are;
      state = cut.state.state;
      sent = cut.sent;
      leads = leads_plain _ cut.state cut.sent cut.leads;
      drawn = cut.drawn;
      next = cut.next.state;
      reply = cut.reply;
      steps = steps_plain cut.state cut.next cut.line cut.drawn cut.reply cut.steps;
      consumed = cut.consumed;
      got = cut.got;
      stands = off_disks A entry cut.next new.module_ new.store cut.stands;
    }

    lost_plain : (stop : Stop) (new : World) (input : List ℕ) (before now : Option (List ℕ)) → LineLost (noting A entry) stop s random new input before now → LineLost A stop s.state random new input before now
    lost_plain stop new input before now lost = record {
      whole = lost.whole;
      line = lost.line;
      others = lost.others;
      lines_are = lost.lines_are;
      state = lost.state.state;
      sent = lost.sent;
      leads = leads_plain _ lost.state lost.sent lost.leads;
      held = lost.held;
      may_stop = lost.may_stop;
      left = by_case lost.left;
      undrawn = lost.undrawn;
    }
      where
        by_case : EachPairStands (noting A entry) lost.state new ⊎ StandsAround (noting A entry) lost.state lost.line random lost.leads.drawn new
            → EachPairStands A lost.state.state new ⊎ StandsAround A lost.state.state lost.line random lost.leads.drawn new
        by_case (inl stays) = inl stays
        by_case (inr moves) = inr (record {
          drawn = moves.drawn;
          next = moves.next.state;
          reply = moves.reply;
          steps = steps_plain lost.state moves.next lost.line moves.drawn moves.reply moves.steps;
          consumed = moves.consumed;
          pairs = λ c d left right. around_plain lost.state moves.next lost.line (Both A c d) (moves.pairs c d left right);
        })

    pub prefix_plain : (input : List ℕ) (before now : Option (List ℕ)) → PrefixSent (noting A entry) s random input before now → PrefixSent A s.state random input before now
    prefix_plain input before now prefix = record {
      first = prefix.first;
      others = prefix.others;
      lines_are = prefix.lines_are;
      state = prefix.state.state;
      replies = prefix.replies;
      leads = leads_plain prefix.first prefix.state prefix.replies prefix.leads;
      held = prefix.held;
    }

    -- ---- disks at rest

    module _ (In : A.State → List ℕ → Type 0) (cells : ℕ) (ls : List (List ℕ)) where
      was_plain : (n : ℕ) (bytes : List ℕ) → WasSelected (noting A entry) (λ t. In t.state) s random ls n bytes → WasSelected A In s.state random ls n bytes
      was_plain n bytes was = record {
        first = was.first;
        others = was.others;
        lines_are = was.lines_are;
        state = was.state.state;
        sent = was.sent;
        leads = leads_plain was.first was.state was.sent was.leads;
        content = was.content;
        stands = was.stands;
        is = was.is;
      }

      rests_plain : (old new : List ℕ) → Rests (noting A entry) (λ t. In t.state) cells s random ls old new → Rests A In cells s.state random ls old new
      rests_plain old new rests = record { same = rests.same; each = λ n below. by_case n (rests.each n below) }
        where
          by_case : (n : ℕ) → SameCell n old new ⊎ ((slice_index new (1536 * n) < 2) × WasSelected (noting A entry) (λ t. In t.state) s random ls n (other_body new n))
              → SameCell n old new ⊎ ((slice_index new (1536 * n) < 2) × WasSelected A In s.state random ls n (other_body new n))
          by_case n (inl same) = inl same
          by_case n (inr turned) = inr (turned.0, was_plain n (other_body new n) turned.1)

    rest_plain : (input : List ℕ) (old new : World) → AtRest (noting A entry) s random input old new → AtRest A s.state random input old new
    rest_plain input old new rest = record {
      on_module = becomes_weaker old.module_ new.module_ _ _ rest.on_module (rests_plain A.InModule A.module_cells _);
      on_store = becomes_weaker old.store new.store _ _ rest.on_store (rests_plain A.InStore A.store_cells _);
    }

  -- ---- a run

  pub run_plain : (s : Noted A.State) (r : Result (Unit {0}) Stop) (old new : World) (a b p q : Option (List ℕ)) → RunServed (noting A entry) s r old new a b p q → RunServed A s.state r old new a b p q
  run_plain s r old new a b p q run = record {
    done = λ h. told_weaker a b _ _ (λ i x all. all_plain s old.random new i p q all) (run.done h);
    stopped = λ h. told_weaker a b _ _ (λ i x whole. whole_plain s old.random new i x p q whole) (run.stopped h);
    cut = λ h. told_weaker a b _ _ (λ i x cut. cut_plain s old.random new i p q cut) (run.cut h);
    lost = λ stop kind h. told_weaker a b _ _ (λ i x lost. by_case stop i x lost) (run.lost stop kind h);
    undrawn = λ h. told_weaker a b _ _ (λ i x lost. lost_plain s old.random _ new i p q lost) (run.undrawn h);
    undamaged = run.undamaged;
    on_module = told_weaker a b _ _ (λ i x each. each_weaker old.module_ new.module_ _ _ each (λ c on. on_way i (λ t. A.InModule t c) (old.module_.images c) on)) run.on_module;
    on_store = told_weaker a b _ _ (λ i x each. each_weaker old.store new.store _ _ each (λ c on. on_way i (λ t. A.InStore t c) (old.store.images c) on)) run.on_store;
    spare = run.spare;
    at_rest = λ answers. told_weaker a b _ _ (λ i x rest. rest_plain s old.random i old new rest) (run.at_rest answers);
  }
    where
      by_case : (stop : Stop) (i x : List ℕ) → LineLost (noting A entry) stop s old.random new i p q ⊎ Unopened old new i x p q → LineLost A stop s.state old.random new i p q ⊎ Unopened old new i x p q
      by_case stop i x (inl lost) = inl (lost_plain s old.random stop new i p q lost)
      by_case stop i x (inr early) = inr early

      on_way : (i : List ℕ) (P : A.State → Type 0) (Image : Type 0) → Image ⊎ IsOnTheWay (noting A entry) s old.random i (λ t. P t.state) → Image ⊎ IsOnTheWay A s.state old.random i P
      on_way i P Image (inl image) = inl image
      on_way i P Image (inr on) = inr (on_the_way_plain s old.random i P on)
