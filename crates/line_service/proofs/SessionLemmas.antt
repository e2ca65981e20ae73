-- How a session goes on from line to line.
use Rattle.std.proofs.Common.{◌≡◌, ℕ, ◌+◌, ◌≤◌, Bool, false, List, [], ◌∷◌, ◌++◌, length, Option, None, Some, Result, Ok, Err, refl, sym, ap, ◌∙◌, subst, inl, inr, append_assoc, arith}
use Rattle.std.specs.Prelude.{◌⊎◌, ◌≢◌, IsTrue}
use Rattle.std.specs.Io.KnownBytes.{Consumes}
use Rattle.std.proofs.KnownBytes.{Consumes-nil, Consumes-trans}
use Rattle.std.proofs.lemmas.List.{append-nil}
use Rattle.device_cells.specs.Medium.{EachImage, IsSettled}
use Rattle.device_cells.specs.WhereTold.{WhereTold}
use Rattle.device_cells.proofs.Media.{goes_on, each_weaker}
use Rattle.device_cells.proofs.WhereToldLemmas.{told_weaker, told_then, told_same, told_both}
use Rattle.line_service.specs.Lines.{newline, lines, NoNewline, EndsLine}
use Rattle.line_service.specs.Reading.{Reading, blank, input_limit, LosesPart}
use Rattle.line_service.proofs.CutLines.{lines-nil, lines-whole, lines-append}
use Rattle.line_service.specs.Machine.{Machine, Outcome, World}
use Rattle.line_service.specs.Sending.{GotPart}
use Rattle.line_service.specs.Stops.{IsLineStop}
use Rattle.line_service.specs.Answering.{Stands, Steps, Around, Turns}
use Rattle.line_service.specs.Serving.{session, Runs, IsFrontOf, Leads, Led, LeadsOne, IsOnTheWay, IsAroundLine, EachPairStands, StandsAround, AnswersLine, CutsReply, LosesLine, LineServed, AllAnswered, WholeLinesAnswered, ReplyCut, LineLost, AtRest}
use Rattle.line_service.specs.declared.serving.Served.{Served}
use Rattle.line_service.specs.declared.serving.Served.TheVariants.{Replied}
use Rattle.line_service.specs.declared.stops.Stop.{Stop}
use Rattle.line_service.specs.declared.stops.Stop.TheVariants.{WriteFault}
use Rattle.line_service.proofs.LineLemmas.{front_of, stays_still}
use Rattle.line_service.proofs.SpareLaws.{at_rest_nothing, at_rest_more}

-- ---- bytes

pub same_lines : (input : List ℕ) → lines input ≡ lines [] ++ lines input
same_lines input = ap (λ ls. ls ++ lines input) (sym lines-nil)

pub no_line : (line rest : List ℕ) → [] ≡ line ++ newline ∷ rest → ⊥
no_line [] rest same = cc
no_line (b ∷ bs) rest same = cc

pub ends_whole : (whole ahead line rest : List ℕ) (ended : Bool) → EndsLine whole ⊎ ((ahead ≡ []) × IsTrue ended)
    → ahead ≡ line ++ newline ∷ rest → EndsLine whole
ends_whole whole ahead line rest ended (inl ends) same = ends
ends_whole whole ahead line rest ended (inr none) same = absurd (no_line line rest (sym none.0 ∙ same))

pub more_lines : (input ahead line rest w whole : List ℕ)
    → lines input ≡ lines w ++ lines ahead → lines ahead ≡ line ∷ lines rest → lines whole ≡ lines w ++ line ∷ []
    → lines input ≡ lines whole ++ lines rest
more_lines input ahead line rest w whole all first more =
    all ∙ (ap (λ ls. lines w ++ ls) first
    ∙ (sym (append_assoc (lines w) (line ∷ []) (lines rest)) ∙ ap (λ ls. ls ++ lines rest) (sym more)))

pub ended_line : (w line : List ℕ) → EndsLine w → NoNewline line → lines (w ++ (line ++ newline ∷ [])) ≡ lines w ++ line ∷ []
ended_line w line ends clean =
    lines-append w (line ++ newline ∷ []) ends
    ∙ ap (λ ls. lines w ++ ls) (lines-whole line [] clean ∙ ap (λ ls. line ∷ ls) lines-nil)

pub last_line : (input w ahead line rest : List ℕ) → input ≡ w ++ ahead → lines input ≡ lines w ++ lines ahead
    → lines ahead ≡ line ∷ lines rest → ahead ≡ line → rest ≡ [] → lines (w ++ line) ≡ lines w ++ line ∷ []
last_line input w ahead line rest taken all first same none =
    ap lines (ap (λ bytes. w ++ bytes) (sym same) ∙ sym taken)
    ∙ (all ∙ ap (λ ls. lines w ++ ls) (first ∙ ap (λ ls. line ∷ ls) (ap lines none ∙ lines-nil)))

pub front_then : (a b : Option (List ℕ)) (d e : List ℕ) → Consumes a b d → IsFrontOf b e → IsFrontOf a (d ++ e)
front_then None b d e first second = tt
front_then (Some x) None d e first second = absurd first
front_then (Some x) (Some y) d e first second =
    (second.0, first ∙ (ap (λ bytes. d ++ bytes) second.1 ∙ sym (append_assoc d e second.0)))

pub held_then : (p q t : Option (List ℕ)) (sent reply : List ℕ) → WhereTold p q (λ x y. y ≡ x ++ sent) → WhereTold q t (λ x y. y ≡ x ++ reply)
    → WhereTold p t (λ x y. y ≡ x ++ (sent ++ reply))
held_then p q t sent reply first second =
    told_then p q t _ _ _ (λ x y z h k. k ∙ (ap (λ bytes. bytes ++ reply) h ∙ append_assoc x sent reply)) first second

-- ---- runs of the machine

module _ (A : Machine) where
  -- one line after an outcome
  abbrev pub onto : List ℕ → Outcome A.State → Outcome A.State
  onto line o =
      let now = A.step o.state o.random line in
      record { state = now.state; reply = o.reply ++ now.reply; random = now.random }

  pub session_push : (ls : List (List ℕ)) (line : List ℕ) (s : A.State) (random : List ℕ) → session A s random (ls ++ line ∷ []) ≡ onto line (session A s random ls)
  session_push [] line s random =
      let o = A.step s random line in
      ap (λ (bytes : List ℕ). record { state = o.state; reply = bytes; random = o.random }) (append-nil o.reply)
  session_push (l ∷ ls) line s random =
      let o = A.step s random l in
      let p = session A o.state o.random ls in
      let n = A.step p.state p.random line in
      ap (λ (q : Outcome A.State). record { state = q.state; reply = o.reply ++ q.reply; random = q.random }) (session_push ls line o.state o.random)
      ∙ ap (λ (bytes : List ℕ). record { state = n.state; reply = bytes; random = n.random }) (sym (append_assoc o.reply p.reply n.reply))

  pub runs_push : (s t u : A.State) (ls : List (List ℕ)) (line d e sent reply : List ℕ) → Runs A s ls d t sent → Steps A t line e u reply
      → Runs A s (ls ++ line ∷ []) (d ++ e) u (sent ++ reply)
  runs_push s t u ls line d e sent reply runs steps = λ rest.
      ap (λ (random : List ℕ). session A s random (ls ++ line ∷ [])) (append_assoc d e rest)
      ∙ (session_push ls line s (d ++ (e ++ rest))
      ∙ (ap (onto line) (runs (e ++ rest))
      ∙ ap (λ (o : Outcome A.State). record { state = o.state; reply = sent ++ o.reply; random = o.random }) (steps rest)))

  pub runs_none : (s : A.State) → Runs A s (lines []) [] s []
  runs_none s = λ rest. ap (session A s rest) lines-nil

  -- a session in its course: the sink got the replies to the whole lines that were taken, the disks stand for the
  -- state after them, and so did each of their images for a state on the way; some bytes are still ahead
  pub record IsServed (s : A.State) (K : A.State → Type 0) (w0 w : World) (input ahead : List ℕ) (ended : Bool) (before now : Option (List ℕ)) : Type 0 where
    pub whole : List ℕ
    pub taken : input ≡ whole ++ ahead
    pub lines_are : lines input ≡ lines whole ++ lines ahead
    pub cut : EndsLine whole ⊎ ((ahead ≡ []) × IsTrue ended)
    pub sent : List ℕ
    pub held : WhereTold before now (λ x y. y ≡ x ++ sent)
    pub led : Led A s w0.random w (lines whole) sent
    pub agrees : K led.last
    pub on_module : EachImage w0.module_ w.module_ (λ c. IsOnTheWay A s w0.random input (λ t. A.InModule t c))
    pub on_store : EachImage w0.store w.store (λ d. IsOnTheWay A s w0.random input (λ t. A.InStore t d))
    pub at_rest : AtRest A s w0.random input w0 w

  pub leads_none : (s : A.State) (random : Option (List ℕ)) → Leads A s random (lines []) s []
  leads_none s random = record { drawn = []; front = none random; runs = runs_none s }
    where
      none : (o : Option (List ℕ)) → IsFrontOf o []
      none None = tt
      none (Some x) = (x, refl)

  pub at_start : (s : A.State) (random : Option (List ℕ)) (input : List ℕ) (P : A.State → Type 0) → P s → IsOnTheWay A s random input P
  at_start s random input P has =
      record { first = lines []; others = lines input; lines_are = same_lines input; state = s; sent = []; leads = leads_none s random; has = inl has }

  pub served_nothing : (s : A.State) (K : A.State → Type 0) (w : World) (input : List ℕ) (ended : Bool) (held : Option (List ℕ)) → Stands A s K w.module_ w.store
      → IsSettled w.module_ → IsSettled w.store → IsServed s K w w input input ended held held
  served_nothing s K w input ended held stands m d =
      let stays = stays_still A s K w stands m d in
      record {
        whole = [];
        taken = refl;
        lines_are = same_lines input;
        cut = inl (inl refl);
        sent = [];
        held = told_same held _ (λ x. sym (append-nil x));
        led = record { last = s; drawn = []; consumed = Consumes-nil w.random; runs = runs_none s; stands = stands.disks };
        agrees = stands.agrees;
        on_module = each_weaker w.module_ w.module_ _ _ stays.on_module (λ c has. at_start s w.random input (λ t. A.InModule t c) has);
        on_store = each_weaker w.store w.store _ _ stays.on_store (λ e has. at_start s w.random input (λ t. A.InStore t e) has);
        at_rest = at_rest_nothing A s w.random input w;
      }

  -- ---- from one line to the next

  module _ (s : A.State) (K K1 : A.State → Type 0) (w0 w w1 : World) (input ahead : List ℕ) (old_ended : Bool) (p q : Option (List ℕ)) (served : IsServed s K w0 w input ahead old_ended p q) where
    abbrev pub leads_now : Leads A s w0.random (lines served.whole) served.led.last served.sent
    leads_now = record { drawn = served.led.drawn; front = front_of w0.random w.random served.led.drawn served.led.consumed; runs = served.led.runs }

    pub leads_more : (line : List ℕ) (next : A.State) → (one : LeadsOne A served.led.last w.random line next)
        → Leads A s w0.random (lines served.whole ++ line ∷ []) next (served.sent ++ one.reply)
    leads_more line next one = record {
      drawn = served.led.drawn ++ one.drawn;
      front = front_then w0.random w.random served.led.drawn one.drawn served.led.consumed one.front;
      runs = runs_push s served.led.last next (lines served.whole) line served.led.drawn one.drawn served.sent one.reply served.led.runs one.steps;
    }

    pub as_before : (P : A.State → Type 0) → P served.led.last → IsOnTheWay A s w0.random input P
    as_before P has = record {
      first = lines served.whole;
      others = lines ahead;
      lines_are = served.lines_are;
      state = served.led.last;
      sent = served.sent;
      leads = leads_now;
      has = inl has;
    }

    pub on_the_way : (P : A.State → Type 0) → IsAroundLine A served.led.last w.random ahead P → IsOnTheWay A s w0.random input P
    on_the_way P (inl has) = as_before P has
    on_the_way P (inr on) = by_case on.3.2
      where
        by_case : Around A served.led.last on.0 on.3.0 P → IsOnTheWay A s w0.random input P
        by_case (inl has) = as_before P has
        by_case (inr (inl has)) = record {
          first = lines served.whole ++ on.0 ∷ [];
          others = lines on.1;
          lines_are = served.lines_are ∙ (ap (λ ls. lines served.whole ++ ls) on.2 ∙ sym (append_assoc (lines served.whole) (on.0 ∷ []) (lines on.1)));
          state = on.3.0;
          sent = served.sent ++ on.3.1.reply;
          leads = leads_more on.0 on.3.0 on.3.1;
          has = inl has;
        }
        by_case (inr (inr between)) = record {
          first = lines served.whole;
          others = lines ahead;
          lines_are = served.lines_are;
          state = served.led.last;
          sent = served.sent;
          leads = leads_now;
          has = inr (on.0, lines on.1, on.2, between);
        }

    pub module_on : EachImage w.module_ w1.module_ (λ c. IsAroundLine A served.led.last w.random ahead (λ t. A.InModule t c))
        → EachImage w0.module_ w1.module_ (λ c. IsOnTheWay A s w0.random input (λ t. A.InModule t c))
    module_on next = goes_on w0.module_ w.module_ w1.module_ _ _ _ served.on_module next (λ c on. on) (λ c on. on_the_way (λ t. A.InModule t c) on)

    pub store_on : EachImage w.store w1.store (λ d. IsAroundLine A served.led.last w.random ahead (λ t. A.InStore t d))
        → EachImage w0.store w1.store (λ d. IsOnTheWay A s w0.random input (λ t. A.InStore t d))
    store_on next = goes_on w0.store w.store w1.store _ _ _ served.on_store next (λ c on. on) (λ c on. on_the_way (λ t. A.InStore t c) on)

    pub rests_on : Turns A w w1 → AtRest A s w0.random input w0 w1
    rests_on turns =
        at_rest_more A s w0.random input (lines served.whole) (lines ahead) served.lines_are served.led.last served.sent leads_now
        w0 w w1 served.led.stands served.at_rest turns

    pub served_more : (rest : List ℕ) (ended : Bool) (u : Option (List ℕ)) → AnswersLine A served.led.last K1 w w1 ahead rest ended q u
        → EachImage w.module_ w1.module_ (λ c. IsAroundLine A served.led.last w.random ahead (λ t. A.InModule t c))
        → EachImage w.store w1.store (λ d. IsAroundLine A served.led.last w.random ahead (λ t. A.InStore t d))
        → Turns A w w1 → IsServed s K1 w0 w1 input rest ended p u
    served_more rest ended u answers mods stores turns = by_end answers.takes.bytes
      where
        with_whole : (whole : List ℕ) → input ≡ whole ++ rest → lines whole ≡ lines served.whole ++ answers.line ∷ []
            → EndsLine whole ⊎ ((rest ≡ []) × IsTrue ended) → IsServed s K1 w0 w1 input rest ended p u
        with_whole whole taken more cut = record {
          whole = whole;
          taken = taken;
          lines_are = more_lines input ahead answers.line rest served.whole whole served.lines_are answers.takes.first more;
          cut = cut;
          sent = served.sent ++ answers.reply;
          held = held_then p q u served.sent answers.reply served.held answers.held;
          led = record {
            last = answers.next;
            drawn = served.led.drawn ++ answers.drawn;
            consumed = Consumes-trans w0.random w.random w1.random served.led.drawn answers.drawn served.led.consumed answers.consumed;
            runs = subst (λ (ls : List (List ℕ)). Runs A s ls (served.led.drawn ++ answers.drawn) answers.next (served.sent ++ answers.reply)) (sym more)
                (runs_push s served.led.last answers.next (lines served.whole) answers.line served.led.drawn answers.drawn served.sent answers.reply served.led.runs answers.steps);
            stands = answers.stands.disks;
          };
          agrees = answers.stands.agrees;
          on_module = module_on mods;
          on_store = store_on stores;
          at_rest = rests_on turns;
        }

        by_end : (ahead ≡ answers.line ++ newline ∷ rest) ⊎ ((ahead ≡ answers.line) × (rest ≡ []) × IsTrue ended) → IsServed s K1 w0 w1 input rest ended p u
        by_end (inl whole_line) =
            let line = answers.line in
            let ends = ends_whole served.whole ahead line rest old_ended served.cut whole_line in
            with_whole (served.whole ++ (line ++ newline ∷ []))
            (served.taken ∙ (ap (λ bytes. served.whole ++ bytes) whole_line
            ∙ (ap (λ bytes. served.whole ++ bytes) (sym (append_assoc line (newline ∷ []) rest))
            ∙ sym (append_assoc served.whole (line ++ newline ∷ []) rest))))
            (ended_line served.whole line ends answers.takes.clean)
            (inl (inr (served.whole ++ line, sym (append_assoc served.whole line (newline ∷ [])))))
        by_end (inr last) =
            let line = answers.line in
            with_whole (served.whole ++ line)
            (served.taken ∙ (ap (λ bytes. served.whole ++ bytes) last.0
            ∙ (sym (append-nil (served.whole ++ line)) ∙ ap (λ bytes. (served.whole ++ line) ++ bytes) (sym last.1))))
            (last_line input served.whole ahead line rest served.taken served.lines_are answers.takes.first last.0 last.1)
            (inr (last.1, last.2))

    pub served_all : ahead ≡ [] → AllAnswered A s w0.random w input p q
    served_all none =
        let same : served.whole ≡ input = sym (served.taken ∙ (ap (λ bytes. served.whole ++ bytes) none ∙ append-nil served.whole)) in
        record { sent = served.sent; held = served.held; led = subst (λ (bytes : List ℕ). Led A s w0.random w (lines bytes) served.sent) same served.led }

    abbrev pub served_whole : (rest : List ℕ) → (IsTrue old_ended → ahead ≢ []) → LosesPart ahead rest → WholeLinesAnswered A s w0.random w input rest p q
    served_whole rest unended loses = record {
      whole = served.whole;
      part = loses.0;
      taken = served.taken ∙ (ap (λ bytes. served.whole ++ bytes) loses.2 ∙ sym (append_assoc served.whole loses.0 rest));
      ends = by_cut served.cut;
      no_line = loses.1;
      sent = served.sent;
      held = served.held;
      led = served.led;
    }
      where
        by_cut : EndsLine served.whole ⊎ ((ahead ≡ []) × IsTrue old_ended) → EndsLine served.whole
        by_cut (inl ends) = ends
        by_cut (inr none) = absurd (unended none.1 none.0)

    pub ahead_lines : (line others : List ℕ) → lines ahead ≡ line ∷ lines others → lines input ≡ (lines served.whole ++ line ∷ []) ++ lines others
    ahead_lines line others first =
        served.lines_are ∙ (ap (λ ls. lines served.whole ++ ls) first ∙ sym (append_assoc (lines served.whole) (line ∷ []) (lines others)))

    abbrev pub served_cut : (rest : List ℕ) (ended : Bool) (u : Option (List ℕ)) → CutsReply A served.led.last K1 w w1 ahead rest ended q u → ReplyCut A s w0.random w1 input p u
    served_cut rest ended u cuts = record {
      whole = served.whole;
      line = cuts.line;
      others = rest;
      lines_are = ahead_lines cuts.line rest cuts.takes.first;
      state = served.led.last;
      sent = served.sent;
      leads = leads_now;
      drawn = cuts.drawn;
      next = cuts.next;
      reply = cuts.reply;
      steps = cuts.steps;
      consumed = Consumes-trans w0.random w.random w1.random served.led.drawn cuts.drawn served.led.consumed cuts.consumed;
      got = told_then p q u _ _ _ (λ x y z h k. subst (λ (bytes : List ℕ). GotPart bytes z cuts.reply) h k) served.held cuts.got;
      stands = cuts.stands.disks;
    }

    abbrev pub served_lost : (stop : Stop) (rest : List ℕ) (ended : Bool) → LosesLine A stop served.led.last w w1 ahead rest ended → LineLost A stop s w0.random w1 input p q
    served_lost stop rest ended loses = record {
      whole = served.whole;
      line = loses.line;
      others = rest;
      lines_are = ahead_lines loses.line rest loses.takes.first;
      state = served.led.last;
      sent = served.sent;
      leads = leads_now;
      held = served.held;
      may_stop = loses.may_stop;
      left = by_case loses.left;
      undrawn = loses.undrawn;
    }
      where
        by_case : EachPairStands A served.led.last w1 ⊎ StandsAround A served.led.last loses.line w.random [] w1
            → EachPairStands A served.led.last w1 ⊎ StandsAround A served.led.last loses.line w0.random served.led.drawn w1
        by_case (inl stays) = inl stays
        by_case (inr moves) = inr (record {
          drawn = moves.drawn;
          next = moves.next;
          reply = moves.reply;
          steps = moves.steps;
          consumed = Consumes-trans w0.random w.random w1.random served.led.drawn moves.drawn served.led.consumed moves.consumed;
          pairs = moves.pairs;
        })

  -- ---- the same where the source tells its bytes

  -- how far a session has come
  abbrev pub HasServed : A.State → (A.State → Type 0) → World → World → Option (List ℕ) → Option (List ℕ) → Option (List ℕ) → Option (List ℕ) → Reading → Type 0
  HasServed s K w0 w a b p q reading = WhereTold a b (λ input rest. IsServed s K w0 w input (reading.pending ++ rest) reading.ended p q)

  pub has_served_nothing : (s : A.State) (K : A.State → Type 0) (w : World) (a p : Option (List ℕ)) (reading : Reading) → reading ≡ blank → Stands A s K w.module_ w.store
      → IsSettled w.module_ → IsSettled w.store → HasServed s K w w a a p p reading
  has_served_nothing s K w a p reading fresh stands m d =
      subst (λ (r : Reading). HasServed s K w w a a p p r) (sym fresh) (told_same a _ (λ x. served_nothing s K w x false p stands m d))

  -- a step that depends on the state in which the session is
  pub step_on : (s : A.State) (K : A.State → Type 0) (w0 w : World) (a b c p q : Option (List ℕ)) (reading : Reading)
      (X : List ℕ → List ℕ → Type 0) (Q : A.State → List ℕ → List ℕ → Type 0) (R : List ℕ → List ℕ → Type 0)
      → ((input mid rest : List ℕ) → (served : IsServed s K w0 w input (reading.pending ++ mid) reading.ended p q) → X mid rest → Q served.led.last mid rest → R input rest)
      → HasServed s K w0 w a b p q reading → WhereTold b c X → ((t : A.State) → Stands A t K w.module_ w.store → WhereTold b c (Q t)) → WhereTold a c R
  step_on s K w0 w None b c p q reading X Q R joined first told second = tt
  step_on s K w0 w (Some x) None c p q reading X Q R joined first told second = absurd first
  step_on s K w0 w (Some x) (Some y) None p q reading X Q R joined first told second = absurd told
  step_on s K w0 w (Some x) (Some y) (Some z) p q reading X Q R joined first told second =
      joined x y z first told (second first.led.last (record { disks = first.led.stands; agrees = first.agrees }))

  -- what one line more leaves
  module _ (s : A.State) (K K1 : A.State → Type 0) (w0 w w1 : World) (a b c p q u : Option (List ℕ)) (old new : Reading) (X : List ℕ → List ℕ → Type 0) (result : Result Served Stop)
      (first : HasServed s K w0 w a b p q old) (told : WhereTold b c X)
      (line : (t : A.State) → Stands A t K w.module_ w.store → LineServed A t K1 result w w1 b c q u old new) where
    pub has_served_more : result ≡ Ok Replied → HasServed s K1 w0 w1 a c p u new
    has_served_more is =
        step_on s K w0 w a b c p q old X _ _
        (λ input mid rest served x next.
        served_more s K K1 w0 w w1 input (old.pending ++ mid) old.ended p q served (new.pending ++ rest) new.ended u next.0 next.1.0 next.1.1
        ((line served.led.last (record { disks = served.led.stands; agrees = served.agrees })).turns (inl is)))
        first told
        (λ t stands. let l = line t stands in told_both b c _ _ (l.replied is) (told_both b c _ _ l.on_module l.on_store))

    pub has_served_cut : result ≡ Err WriteFault → WhereTold a c (λ i r. ReplyCut A s w0.random w1 i p u)
    has_served_cut is =
        step_on s K w0 w a b c p q old X _ _
        (λ input mid rest served x cuts. served_cut s K K1 w0 w w1 input (old.pending ++ mid) old.ended p q served (new.pending ++ rest) new.ended u cuts)
        first told (λ t stands. (line t stands).cut is)

    pub cut_at_rest : result ≡ Err WriteFault → WhereTold a c (λ i r. AtRest A s w0.random i w0 w1)
    cut_at_rest is =
        step_on s K w0 w a b c p q old X _ _
        (λ input mid rest served x turns. rests_on s K K1 w0 w w1 input (old.pending ++ mid) old.ended p q served turns)
        first told (λ t stands. told_weaker b c _ _ (λ i r x. (line t stands).turns (inr is)) told)

    pub has_served_lost : (stop : Stop) → IsLineStop stop → result ≡ Err stop → WhereTold a c (λ i r. LineLost A stop s w0.random w1 i p q)
    has_served_lost stop kind is =
        step_on s K w0 w a b c p q old X _ _
        (λ input mid rest served x loses. served_lost s K K1 w0 w w1 input (old.pending ++ mid) old.ended p q served stop (new.pending ++ rest) new.ended loses)
        first told (λ t stands. (line t stands).lost stop kind is)

    pub module_moments : WhereTold a c (λ i r. EachImage w0.module_ w1.module_ (λ e. w0.module_.images e ⊎ IsOnTheWay A s w0.random i (λ t. A.InModule t e)))
    module_moments =
        step_on s K w0 w a b c p q old X _ _
        (λ input mid rest served x next.
        each_weaker w0.module_ w1.module_ _ _ (module_on s K K1 w0 w w1 input (old.pending ++ mid) old.ended p q served next) (λ e on. inr on))
        first told (λ t stands. (line t stands).on_module)

    pub store_moments : WhereTold a c (λ i r. EachImage w0.store w1.store (λ e. w0.store.images e ⊎ IsOnTheWay A s w0.random i (λ t. A.InStore t e)))
    store_moments =
        step_on s K w0 w a b c p q old X _ _
        (λ input mid rest served x next.
        each_weaker w0.store w1.store _ _ (store_on s K K1 w0 w w1 input (old.pending ++ mid) old.ended p q served next) (λ e on. inr on))
        first told (λ t stands. (line t stands).on_store)

  pub at_rest_now : (s : A.State) (K : A.State → Type 0) (w0 w : World) (a b c p q : Option (List ℕ)) (reading : Reading) (X : List ℕ → List ℕ → Type 0)
      → HasServed s K w0 w a b p q reading → WhereTold b c X → WhereTold a c (λ i r. AtRest A s w0.random i w0 w)
  at_rest_now s K w0 w a b c p q reading X first told = told_then a b c _ _ _ (λ x y z served last. served.at_rest) first told

  pub has_served_all : (s : A.State) (K : A.State → Type 0) (w0 w : World) (a b c p q : Option (List ℕ)) (old new : Reading) → HasServed s K w0 w a b p q old
      → WhereTold b c (λ input rest. (old.pending ++ input ≡ []) × (new.pending ++ rest ≡ [])) → WhereTold a c (λ i r. AllAnswered A s w0.random w i p q)
  has_served_all s K w0 w a b c p q old new first ends =
      told_then a b c _ _ _
      (λ x y z served last. served_all s K K w0 w w x (old.pending ++ y) old.ended p q served last.0)
      first ends

  pub has_served_whole : (s : A.State) (K : A.State → Type 0) (w0 w : World) (a b c p q : Option (List ℕ)) (old : Reading) → HasServed s K w0 w a b p q old
      → WhereTold b c (λ input rest. IsTrue old.ended → old.pending ++ input ≢ [])
      → WhereTold b c (λ input rest. LosesPart (old.pending ++ input) rest) → WhereTold a c (λ i r. WholeLinesAnswered A s w0.random w i r p q)
  has_served_whole s K w0 w a b c p q old first open_ loses =
      told_then a b c _ _ _
      (λ x y z served last. served_whole s K K w0 w w x (old.pending ++ y) old.ended p q served z last.0 last.1)
      first (told_both b c _ _ open_ loses)

-- ---- how many bytes were taken

pub counted_on : (a b c : Option (List ℕ)) (old new : ℕ) → WhereTold a b (λ input rest. old + length rest ≡ length input)
    → WhereTold b c (λ input rest. new + length rest ≡ old + length input) → WhereTold a c (λ input rest. new + length rest ≡ length input)
counted_on a b c old new first second =
    told_then a b c (λ input rest. old + length rest ≡ length input) (λ input rest. new + length rest ≡ old + length input)
    (λ input rest. new + length rest ≡ length input) (λ x y z h k. k ∙ h) first second

pub counted_nothing : (a : Option (List ℕ)) (reading : Reading) → reading ≡ blank → WhereTold a a (λ input rest. reading.taken + length rest ≡ length input)
counted_nothing a reading fresh =
    subst (λ (r : Reading). WhereTold a a (λ input rest. r.taken + length rest ≡ length input)) (sym fresh)
    (told_same a (λ input rest. 0 + length rest ≡ length input) (λ x. omega arith))

pub blank_open : (reading : Reading) → reading ≡ blank → IsTrue reading.ended → ⊥
blank_open reading fresh ended = let not_ended : reading.ended ≡ false = ap (λ (r : Reading). r.ended) fresh in cc

pub blank_within : (reading : Reading) → reading ≡ blank → reading.taken ≤ input_limit
blank_within reading fresh = subst (λ (r : Reading). r.taken ≤ input_limit) (sym fresh) (omega arith)
