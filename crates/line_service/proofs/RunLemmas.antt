-- What holds however a run ended.
use Rattle.std.proofs.Common.{◌≡◌, ℕ, ◌+◌, ◌<◌, List, [], ◌∷◌, ◌++◌, length, Option, Result, Ok, Err, refl, ap, sym, ◌∙◌, subst, inl, inr, append_assoc, arith}
use Rattle.std.specs.Prelude.{◌⊎◌, ◌↔◌, IsOk}
use Rattle.std.proofs.lemmas.List.{append-nil}
use Rattle.device_cells.specs.WhereTold.{WhereTold}
use Rattle.device_cells.proofs.WhereToldLemmas.{told_weaker, told_same, told_both}
use Rattle.line_service.specs.Lines.{lines}
use Rattle.line_service.specs.Reading.{input_limit}
use Rattle.line_service.proofs.CutLines.{lines-nil, lines-append}
use Rattle.line_service.specs.Machine.{Machine, World}
use Rattle.line_service.specs.Serving.{Leads, Led, AllAnswered, WholeLinesAnswered, ReplyCut, LineLost, Unopened, PrefixSent, RunServed}
use Rattle.line_service.specs.declared.stops.Stop.{Stop}
use Rattle.line_service.specs.declared.stops.Stop.TheVariants.{ReadFault, WriteFault, ModuleFault, StoreFault, EntropyFault, Damaged, InputLimit}
use Rattle.line_service.proofs.LineLemmas.{front_of}
use Rattle.line_service.proofs.SessionLemmas.{leads_none, runs_push}
use Rattle.line_service.specs.Stops.{AnswersLines, IsOpeningStop, IsFaultless}

-- the run wasn't stopped by a device that failed
pub record NoStop (r : Result (Unit {0}) Stop) : Type 0 where
  pub reads : r ≡ Err ReadFault → ⊥
  pub writes : r ≡ Err WriteFault → ⊥
  pub on_module : r ≡ Err ModuleFault → ⊥
  pub on_store : r ≡ Err StoreFault → ⊥
  pub draws : r ≡ Err EntropyFault → ⊥

module _ (A : Machine) (s : A.State) (random : Option (List ℕ)) where
  pub led_leads : (new : World) (ls : List (List ℕ)) (sent : List ℕ) → (led : Led A s random new ls sent) → Leads A s random ls led.last sent
  led_leads new ls sent led = record { drawn = led.drawn; front = front_of random new.random led.drawn led.consumed; runs = led.runs }

  pub got_all : (p q : Option (List ℕ)) (replies : List ℕ) → WhereTold p q (λ x y. y ≡ x ++ replies)
      → WhereTold p q (λ x y. (sent : List ℕ) × (missing : List ℕ) × (y ≡ x ++ sent) × (replies ≡ sent ++ missing))
  got_all p q replies held = told_weaker p q _ _ (λ x y h. (replies, [], h, sym (append-nil replies))) held

  pub prefix_all : (new : World) (i : List ℕ) (p q : Option (List ℕ)) → AllAnswered A s random new i p q → PrefixSent A s random i p q
  prefix_all new i p q all = record {
    first = lines i;
    others = [];
    lines_are = sym (append-nil (lines i));
    state = all.led.last;
    replies = all.sent;
    leads = led_leads new (lines i) all.sent all.led;
    held = got_all p q all.sent all.held;
  }

  pub prefix_whole : (new : World) (i r : List ℕ) (p q : Option (List ℕ)) → WholeLinesAnswered A s random new i r p q → PrefixSent A s random i p q
  prefix_whole new i r p q w = record {
    first = lines w.whole;
    others = lines (w.part ++ r);
    lines_are = ap lines (w.taken ∙ append_assoc w.whole w.part r) ∙ lines-append w.whole (w.part ++ r) w.ends;
    state = w.led.last;
    replies = w.sent;
    leads = led_leads new (lines w.whole) w.sent w.led;
    held = got_all p q w.sent w.held;
  }

  pub prefix_cut : (new : World) (i : List ℕ) (p q : Option (List ℕ)) → ReplyCut A s random new i p q → PrefixSent A s random i p q
  prefix_cut new i p q c = record {
    first = lines c.whole ++ c.line ∷ [];
    others = lines c.others;
    lines_are = c.lines_are;
    state = c.next;
    replies = c.sent ++ c.reply;
    leads = record {
      drawn = c.leads.drawn ++ c.drawn;
      front = front_of random new.random (c.leads.drawn ++ c.drawn) c.consumed;
      runs = runs_push A s c.state c.next (lines c.whole) c.line c.leads.drawn c.drawn c.sent c.reply c.leads.runs c.steps;
    };
    held = told_weaker p q _ _ (λ x y got. (
      c.sent ++ got.sent,
      got.missing,
      got.held ∙ append_assoc x c.sent got.sent,
      ap (λ bytes. c.sent ++ bytes) got.parts ∙ sym (append_assoc c.sent got.sent got.missing),
    )) c.got;
  }

  pub prefix_lost : (stop : Stop) (new : World) (i : List ℕ) (p q : Option (List ℕ)) → LineLost A stop s random new i p q → PrefixSent A s random i p q
  prefix_lost stop new i p q l = record {
    first = lines l.whole;
    others = l.line ∷ lines l.others;
    lines_are = l.lines_are ∙ append_assoc (lines l.whole) (l.line ∷ []) (lines l.others);
    state = l.state;
    replies = l.sent;
    leads = l.leads;
    held = got_all p q l.sent l.held;
  }

  pub prefix_none : (i : List ℕ) (p q : Option (List ℕ)) → WhereTold p q (λ x y. y ≡ x) → PrefixSent A s random i p q
  prefix_none i p q held = record {
    first = lines [];
    others = lines i;
    lines_are = ap (λ ls. ls ++ lines i) (sym lines-nil);
    state = s;
    replies = [];
    leads = leads_none A s random;
    held = told_weaker p q _ _ (λ x y h. ([], [], h ∙ sym (append-nil x), refl)) held;
  }

module _ (A : Machine) (s : A.State) (old new : World) (a b p q : Option (List ℕ)) where
  pub prefix_stop : (result : Result (Unit {0}) Stop) (stop : Stop)
      → WhereTold a b (λ i r. LineLost A stop s old.random new i p q ⊎ Unopened old new i r p q) → WhereTold a b (λ i r. PrefixSent A s old.random i p q)
  prefix_stop result stop told = told_weaker a b _ _ (λ i r x. by_case i r x) told
    where
      by_case : (i r : List ℕ) → LineLost A stop s old.random new i p q ⊎ Unopened old new i r p q → PrefixSent A s old.random i p q
      by_case i r (inl lost) = prefix_lost A s old.random stop new i p q lost
      by_case i r (inr early) = prefix_none A s old.random i p q early.held

  pub prefix_sent : (result : Result (Unit {0}) Stop) → RunServed A s result old new a b p q → WhereTold a b (λ i r. PrefixSent A s old.random i p q)
  prefix_sent (Ok done) run = told_weaker a b _ _ (λ i r x. prefix_all A s old.random new i p q x) (run.done refl)
  prefix_sent (Err ReadFault) run = told_weaker a b _ _ (λ i r x. prefix_whole A s old.random new i r p q x) (run.stopped (inl refl))
  prefix_sent (Err InputLimit) run = told_weaker a b _ _ (λ i r x. prefix_whole A s old.random new i r p q x) (run.stopped (inr refl))
  prefix_sent (Err WriteFault) run = told_weaker a b _ _ (λ i r x. prefix_cut A s old.random new i p q x) (run.cut refl)
  prefix_sent (Err ModuleFault) run = prefix_stop (Err ModuleFault) ModuleFault (run.lost ModuleFault tt refl)
  prefix_sent (Err StoreFault) run = prefix_stop (Err StoreFault) StoreFault (run.lost StoreFault tt refl)
  prefix_sent (Err EntropyFault) run = prefix_stop (Err EntropyFault) EntropyFault (run.lost EntropyFault tt refl)
  prefix_sent (Err (Damaged device cell)) run = absurd (run.undamaged device cell refl)

  pub too_long : (n m limit : ℕ) → n ≡ m + limit → n < limit → ⊥
  too_long n m limit is short = omega (arith, is, short)

  pub completes : (result : Result (Unit {0}) Stop) → RunServed A s result old new a b p q
      → NoStop result
      → WhereTold a b (λ i r. (result ≡ Err InputLimit) ↔ ((length i ≡ length r + input_limit) × IsFaultless result))
      → WhereTold a b (λ i r. length i < input_limit → result ≡ Ok tt)
  completes (Ok done) run none limit = told_weaker a b _ _ (λ i r h short. refl) limit
  completes (Err ReadFault) run none limit = absurd (none.reads refl)
  completes (Err WriteFault) run none limit = absurd (none.writes refl)
  completes (Err ModuleFault) run none limit = absurd (none.on_module refl)
  completes (Err StoreFault) run none limit = absurd (none.on_store refl)
  completes (Err EntropyFault) run none limit = absurd (none.draws refl)
  completes (Err (Damaged device cell)) run none limit = absurd (run.undamaged device cell refl)
  completes (Err InputLimit) run none limit =
      told_weaker a b _ _ (λ i r told short. absurd (too_long (length i) (length r) input_limit (told.0 refl).0 short)) limit

-- ---- exactly where the input is too long

pub equal_below : (n m limit : ℕ) → n ≡ m + limit → n < m + limit → ⊥
equal_below n m limit is below = omega (arith, is, below)

pub limit_is : (result : Result (Unit {0}) Stop) (a b : Option (List ℕ)) → WhereTold a b (λ i r. result ≡ Err InputLimit → length i ≡ length r + input_limit)
    → WhereTold a b (λ i r. IsOk result → length i < length r + input_limit)
    → WhereTold a b (λ i r. (result ≡ Err InputLimit) ↔ ((length i ≡ length r + input_limit) × IsFaultless result))
limit_is result a b limit short =
    told_weaker a b _ _ (λ i r both. (λ is. (both.0 is, faultless result is), λ all. by_result result i r both.1 all.0 all.1)) (told_both a b _ _ limit short)
  where
    faultless : (result : Result (Unit {0}) Stop) → result ≡ Err InputLimit → IsFaultless result
    faultless result is = subst IsFaultless (sym is) tt

    by_result : (result : Result (Unit {0}) Stop) (i r : List ℕ) → (IsOk result → length i < length r + input_limit) → length i ≡ length r + input_limit → IsFaultless result → result ≡ Err InputLimit
    by_result (Ok done) i r short is ends = absurd (equal_below (length i) (length r) input_limit is (short refl))
    by_result (Err InputLimit) i r short is ends = refl
    by_result (Err ReadFault) i r short is ends = absurd ends
    by_result (Err WriteFault) i r short is ends = absurd ends
    by_result (Err EntropyFault) i r short is ends = absurd ends
    by_result (Err ModuleFault) i r short is ends = absurd ends
    by_result (Err StoreFault) i r short is ends = absurd ends
    by_result (Err (Damaged device cell)) i r short is ends = absurd ends

pub no_limit : (stop : Stop) (a : Option (List ℕ)) → IsOpeningStop stop
    → WhereTold a a (λ i r. ◌≡◌ {A = Result (Unit {0}) Stop} (Err stop) (Err InputLimit) ↔ ((length i ≡ length r + input_limit) × IsFaultless (Err stop)))
no_limit stop a kind = told_same a _ (λ x. (λ h. absurd (never stop kind h), λ all. absurd (faulty stop kind all.1)))
  where
    never : (stop : Stop) → IsOpeningStop stop → ◌≡◌ {A = Result (Unit {0}) Stop} (Err stop) (Err InputLimit) → ⊥
    never stop kind h = let same : stop ≡ InputLimit = cc h in subst IsOpeningStop same kind

    faulty : (stop : Stop) → IsOpeningStop stop → IsFaultless (Err stop) → ⊥
    faulty ModuleFault kind ends = ends
    faulty StoreFault kind ends = ends
    faulty EntropyFault kind ends = ends
    faulty ReadFault kind ends = ends
    faulty WriteFault kind ends = ends
    faulty InputLimit kind ends = kind
    faulty (Damaged device cell) kind ends = ends

-- ---- what doesn't come at opening

pub no_opening_read : (stop : Stop) → IsOpeningStop stop → ◌≡◌ {A = Result (Unit {0}) Stop} (Err stop) (Err ReadFault) → ⊥
no_opening_read stop kind h = let same : stop ≡ ReadFault = cc h in subst IsOpeningStop same kind

pub no_opening_write : (stop : Stop) → IsOpeningStop stop → ◌≡◌ {A = Result (Unit {0}) Stop} (Err stop) (Err WriteFault) → ⊥
no_opening_write stop kind h = let same : stop ≡ WriteFault = cc h in subst IsOpeningStop same kind

pub no_opening_draw : (stop : Stop) → IsOpeningStop stop → ◌≡◌ {A = Result (Unit {0}) Stop} (Err stop) (Err EntropyFault) → ⊥
no_opening_draw stop kind h = let same : stop ≡ EntropyFault = cc h in subst IsOpeningStop same kind

pub no_opening_answer : (stop : Stop) → IsOpeningStop stop → AnswersLines (Err stop) → ⊥
no_opening_answer stop kind (inl ok) = cc ok
no_opening_answer stop kind (inr (inl h)) = no_opening_read stop kind h
no_opening_answer stop kind (inr (inr (inl h))) = let same : stop ≡ InputLimit = cc h in subst IsOpeningStop same kind
no_opening_answer stop kind (inr (inr (inr h))) = no_opening_write stop kind h
