-- How a run goes on from line to line, and what each exit leaves.
use Rattle.std.proofs.Common.{◌≡◌, ℕ, Bool, List, [], ◌++◌, Option, None, Some, Result, Ok, Err, sym, ap, ◌∙◌, subst, inr}
use Rattle.std.specs.Prelude.{◌⊎◌, ◌≢◌, IsTrue, OnOk}
use Rattle.std.proofs.KnownBytes.{Consumes-trans}
use Rattle.std.proofs.lemmas.List.{append-nil}
use Rattle.device_cells.specs.Medium.{Medium, EachImage, IsSettled, Told}
use Rattle.device_cells.specs.WhereTold.{WhereTold}
use Rattle.device_cells.proofs.Media.{goes_on, each_weaker}
use Rattle.device_cells.proofs.WhereToldLemmas.{told_then, told_same, told_both, told_weaker}
use Rattle.line_service.specs.Reading.{Reading, LosesPart}
use Rattle.audit_trail.specs.TrailStands.{IsTrail}
use Rattle.audit_trail.specs.declared.entries.Entry.{Entry}
use Rattle.audit_trail.specs.declared.faults.TrailFault.{TrailFault}
use Rattle.line_service.specs.Machine.{Machine, World}
use Rattle.line_service.specs.Answering.{Stands, Turns}
use Rattle.line_service.specs.Stops.{IsLineStop}
use Rattle.line_service.specs.Serving.{IsOnTheWay, IsAroundLine, CutsReply, LosesLine, LineServed, AllAnswered, WholeLinesAnswered, ReplyCut, LineLost, AtRest}
use Rattle.line_service.specs.declared.serving.Served.{Served}
use Rattle.line_service.specs.declared.stops.Stop.{Stop}
use Rattle.line_service.specs.declared.stops.Stop.TheVariants.{WriteFault}
use Rattle.line_service.proofs.SessionLemmas.{IsServed, HasServed, leads_now, on_the_way, ahead_lines, at_start, step_on, module_on, store_on, rests_on, served_whole, served_cut, served_lost}
use Rattle.audited_service.specs.Noting.{Noted, noting, Recorded}
use Rattle.audited_service.specs.Recording.{ReplyUnsent}
use Rattle.audited_service.specs.EachLine.{Agrees, LineUnsent, RecordedBy}
use Rattle.audited_service.proofs.RecordLemmas.{recorded_now, trail_still}

module _ (A : Machine) (entry : List ℕ → List ℕ → Entry) (s : Noted A.State) where
  -- each image of the trail since the start
  abbrev pub TrailOn : Option (List ℕ) → List ℕ → Medium → Medium → Type 0
  TrailOn random input t0 t1 = EachImage t0 t1 (λ c. IsOnTheWay (noting A entry) s random input (λ u. IsTrail c u.entries))

  pub trail_at_start : (random a : Option (List ℕ)) (t : Medium) → IsSettled t → Told t (λ c. IsTrail c s.entries) → WhereTold a a (λ i r. TrailOn random i t t)
  trail_at_start random a t settled told =
      told_same a _ (λ x. each_weaker t t (λ c. IsTrail c s.entries) _ (trail_still t s.entries settled told)
      (λ c has. at_start (noting A entry) s random x (λ u. IsTrail c u.entries) has))

  module _ (k k1 : A.State → Type 0) (t0 t t1 : Medium) (w0 w w1 : World) (settled : IsSettled t) where
    abbrev K : Noted A.State → Type 0
    K = Agrees k t

    abbrev K1 : Noted A.State → Type 0
    K1 = Agrees k1 t1

    -- ---- from one line to the next

    trail_on : (input ahead : List ℕ) (ended : Bool) (p q : Option (List ℕ)) (served : IsServed (noting A entry) s K w0 w input ahead ended p q)
        → TrailOn w0.random input t0 t → EachImage t t1 (λ c. IsAroundLine (noting A entry) served.led.last w.random ahead (λ u. IsTrail c u.entries)) → TrailOn w0.random input t0 t1
    trail_on input ahead ended p q served first next =
        goes_on t0 t t1 _ _ _ first next (λ c on. on)
        (λ c on. on_the_way (noting A entry) s K K1 w0 w w1 input ahead ended p q served (λ u. IsTrail c u.entries) on)

    pub trail_more : (a b c p q : Option (List ℕ)) (old : Reading) (X : List ℕ → List ℕ → Type 0) → HasServed (noting A entry) s K w0 w a b p q old → WhereTold a b (λ i r. TrailOn w0.random i t0 t) → WhereTold b c X
        → ((u : Noted A.State) → Stands (noting A entry) u K w.module_ w.store → WhereTold b c (λ i r. EachImage t t1 (λ e. IsAroundLine (noting A entry) u w.random (old.pending ++ i) (λ v. IsTrail e v.entries))))
        → WhereTold a c (λ i r. TrailOn w0.random i t0 t1)
    trail_more None b c p q old X first so_far told next = tt
    trail_more (Some x) None c p q old X first so_far told next = absurd first
    trail_more (Some x) (Some y) None p q old X first so_far told next = absurd told
    trail_more (Some x) (Some y) (Some z) p q old X first so_far told next =
        trail_on x (old.pending ++ y) old.ended p q first so_far (next first.led.last (record { disks = first.led.stands; agrees = first.agrees }))

    -- ---- moments

    module _ (a b c p q : Option (List ℕ)) (old : Reading) (X : List ℕ → List ℕ → Type 0) (first : HasServed (noting A entry) s K w0 w a b p q old) (told : WhereTold b c X) where
      pub module_way : ((u : Noted A.State) → Stands (noting A entry) u K w.module_ w.store → WhereTold b c (λ i r. EachImage w.module_ w1.module_ (λ e. IsAroundLine (noting A entry) u w.random (old.pending ++ i) (λ v. A.InModule v.state e))))
          → WhereTold a c (λ i r. EachImage w0.module_ w1.module_ (λ e. w0.module_.images e ⊎ IsOnTheWay (noting A entry) s w0.random i (λ v. A.InModule v.state e)))
      module_way line =
          step_on (noting A entry) s K w0 w a b c p q old X _ _
          (λ input mid rest served x next. each_weaker w0.module_ w1.module_ _ _ (module_on (noting A entry) s K K1 w0 w w1 input (old.pending ++ mid) old.ended p q served next) (λ e on. inr on))
          first told line

      pub store_way : ((u : Noted A.State) → Stands (noting A entry) u K w.module_ w.store → WhereTold b c (λ i r. EachImage w.store w1.store (λ e. IsAroundLine (noting A entry) u w.random (old.pending ++ i) (λ v. A.InStore v.state e))))
          → WhereTold a c (λ i r. EachImage w0.store w1.store (λ e. w0.store.images e ⊎ IsOnTheWay (noting A entry) s w0.random i (λ v. A.InStore v.state e)))
      store_way line =
          step_on (noting A entry) s K w0 w a b c p q old X _ _
          (λ input mid rest served x next. each_weaker w0.store w1.store _ _ (store_on (noting A entry) s K K1 w0 w w1 input (old.pending ++ mid) old.ended p q served next) (λ e on. inr on))
          first told line

      pub trail_way : WhereTold a b (λ i r. TrailOn w0.random i t0 t)
          → ((u : Noted A.State) → Stands (noting A entry) u K w.module_ w.store → WhereTold b c (λ i r. EachImage t t1 (λ e. IsAroundLine (noting A entry) u w.random (old.pending ++ i) (λ v. IsTrail e v.entries))))
          → WhereTold a c (λ i r. EachImage t0 t1 (λ e. t0.images e ⊎ IsOnTheWay (noting A entry) s w0.random i (λ v. IsTrail e v.entries)))
      trail_way so_far line = told_weaker a c _ _ (λ i r each. each_weaker t0 t1 _ _ each (λ e on. inr on)) (trail_more a b c p q old X first so_far told line)

    -- ---- exits

    now_recorded : (input ahead : List ℕ) (ended : Bool) (p q : Option (List ℕ)) (served : IsServed (noting A entry) s K w0 w input ahead ended p q) → Recorded t served.led.last.entries
    now_recorded input ahead ended p q served = recorded_now t served.led.last.entries settled served.agrees.1

    all_recorded : (input ahead : List ℕ) (ended : Bool) (p q : Option (List ℕ)) → IsServed (noting A entry) s K w0 w input ahead ended p q → ahead ≡ []
        → (all : AllAnswered (noting A entry) s w0.random w input p q) × Recorded t all.led.last.entries
    all_recorded input ahead ended p q served none =
        let same : served.whole ≡ input = sym (served.taken ∙ (ap (λ bytes. served.whole ++ bytes) none ∙ append-nil served.whole)) in
        subst (λ (bytes : List ℕ). (all : AllAnswered (noting A entry) s w0.random w bytes p q) × Recorded t all.led.last.entries) same
        (record { sent = served.sent; held = served.held; led = served.led }, now_recorded input ahead ended p q served)

    whole_recorded : (input ahead rest : List ℕ) (ended : Bool) (p q : Option (List ℕ)) → IsServed (noting A entry) s K w0 w input ahead ended p q → (IsTrue ended → ahead ≢ []) → LosesPart ahead rest
        → (whole : WholeLinesAnswered (noting A entry) s w0.random w input rest p q) × Recorded t whole.led.last.entries
    whole_recorded input ahead rest ended p q served unended loses =
        (served_whole (noting A entry) s K K1 w0 w w1 input ahead ended p q served rest unended loses, now_recorded input ahead ended p q served)

    cut_recorded : (input ahead rest : List ℕ) (ended now_ended : Bool) (p q u : Option (List ℕ)) (served : IsServed (noting A entry) s K w0 w input ahead ended p q) → IsSettled t1
        → CutsReply (noting A entry) served.led.last K1 w w1 ahead rest now_ended q u
        → (cut : ReplyCut (noting A entry) s w0.random w1 input p u) × Recorded t1 cut.next.entries
    cut_recorded input ahead rest ended now_ended p q u served settled1 cuts = (
      served_cut (noting A entry) s K K1 w0 w w1 input ahead ended p q served rest now_ended u cuts,
      recorded_now t1 cuts.next.entries settled1 cuts.stands.agrees.1,
    )

    lost_recorded : (stop : Stop) (input ahead rest : List ℕ) (ended now_ended : Bool) (p q : Option (List ℕ)) (served : IsServed (noting A entry) s K w0 w input ahead ended p q)
        → LosesLine (noting A entry) stop served.led.last w w1 ahead rest now_ended
        → (lost : LineLost (noting A entry) stop s w0.random w1 input p q) × Recorded t lost.state.entries
    lost_recorded stop input ahead rest ended now_ended p q served loses =
        (served_lost (noting A entry) s K K1 w0 w w1 input ahead ended p q served stop rest now_ended loses, now_recorded input ahead ended p q served)

    unsent_recorded : (fault : TrailFault) (input ahead rest : List ℕ) (ended now_ended : Bool) (p q : Option (List ℕ)) (served : IsServed (noting A entry) s K w0 w input ahead ended p q)
        → (unsent : LineUnsent A entry served.led.last w w1 ahead rest now_ended) × RecordedBy fault t1 served.led.last.entries unsent.next.entries
        → (X : List Entry → Type 0) → ((es : List Entry) → Told t (λ c. IsTrail c es) → X es)
        → (unsent : ReplyUnsent A entry s w0.random w1 input p q) × RecordedBy fault t1 unsent.state.entries unsent.next.entries × X unsent.state.entries
    unsent_recorded fault input ahead rest ended now_ended p q served unsent X of_trail = (
      record {
        whole = served.whole;
        line = unsent.0.line;
        others = rest;
        lines_are = ahead_lines (noting A entry) s K K1 w0 w w1 input ahead ended p q served unsent.0.line rest unsent.0.takes.first;
        state = served.led.last;
        sent = served.sent;
        leads = leads_now (noting A entry) s K K1 w0 w w1 input ahead ended p q served;
        drawn = unsent.0.drawn;
        next = unsent.0.next;
        reply = unsent.0.reply;
        steps = unsent.0.steps;
        consumed = Consumes-trans w0.random w.random w1.random served.led.drawn unsent.0.drawn served.led.consumed unsent.0.consumed;
        held = served.held;
        stands = unsent.0.stands;
        pairs = unsent.0.pairs;
      },
      unsent.1,
      of_trail served.led.last.entries served.agrees.1,
    )

    -- ---- the same where the source tells its bytes

    pub exit_all : (a b c p q : Option (List ℕ)) (old new : Reading) → HasServed (noting A entry) s K w0 w a b p q old → WhereTold b c (λ input rest. (old.pending ++ input ≡ []) × (new.pending ++ rest ≡ []))
        → WhereTold a c (λ i r. (all : AllAnswered (noting A entry) s w0.random w i p q) × Recorded t all.led.last.entries)
    exit_all a b c p q old new first ends =
        told_then a b c _ _ _ (λ x y z served last. all_recorded x (old.pending ++ y) old.ended p q served last.0) first ends

    pub exit_whole : (a b c p q : Option (List ℕ)) (old : Reading) → HasServed (noting A entry) s K w0 w a b p q old → WhereTold b c (λ input rest. IsTrue old.ended → old.pending ++ input ≢ [])
        → WhereTold b c (λ input rest. LosesPart (old.pending ++ input) rest)
        → WhereTold a c (λ i r. (whole : WholeLinesAnswered (noting A entry) s w0.random w i r p q) × Recorded t whole.led.last.entries)
    exit_whole a b c p q old first open_ loses =
        told_then a b c _ _ _ (λ x y z served last. whole_recorded x (old.pending ++ y) z old.ended p q served last.0 last.1) first (told_both b c _ _ open_ loses)

    module _ (a b c p q u : Option (List ℕ)) (old new : Reading) (X : List ℕ → List ℕ → Type 0) (first : HasServed (noting A entry) s K w0 w a b p q old) (told : WhereTold b c X) where
      pub exit_cut : IsSettled t1 → (result : Result Served Stop) → ((v : Noted A.State) → Stands (noting A entry) v K w.module_ w.store → LineServed (noting A entry) v K1 result w w1 b c q u old new) → result ≡ Err WriteFault
          → WhereTold a c (λ i r. (cut : ReplyCut (noting A entry) s w0.random w1 i p u) × Recorded t1 cut.next.entries)
      exit_cut settled1 result line is =
          step_on (noting A entry) s K w0 w a b c p q old X _ _
          (λ input mid rest served x cuts. cut_recorded input (old.pending ++ mid) (new.pending ++ rest) old.ended new.ended p q u served settled1 cuts)
          first told (λ v stands. (line v stands).cut is)

      pub exit_lost : (stop : Stop) → IsLineStop stop → (result : Result Served Stop) → ((v : Noted A.State) → Stands (noting A entry) v K w.module_ w.store → LineServed (noting A entry) v K1 result w w1 b c q u old new) → result ≡ Err stop
          → WhereTold a c (λ i r. (lost : LineLost (noting A entry) stop s w0.random w1 i p q) × Recorded t lost.state.entries)
      exit_lost stop kind result line is =
          step_on (noting A entry) s K w0 w a b c p q old X _ _
          (λ input mid rest served x loses. lost_recorded stop input (old.pending ++ mid) (new.pending ++ rest) old.ended new.ended p q served loses)
          first told (λ v stands. (line v stands).lost stop kind is)

      -- and what follows of the entries for which the trail stands
      pub exit_unsent : (fault : TrailFault) → (Y : List Entry → Type 0) → ((es : List Entry) → Told t (λ c. IsTrail c es) → Y es) → ((v : Noted A.State) → Stands (noting A entry) v K w.module_ w.store
          → WhereTold b c (λ i r. (unsent : LineUnsent A entry v w w1 (old.pending ++ i) (new.pending ++ r) new.ended) × RecordedBy fault t1 v.entries unsent.next.entries))
          → WhereTold a c (λ i r. (unsent : ReplyUnsent A entry s w0.random w1 i p q) × RecordedBy fault t1 unsent.state.entries unsent.next.entries × Y unsent.state.entries)
      exit_unsent fault Y of_trail line =
          step_on (noting A entry) s K w0 w a b c p q old X _ _
          (λ input mid rest served x unsent. unsent_recorded fault input (old.pending ++ mid) (new.pending ++ rest) old.ended new.ended p q served unsent Y of_trail)
          first told line

      -- the disks at rest after a line that was carried out
      pub carried_at_rest : ((v : Noted A.State) → Stands (noting A entry) v K w.module_ w.store → Turns (noting A entry) w w1) → WhereTold a c (λ i r. AtRest (noting A entry) s w0.random i w0 w1)
      carried_at_rest line =
          step_on (noting A entry) s K w0 w a b c p q old X _ _
          (λ input mid rest served x turns. rests_on (noting A entry) s K K1 w0 w w1 input (old.pending ++ mid) old.ended p q served turns)
          first told (λ v stands. told_weaker b c _ _ (λ i r x. line v stands) told)

-- ---- answers

pub on_ok : {T E P : Type 0} (r : Result T E) (x : T) → r ≡ Ok x → OnOk r P → P
on_ok (Ok y) x is holds = holds
on_ok (Err e) x is holds = absurd (cc is)

pub run_is : (a b : Result (Unit {0}) Stop) → ◌≡◌ {A = Result (Result (Unit {0}) Stop) TrailFault} (Ok a) (Ok b) → a ≡ b
run_is a b is = cc

pub fault_is : (a b : TrailFault) → ◌≡◌ {A = Result (Result (Unit {0}) Stop) TrailFault} (Err a) (Err b) → a ≡ b
fault_is a b is = cc

pub stop_not_done : (stop : Stop) → ◌≡◌ {A = Result (Result (Unit {0}) Stop) TrailFault} (Ok (Err stop)) (Ok (Ok tt)) → ⊥
stop_not_done stop is = cc is

pub run_not_fault : (a : Result (Unit {0}) Stop) (fault : TrailFault) → ◌≡◌ {A = Result (Result (Unit {0}) Stop) TrailFault} (Ok a) (Err fault) → ⊥
run_not_fault a fault is = cc is

pub fault_not_run : (fault : TrailFault) (a : Result (Unit {0}) Stop) → ◌≡◌ {A = Result (Result (Unit {0}) Stop) TrailFault} (Err fault) (Ok a) → ⊥
fault_not_run fault a is = cc is

pub done_not_stop : (stop : Stop) → ◌≡◌ {A = Result (Result (Unit {0}) Stop) TrailFault} (Ok (Ok tt)) (Ok (Err stop)) → ⊥
done_not_stop stop is = cc is
