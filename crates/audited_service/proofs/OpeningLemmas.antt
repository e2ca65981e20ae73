-- A run from the disks and the trail as they were before they were opened.
use Rattle.std.proofs.Common.{◌≡◌, ℕ, List, Option, Result, Ok, Err, refl, sym, subst, inl, inr}
use Rattle.std.specs.Prelude.{◌⊎◌, IsSome}
use Rattle.device_cells.specs.Medium.{Medium, Told, Keeps}
use Rattle.device_cells.proofs.Media.{goes_on, each_weaker, keeps_then, told_still}
use Rattle.device_cells.proofs.WhereToldLemmas.{told_same, told_weaker}
use Rattle.audit_trail.specs.TrailStands.{IsTrail}
use Rattle.audit_trail.specs.declared.entries.Entry.{Entry}
use Rattle.audit_trail.specs.declared.faults.TrailFault.{TrailFault}
use Rattle.audit_trail.specs.declared.faults.TrailFault.TheVariants.{Full}
use Rattle.line_service.specs.Machine.{Machine, World, world}
use Rattle.line_service.specs.Answering.{OnDisks, Stands}
use Rattle.line_service.specs.Serving.{Unopened, SparesAlways, AtRest}
use Rattle.line_service.specs.Stops.{IsOpeningStop}
use Rattle.line_service.specs.declared.stops.Device.{Device}
use Rattle.line_service.specs.declared.stops.Stop.{Stop}
use Rattle.line_service.specs.declared.stops.Stop.TheVariants.{ReadFault, WriteFault, EntropyFault, InputLimit, Damaged}
use Rattle.line_service.proofs.OpeningLemmas.{stands_opened, still, becomes_from}
use Rattle.line_service.proofs.RunLemmas.{no_opening_answer}
use Rattle.line_service.proofs.SpareLaws.{at_rest_nothing}
use Rattle.audited_service.specs.Noting.{Noted, noted, noting}
use Rattle.audited_service.specs.Recording.{RunRecorded}
use Rattle.audited_service.specs.EachLine.{Agrees}
use Rattle.audited_service.proofs.NotingLemmas.{on_disks}
use Rattle.audited_service.proofs.RunLemmas.{fault_is}

stop_is : (a b : Stop) → ◌≡◌ {A = Result (Result (Unit {0}) Stop) TrailFault} (Ok (Err a)) (Ok (Err b)) → a ≡ b
stop_is a b is = cc

first : (x y : Medium) → Keeps x y → (c : List ℕ) (P : Type 0) → y.images c ⊎ P → x.images c ⊎ P
first x y kept c P (inl h) = inl (kept.images c h)
first x y kept c P (inr h) = inr h

module _ (A : Machine) (entry : List ℕ → List ℕ → Entry) (m0 m d0 d t0 t : Medium) (random : Option (List ℕ)) (kept_m : Keeps m0 m) (kept_d : Keeps d0 d) (kept_t : Keeps t0 t) where
  pub stands_all : (s : A.State) (es : List Entry) (k : A.State → Type 0) → OnDisks A s m0 d0 → k s → Told t0 (λ c. IsTrail c es) → Stands (noting A entry) (noted s es) (Agrees k t) m d
  stands_all s es k disks agrees trail =
      let stands = stands_opened A m0 m d0 d random kept_m kept_d s k disks agrees in
      record { disks = on_disks A entry (noted s es) m d stands.disks; agrees = (stands.agrees, told_still t0 t (λ c. IsTrail c es) kept_t trail) }

  unopened_before : (w1 : World) (t1 : Medium) (i r : List ℕ) (p q : Option (List ℕ)) → Unopened (world m d random) w1 i r p q × Keeps t t1 → Unopened (world m0 d0 random) w1 i r p q × Keeps t0 t1
  unopened_before w1 t1 i r p q early = (
    record {
      untaken = early.0.untaken;
      held = early.0.held;
      undrawn = early.0.undrawn;
      on_module = keeps_then m0 m w1.module_ kept_m early.0.on_module;
      on_store = keeps_then d0 d w1.store kept_d early.0.on_store;
    },
    keeps_then t0 t t1 kept_t early.1,
  )

  or_before : (w1 : World) (t1 : Medium) (i r : List ℕ) (p q : Option (List ℕ)) (P : Type 0)
      → P ⊎ (Unopened (world m d random) w1 i r p q × Keeps t t1) → P ⊎ (Unopened (world m0 d0 random) w1 i r p q × Keeps t0 t1)
  or_before w1 t1 i r p q P (inl has) = inl has
  or_before w1 t1 i r p q P (inr early) = inr (unopened_before w1 t1 i r p q early)

  rests_before : (s : Noted A.State) (i : List ℕ) (w1 : World) → AtRest (noting A entry) s random i (world m d random) w1 → AtRest (noting A entry) s random i (world m0 d0 random) w1
  rests_before s i w1 rests = record {
    on_module = becomes_from A m0 m d0 d random kept_m kept_d m0 m w1.module_ _ kept_m rests.on_module;
    on_store = becomes_from A m0 m d0 d random kept_m kept_d d0 d w1.store _ kept_d rests.on_store;
  }

  spares_opened : SparesAlways (world m0 d0 random) (world m d random)
  spares_opened = record {
    on_module = each_weaker m0 m _ _ kept_m.moments (λ c h. inl h);
    on_store = each_weaker d0 d _ _ kept_d.moments (λ c h. inl h);
  }

  pub opened_recorded : (s : Noted A.State) (result : Result (Result (Unit {0}) Stop) TrailFault) (w1 : World) (t1 : Medium) (a b p q : Option (List ℕ))
      → RunRecorded A entry s result (world m d random) w1 t t1 a b p q → RunRecorded A entry s result (world m0 d0 random) w1 t0 t1 a b p q
  opened_recorded s result w1 t1 a b p q run = record {
    done = run.done;
    stopped = run.stopped;
    cut = run.cut;
    lost = λ stop kind is. told_weaker a b _ _ (λ i r x. or_before w1 t1 i r p q _ x) (run.lost stop kind is);
    undrawn = run.undrawn;
    full = λ h. told_weaker a b _ _ (λ i r unsent. (unsent.0, unsent.1, λ some. unsent.2 (subst (λ (o : Option (List ℕ)). IsSome o) (sym kept_t.content) some))) (run.full h);
    failed = λ is. told_weaker a b _ _ (λ i r x. or_before w1 t1 i r p q _ x) (run.failed is);
    damaged = λ cell is. told_weaker a b _ _ (λ i r early. unopened_before w1 t1 i r p q early) (run.damaged cell is);
    undamaged = run.undamaged;
    on_module = told_weaker a b _ _ (λ i r each. goes_on m0 m w1.module_ _ _ _ kept_m.moments each (λ c h. inl h) (λ c h. first m0 m kept_m c _ h)) run.on_module;
    on_store = told_weaker a b _ _ (λ i r each. goes_on d0 d w1.store _ _ _ kept_d.moments each (λ c h. inl h) (λ c h. first d0 d kept_d c _ h)) run.on_store;
    on_trail = told_weaker a b _ _ (λ i r each. goes_on t0 t t1 _ _ _ kept_t.moments each (λ c h. inl h) (λ c h. first t0 t kept_t c _ h)) run.on_trail;
    spare = record {
      on_module = goes_on m0 m w1.module_ _ _ _ kept_m.moments run.spare.on_module (λ c h. inl h) (λ c h. still A m0 m d0 d random kept_m kept_d m0 m kept_m c h);
      on_store = goes_on d0 d w1.store _ _ _ kept_d.moments run.spare.on_store (λ c h. inl h) (λ c h. still A m0 m d0 d random kept_m kept_d d0 d kept_d c h);
    };
    at_rest = λ answers. told_weaker a b _ _ (λ i r rests. rests_before s i w1 rests) (run.at_rest answers);
  }

  not_begun : (a p : Option (List ℕ)) (x : List ℕ) → Unopened (world m0 d0 random) (world m d random) x x p p × Keeps t0 t
  not_begun a p x = (record { untaken = refl; held = told_same p (λ x y. y ≡ x) (λ x. refl); undrawn = refl; on_module = kept_m; on_store = kept_d }, kept_t)

  -- it stopped before the trail was called, or at the trail
  pub unopened_stop : (s : Noted A.State) (stop : Stop) (a p : Option (List ℕ)) → IsOpeningStop stop → ((device : Device) (cell : ℕ) → stop ≡ Damaged device cell → ⊥)
      → RunRecorded A entry s (Ok (Err stop)) (world m0 d0 random) (world m d random) t0 t a a p p
  unopened_stop s stop a p kind undamaged = record {
    done = λ h. absurd (cc h);
    stopped = λ h. absurd (no_input h);
    cut = λ h. let same : stop ≡ WriteFault = stop_is stop WriteFault h in absurd (subst IsOpeningStop same kind);
    lost = λ other is h. told_same a _ (λ x. inr (not_begun a p x));
    undrawn = λ h. let same : stop ≡ EntropyFault = stop_is stop EntropyFault h in absurd (subst IsOpeningStop same kind);
    full = λ h. absurd (cc h);
    failed = λ h. absurd (cc h);
    damaged = λ cell h. absurd (cc h);
    undamaged = λ device cell h. undamaged device cell (stop_is stop (Damaged device cell) h);
    on_module = told_same a _ (λ x. each_weaker m0 m _ _ kept_m.moments (λ c h. inl h));
    on_store = told_same a _ (λ x. each_weaker d0 d _ _ kept_d.moments (λ c h. inl h));
    on_trail = told_same a _ (λ x. each_weaker t0 t _ _ kept_t.moments (λ c h. inl h));
    spare = spares_opened;
    at_rest = λ answers. absurd (no_opening_answer stop kind answers);
  }
    where
      no_input : ◌≡◌ {A = Result (Result (Unit {0}) Stop) TrailFault} (Ok (Err stop)) (Ok (Err ReadFault)) ⊎ ◌≡◌ {A = Result (Result (Unit {0}) Stop) TrailFault} (Ok (Err stop)) (Ok (Err InputLimit)) → ⊥
      no_input (inl h) = subst IsOpeningStop (stop_is stop ReadFault h) kind
      no_input (inr h) = subst IsOpeningStop (stop_is stop InputLimit h) kind

  pub unopened_fault : (s : Noted A.State) (fault : TrailFault) (a p : Option (List ℕ)) → (fault ≡ Full → ⊥) → RunRecorded A entry s (Err fault) (world m0 d0 random) (world m d random) t0 t a a p p
  unopened_fault s fault a p some = record {
    done = λ h. absurd (cc h);
    stopped = λ h. absurd (no_input h);
    cut = λ h. absurd (cc h);
    lost = λ other is h. absurd (cc h);
    undrawn = λ h. absurd (cc h);
    full = λ h. absurd (some (fault_is fault Full h));
    failed = λ h. told_same a _ (λ x. inr (not_begun a p x));
    damaged = λ cell h. told_same a _ (λ x. not_begun a p x);
    undamaged = λ device cell h. cc h;
    on_module = told_same a _ (λ x. each_weaker m0 m _ _ kept_m.moments (λ c h. inl h));
    on_store = told_same a _ (λ x. each_weaker d0 d _ _ kept_d.moments (λ c h. inl h));
    on_trail = told_same a _ (λ x. each_weaker t0 t _ _ kept_t.moments (λ c h. inl h));
    spare = spares_opened;
    at_rest = λ answers. told_same a _ (λ x. rests_before s x (world m d random) (at_rest_nothing (noting A entry) s random x (world m d random)));
  }
    where
      no_input : ◌≡◌ {A = Result (Result (Unit {0}) Stop) TrailFault} (Err fault) (Ok (Err ReadFault)) ⊎ ◌≡◌ {A = Result (Result (Unit {0}) Stop) TrailFault} (Err fault) (Ok (Err InputLimit)) → ⊥
      no_input (inl h) = cc h
      no_input (inr h) = cc h
