-- A run from the disks as they were before they were opened.
use Rattle.std.proofs.Common.{◌≡◌, ℕ, List, Option, IsSome, Result, Err, refl, sym, ◌∙◌, subst, inl, inr, arith}
use Rattle.std.specs.Prelude.{◌⊎◌, ◌↔◌, ◌+◌, ◌≤◌, IsOk, length, IfSome}
use Rattle.device_cells.specs.Medium.{Medium, Told, From, Becomes, Keeps}
use Rattle.device_cells.specs.WhereTold.{WhereTold}
use Rattle.device_cells.specs.SpareBytes.{SameSpare}
use Rattle.device_cells.proofs.Media.{goes_on, each_weaker, keeps_then, told_from, told_at}
use Rattle.device_cells.proofs.WhereToldLemmas.{told_same, told_weaker, rose_wider}
use Rattle.line_service.specs.Reading.{input_limit}
use Rattle.line_service.specs.Machine.{Machine, World, world}
use Rattle.line_service.specs.Stops.{IsOpeningStop, IsFaultless}
use Rattle.line_service.specs.Answering.{Holds, OnDisks, Stands, IsSound}
use Rattle.line_service.specs.Devices.{Span, Devices, Outside, ModuleLeft, StoreLeft, DamageTold, OutsideLeft, Undamaged, behind}
use Rattle.line_service.specs.Running.{NoneFailed, InputTaken, ServesSound}
use Rattle.line_service.specs.Sending.{Grows}
use Rattle.line_service.specs.Serving.{LineLost, Unopened, RunServed}
use Rattle.line_service.specs.declared.stops.Device.{Device}
use Rattle.line_service.specs.declared.stops.Device.TheVariants.{Module, Store}
use Rattle.line_service.specs.declared.stops.Stop.{Stop}
use Rattle.line_service.specs.declared.stops.Stop.TheVariants.{ReadFault, WriteFault, ModuleFault, StoreFault, InputLimit, Damaged}
use Rattle.line_service.proofs.RunLemmas.{NoStop, no_limit, no_opening_read, no_opening_write, no_opening_draw, no_opening_answer}
use Rattle.line_service.proofs.StopLemmas.{grows_none}

pub holds_still : (m0 m : Medium) (P : List ℕ → Type 0) → Keeps m0 m → Holds m0 P → Holds m P
holds_still m0 m P kept holds = record { image = holds.image; told = kept.content ∙ holds.told; has = holds.has }

-- what holds of nothing that is told holds of what was told before
pub never_told : (m0 m : Medium) (P : List ℕ → Type 0) → Keeps m0 m → Told m (λ c. ⊥) → Told m0 P
never_told m0 m P kept never = told_from m0.content P (λ c is. absurd (told_at m.content (λ c. ⊥) c (kept.content ∙ is) never))

pub never_both : (m0 m d0 d : Medium) (P : List ℕ → List ℕ → Type 0) → Keeps m0 m → Keeps d0 d → Told m (λ c. Told d (λ e. ⊥)) → Told m0 (λ c. Told d0 (P c))
never_both m0 m d0 d P kept_m kept_d never =
    told_from m0.content _ (λ c is. never_told d0 d (P c) kept_d (told_at m.content (λ c. Told d (λ e. ⊥)) c (kept_m.content ∙ is) never))

module _ (A : Machine) (m0 d0 : Medium) where
  -- what is broken stands for no state
  pub module_unbroken : (X : ℕ → Type 0) → IsSound A m0 d0 → Told m0 (λ c. (cell : ℕ) → A.IsBrokenModule cell c → X cell)
  module_unbroken X sound =
      told_from m0.content _ (λ c is cell broken.
      let here = told_at m0.content (λ x. (s : A.State) × A.InModule s x) c is sound.in_module in
      absurd (A.module_apart cell c here.0 broken here.1))

  pub store_unbroken : (X : ℕ → Type 0) → IsSound A m0 d0 → Told m0 (λ c. Told d0 (λ e. (cell : ℕ) → A.IsBrokenStore cell c e → X cell))
  store_unbroken X sound =
      told_from m0.content _ (λ c is. told_from d0.content _ (λ e is' cell broken.
      let both = told_at m0.content (λ x. Told d0 (λ y. (s : A.State) × A.InModule s x × A.InStore s y)) c is sound.in_both in
      let here = told_at d0.content (λ y. (s : A.State) × A.InModule s c × A.InStore s y) e is' both in
      absurd (A.store_apart cell c e here.0 broken here.1 here.2)))

  pub unbroken : (s : A.State) (stop : Stop) → OnDisks A s m0 d0 → ((cell : ℕ) → stop ≡ Damaged Module cell → Told m0 (A.IsBrokenModule cell))
      → ((cell : ℕ) → stop ≡ Damaged Store cell → Told m0 (λ c. Told d0 (A.IsBrokenStore cell c))) → (device : Device) (cell : ℕ) → stop ≡ Damaged device cell → ⊥
  unbroken s stop disks in_module in_store Module cell is =
      A.module_apart cell disks.in_module.image s
      (told_at m0.content (A.IsBrokenModule cell) disks.in_module.image disks.in_module.told (in_module cell is)) disks.in_module.has
  unbroken s stop disks in_module in_store Store cell is =
      let both = told_at m0.content (λ c. Told d0 (A.IsBrokenStore cell c)) disks.in_module.image disks.in_module.told (in_store cell is) in
      A.store_apart cell disks.in_module.image disks.in_store.image s
      (told_at d0.content (A.IsBrokenStore cell disks.in_module.image) disks.in_store.image disks.in_store.told both) disks.in_module.has disks.in_store.has

module _ (A : Machine) (m0 m d0 d : Medium) (random : Option (List ℕ)) (kept_m : Keeps m0 m) (kept_d : Keeps d0 d) where
  pub stands_opened : (s : A.State) (K : A.State → Type 0) → OnDisks A s m0 d0 → K s → Stands A s K m d
  stands_opened s K disks agrees = record {
    disks = record { in_module = holds_still m0 m (A.InModule s) kept_m disks.in_module; in_store = holds_still d0 d (A.InStore s) kept_d disks.in_store };
    agrees = agrees;
  }

  -- what became of the content as it was opened became of it as it was
  pub becomes_from : (x y z : Medium) (step : List ℕ → List ℕ → Type 0) → Keeps x y → Becomes step y z → Becomes step x z
  becomes_from x y z step kept becomes = record {
    size = becomes.size ∙ kept.moments.size;
    told = λ c is. let from = becomes.told c is in (from.0, sym kept.content ∙ from.1, from.2);
    still = λ some. becomes.still (subst IsSome (sym kept.content) some);
  }

  pub still : (x y : Medium) → Keeps x y → (c : List ℕ) → y.images c ⊎ From SameSpare y c → x.images c ⊎ From SameSpare x c
  still x y kept c (inl h) = inl (kept.images c h)
  still x y kept c (inr from) = inr (from.0, sym kept.content ∙ from.1, from.2)

  pub opened : (s : A.State) (result : Result (Unit {0}) Stop) (w1 : World) (a b p q : Option (List ℕ))
      → RunServed A s result (world m d random) w1 a b p q → RunServed A s result (world m0 d0 random) w1 a b p q
  opened s result w1 a b p q run = record {
    done = run.done;
    stopped = run.stopped;
    cut = run.cut;
    lost = λ stop kind is. told_weaker a b _ _ (λ i r x. by_case stop i r x) (run.lost stop kind is);
    undrawn = run.undrawn;
    undamaged = run.undamaged;
    on_module = told_weaker a b _ _ (λ i r each. goes_on m0 m w1.module_ _ _ _ kept_m.moments each (λ c h. inl h) (λ c h. first m0 m kept_m c _ h)) run.on_module;
    on_store = told_weaker a b _ _ (λ i r each. goes_on d0 d w1.store _ _ _ kept_d.moments each (λ c h. inl h) (λ c h. first d0 d kept_d c _ h)) run.on_store;
    spare = record {
      on_module = goes_on m0 m w1.module_ _ _ _ kept_m.moments run.spare.on_module (λ c h. inl h) (λ c h. still m0 m kept_m c h);
      on_store = goes_on d0 d w1.store _ _ _ kept_d.moments run.spare.on_store (λ c h. inl h) (λ c h. still d0 d kept_d c h);
    };
    at_rest = λ answers. told_weaker a b _ _ (λ i r rests. record {
      on_module = becomes_from m0 m w1.module_ _ kept_m rests.on_module;
      on_store = becomes_from d0 d w1.store _ kept_d rests.on_store;
    }) (run.at_rest answers);
  }
    where
      first : (x y : Medium) → Keeps x y → (c : List ℕ) (P : Type 0) → y.images c ⊎ P → x.images c ⊎ P
      first x y kept c P (inl h) = inl (kept.images c h)
      first x y kept c P (inr h) = inr h

      by_case : (stop : Stop) (i r : List ℕ) → LineLost A stop s random w1 i p q ⊎ Unopened (world m d random) w1 i r p q
          → LineLost A stop s random w1 i p q ⊎ Unopened (world m0 d0 random) w1 i r p q
      by_case stop i r (inl lost) = inl lost
      by_case stop i r (inr early) = inr (record {
        untaken = early.untaken;
        held = early.held;
        undrawn = early.undrawn;
        on_module = keeps_then m0 m w1.module_ kept_m early.on_module;
        on_store = keeps_then d0 d w1.store kept_d early.on_store;
      })

  -- it stopped before the first line
  pub unopened : (s : A.State) (stop : Stop) (a p : Option (List ℕ)) → IsOpeningStop stop → ((device : Device) (cell : ℕ) → stop ≡ Damaged device cell → ⊥)
      → RunServed A s (Err stop) (world m0 d0 random) (world m d random) a a p p
  unopened s stop a p kind undamaged = record {
    done = λ h. absurd (cc h);
    stopped = λ h. absurd (no_input stop kind h);
    cut = λ h. absurd (no_cut stop kind h);
    lost = λ other is h. told_same a _ (λ x. inr (record {
      untaken = refl;
      held = told_same p (λ x y. y ≡ x) (λ x. refl);
      undrawn = refl;
      on_module = kept_m;
      on_store = kept_d;
    }));
    undrawn = λ h. absurd (no_opening_draw stop kind h);
    undamaged = λ device cell h. undamaged device cell (cc h);
    on_module = told_same a _ (λ x. each_weaker m0 m _ _ kept_m.moments (λ c h. inl h));
    on_store = told_same a _ (λ x. each_weaker d0 d _ _ kept_d.moments (λ c h. inl h));
    spare = record {
      on_module = each_weaker m0 m _ _ kept_m.moments (λ c h. inl h);
      on_store = each_weaker d0 d _ _ kept_d.moments (λ c h. inl h);
    };
    at_rest = λ answers. absurd (no_opening_answer stop kind answers);
  }
    where
      no_input : (stop : Stop) → IsOpeningStop stop → ◌≡◌ {A = Result (Unit {0}) Stop} (Err stop) (Err ReadFault) ⊎ ◌≡◌ {A = Result (Unit {0}) Stop} (Err stop) (Err InputLimit) → ⊥
      no_input stop kind (inl h) = let same : stop ≡ ReadFault = cc h in subst IsOpeningStop same kind
      no_input stop kind (inr h) = let same : stop ≡ InputLimit = cc h in subst IsOpeningStop same kind

      no_cut : (stop : Stop) → IsOpeningStop stop → ◌≡◌ {A = Result (Unit {0}) Stop} (Err stop) (Err WriteFault) → ⊥
      no_cut stop kind h = let same : stop ≡ WriteFault = cc h in subst IsOpeningStop same kind

-- ---- all that is outside, opening and run together

-- a run isn't stopped where no device has failed since before opening
pub not_stopped : (A : Machine) (result : Result (Unit {0}) Stop) (start : Outside) (o : Span Outside) → OutsideLeft result o → NoneFailed (record { old = start; new = o.new })
    → start.source_faults ≤ o.old.source_faults → start.sink_faults ≤ o.old.sink_faults → start.devices.module_faults ≤ o.old.devices.module_faults
    → start.devices.store_faults ≤ o.old.devices.store_faults → start.devices.entropy_faults ≤ o.old.devices.entropy_faults → NoStop result
not_stopped A result start o left none reads writes on_module on_store draws = record {
  reads = λ h. none.reads (rose_wider _ _ _ _ reads left.source_left.later (omega arith) (left.source_left.fault h));
  writes = λ h. none.writes (rose_wider _ _ _ _ writes left.sink_left.later (omega arith) (left.sink_left.fault h));
  on_module = λ h. none.on_module (rose_wider _ _ _ _ on_module left.devices_left.module_left.later (omega arith) (left.devices_left.module_left.fault h));
  on_store = λ h. none.on_store (rose_wider _ _ _ _ on_store left.devices_left.store_left.later (omega arith) (left.devices_left.store_left.fault h));
  draws = λ h. none.draws (rose_wider _ _ _ _ draws left.devices_left.entropy_left.later (omega arith) (left.devices_left.entropy_left.fault h));
}

-- disks that were opened told no damage, and a run over them tells none
pub opened_damage : {T : Type 0} (A : Machine) (result : Result T Stop) (d : Span Devices) (now : Devices) → Keeps d.old.world.module_ now.world.module_ → Keeps d.old.world.store now.world.store
    → IsSound A d.old.world.module_ d.old.world.store → Undamaged A result now → DamageTold A result d
opened_damage A result d now kept_m kept_d sound after = record {
  module_damaged = λ cell h. never_told d.old.world.module_ now.world.module_ (A.IsBrokenModule cell) kept_m (after.module_sound cell h);
  store_damaged = λ cell h. never_both d.old.world.module_ now.world.module_ d.old.world.store now.world.store (A.IsBrokenStore cell) kept_m kept_d (after.store_sound cell h);
  module_judged = λ still. module_unbroken A d.old.world.module_ d.old.world.store _ sound;
  store_judged = λ still_m still_d. store_unbroken A d.old.world.module_ d.old.world.store _ sound;
  cells = after.cells;
}

-- disks that weren't opened: no other device was called
pub unopened_left : (A : Machine) (stop : Stop) (o : Span Outside) → IsOpeningStop stop
    → ModuleLeft (behind o) (IsOk {T = Unit {0}} (Err stop)) (◌≡◌ {A = Result (Unit {0}) Stop} (Err stop) (Err ModuleFault))
    → StoreLeft (behind o) (IsOk {T = Unit {0}} (Err stop)) (◌≡◌ {A = Result (Unit {0}) Stop} (Err stop) (Err StoreFault))
    → o.new.source_faults ≡ o.old.source_faults → o.new.sink_faults ≡ o.old.sink_faults → o.new.devices.entropy_faults ≡ o.old.devices.entropy_faults → o.new.output ≡ o.old.output
    → OutsideLeft {T = Unit {0}} (Err stop) o
unopened_left A stop o kind module_left store_left source sink entropy held = record {
  devices_left = record {
    module_left = module_left;
    store_left = store_left;
    entropy_left = record { later = omega (arith, entropy); fault = λ h. absurd (no_opening_draw stop kind h); quiet = λ none. entropy };
  };
  source_left = record { later = omega (arith, source); fault = λ h. absurd (no_opening_read stop kind h); quiet = λ none. source };
  sink_left = record { later = omega (arith, sink); fault = λ h. absurd (no_opening_write stop kind h); quiet = λ none. sink };
  sink_grows = subst (λ (x : Option (List ℕ)). WhereTold o.old.output x Grows) (sym held) (grows_none o.old.output);
}

-- no input was taken
pub unopened_taken : (stop : Stop) (o : Span Outside) → IsOpeningStop stop → o.new.input ≡ o.old.input → InputTaken (Err stop) o
unopened_taken stop o kind same = record {
  at_end = λ ok. absurd (cc ok);
  limit = subst (λ (x : Option (List ℕ)). WhereTold o.old.input x (λ i r. ◌≡◌ {A = Result (Unit {0}) Stop} (Err stop) (Err InputLimit) ↔ ((length i ≡ length r + input_limit) × IsFaultless (Err stop)))) (sym same)
      (no_limit stop o.old.input kind);
  within = subst (λ (x : Option (List ℕ)). WhereTold o.old.input x (λ i r. length i ≤ length r + input_limit)) (sym same) (told_same o.old.input _ (λ x. omega arith));
}

-- no line was served
pub unopened_sound : (A : Machine) (stop : Stop) (d : Span Devices) → IsOpeningStop stop → ServesSound A (Err stop) d
unopened_sound A stop d kind = record {
  sound = λ h. absurd (no_opening_answer stop kind h);
  settled = λ h. absurd (no_opening_answer stop kind h);
}

-- it stopped at a disk, or not by a failure
pub unopened_no_stop : (stop : Stop) → IsOpeningStop stop → (◌≡◌ {A = Result (Unit {0}) Stop} (Err stop) (Err ModuleFault) → ⊥) → (◌≡◌ {A = Result (Unit {0}) Stop} (Err stop) (Err StoreFault) → ⊥) → NoStop (Err stop)
unopened_no_stop stop kind on_module on_store = record {
  reads = no_opening_read stop kind;
  writes = no_opening_write stop kind;
  on_module = on_module;
  on_store = on_store;
  draws = no_opening_draw stop kind;
}

-- what a disk holds is told of it
pub holds_told : (m : Medium) (P : List ℕ → Type 0) → Holds m P → Told m P
holds_told m P holds = subst (λ (o : Option (List ℕ)). IfSome o P) (sym holds.told) holds.has
