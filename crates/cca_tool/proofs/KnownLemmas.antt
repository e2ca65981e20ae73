-- What the memory has of two disks that stand for one state.
use Rattle.std.proofs.Common.{◌≡◌, ℕ, List, Option, None, Some, Result, Ok, Err, refl, sym, ap, subst, ◌∙◌}
use Rattle.std.specs.Prelude.{OnOk, IsSome}
use Rattle.device_cells.specs.Medium.{Medium, Told}
use Rattle.device_cells.proofs.Media.{told_from, told_at}
use Rattle.master_registers.specs.RegisterBody.{IsDamaged}
use Rattle.cca_roles.specs.declared.roles.Role.{Role}
use Rattle.record_bodies.specs.StoreStands.{HoldsRows}
use Rattle.record_bodies.specs.declared.rows.Row.{Row}
use Rattle.cca_machine.specs.State.{State, IsModuleOf, IsStoreOf}
use Rattle.request_rules.specs.Standing.{Tables, tables, Stands as StandsFor}
use Rattle.cca_requests.specs.Serving.{IsSound as IsRemembered, HasTold}
use Rattle.line_service.specs.Answering.{OnDisks, Stands}
use Rattle.line_service.specs.declared.stops.Stop.{Stop}
use Rattle.cca_machine.specs.Coprocessor.{cca}
use Rattle.line_service.specs.Serving.{IsTheLine}
use Rattle.line_service.specs.Reading.{Reading}
use Rattle.line_service.specs.declared.lines.Taken.{Taken}
use Rattle.store_unload.specs.Opening.{AreKnown, remembers}
use Rattle.store_unload.proofs.KnownLemmas.{known_remembers, state_at}
use Rattle.cca_tool.specs.Sessions.{Memory, IsWaitingLine}

-- ---- as the requests speak of it

pub stands_for : (s : State) (t : Tables) (m d : Medium) → Stands cca s (remembers t) m d → StandsFor s t m d
stands_for s t m d stands = record {
  on_module = record { in_module = stands.disks.in_module; memory = stands.agrees.0 };
  on_store = record { in_store = stands.disks.in_store; agrees = stands.agrees.1 };
}

pub stands_as : (s : State) (t : Tables) (m d : Medium) → StandsFor s t m d → Stands cca s (remembers t) m d
stands_as s t m d stands = record {
  disks = record { in_module = stands.on_module.in_module; in_store = stands.on_store.in_store };
  agrees = (stands.on_module.memory, stands.on_store.agrees);
}

-- a session over disks that are known
pub stands_known : (s : State) (t : Tables) (m d : Medium) → AreKnown t m d → OnDisks cca s m d → Stands cca s (remembers t) m d
stands_known s t m d known disks = record { disks = disks; agrees = known_remembers t m m d d refl refl known s disks }

some_content : (content : Option (List ℕ)) → IsSome content → (c : List ℕ) × (content ≡ Some c)
some_content None some = absurd (cc some)
some_content (Some c) some = (c, refl)

same_content : (c d : List ℕ) (content : Option (List ℕ)) → content ≡ Some c → content ≡ Some d → c ≡ d
same_content c d content first second = cc (first, second)

module _ (t : Tables) (m0 d0 : Medium) (known : AreKnown t m0 d0) where
  pub module_undamaged : Told m0 IsDamaged → Told m0 (λ c. ⊥)
  module_undamaged damaged =
      told_from m0.content (λ c. ⊥) (λ c is.
      let here = told_at m0.content (IsRemembered t.roles) c is known.in_module in
      told_at m0.content IsDamaged c is damaged here.registers here.in_registers)

  -- the state for which disks stand that tell their contents
  state_of : (c d : List ℕ) → m0.content ≡ Some c → d0.content ≡ Some d → (s : State) × StandsFor s t m0 d0
  state_of c d is_c is_d =
      let here = state_at t m0 m0 d0 d0 refl refl known c d is_c is_d in (
        here.0,
        record {
          on_module = record { in_module = record { image = c; told = is_c; has = here.1 }; memory = here.3.0 };
          on_store = record { in_store = record { image = d; told = is_d; has = here.2 }; agrees = here.3.1 };
        },
      )

  -- what comes of no state comes of disks that tell no contents alone
  pub never_told : ((s : State) → StandsFor s t m0 d0 → ⊥) → Told m0 (λ c. Told d0 (λ d. ⊥))
  never_told never =
      told_from m0.content _ (λ c is. told_from d0.content _ (λ d is_d.
      let here = state_of c d is is_d in never here.0 here.1))

  module _ (later : Tables) (m1 d1 : Medium) (told_m : HasTold m0 m1) (told_d : HasTold d0 d1) where
    known_next : Told m1 (IsRemembered later.roles) → Told d1 (HoldsRows later.rows)
        → ((s : State) → StandsFor s t m0 d0 → (next : State) × StandsFor next later m1 d1) → AreKnown later m1 d1
    known_next sound holds leads = record {
      in_module = sound;
      in_store = holds;
      in_both = told_from m1.content _ (λ c is. told_from d1.content _ (λ d is_d.
          let old_c = some_content m0.content (told_m (subst IsSome (sym is) refl)) in
          let old_d = some_content d0.content (told_d (subst IsSome (sym is_d) refl)) in
          let here = state_of old_c.0 old_d.0 old_c.1 old_d.1 in
          let then = leads here.0 here.1 in
          let next : State = then.0 in
          let stands = then.1 in (
            next,
            subst (IsModuleOf next) (same_content stands.on_module.in_module.image c m1.content stands.on_module.in_module.told is) stands.on_module.in_module.has,
            subst (IsStoreOf next) (same_content stands.on_store.in_store.image d d1.content stands.on_store.in_store.told is_d) stands.on_store.in_store.has,
            (stands.on_module.memory, stands.on_store.agrees),
          )));
    }

    -- what is known after a request that was answered
    pub known_after : (result : Result (Unit {0}) Stop) → OnOk result (Told m1 (IsRemembered later.roles)) → OnOk result (Told d1 (HoldsRows later.rows))
        → ((s : State) → StandsFor s t m0 d0 → OnOk result ((next : State) × StandsFor next later m1 d1)) → OnOk result (AreKnown later m1 d1)
    known_after (Ok done) sound holds leads = known_next sound holds leads
    known_after (Err stop) sound holds leads = tt

-- ---- memory

pub same_memory : (a b : Reading) (r q : List (Option Role)) (x y : List (Option Row)) (o p : List ℕ) → a ≡ b → r ≡ q → x ≡ y → o ≡ p
    → (let one : Memory = record { reading = a; tables = tables r x; reply = o; waiting = None } in one)
    ≡ (let other : Memory = record { reading = b; tables = tables q y; reply = p; waiting = None } in other)
same_memory a b r q x y o p reading roles rows reply =
    ap (λ (here : Reading). let one : Memory = record { reading = here; tables = tables r x; reply = o; waiting = None } in one) reading
    ∙ (ap (λ (here : List (Option Role)). let one : Memory = record { reading = b; tables = tables here x; reply = o; waiting = None } in one) roles
    ∙ (ap (λ (here : List (Option Row)). let one : Memory = record { reading = b; tables = tables q here; reply = o; waiting = None } in one) rows
    ∙ ap (λ (here : List ℕ). let one : Memory = record { reading = b; tables = tables q y; reply = here; waiting = None } in one) reply))

-- what holds of a session's memory holds of the fields that it shows
module _ (inside shown : Memory) (same : inside ≡ shown) where
  pub known_inside : (m d : Medium) → AreKnown shown.tables m d → AreKnown inside.tables m d
  known_inside m d known = subst (λ (memory : Memory). AreKnown memory.tables m d) (sym same) known

  pub stands_inside : (s : State) (m d : Medium) → AreKnown shown.tables m d → OnDisks cca s m d → Stands cca s (remembers inside.tables) m d
  stands_inside s m d known disks =
      stands_known s inside.tables m d (subst (λ (memory : Memory). AreKnown memory.tables m d) (sym same) known) disks

  pub line_inside : (taken : Taken) (line : List ℕ) → inside.waiting ≡ Some taken → IsWaitingLine shown line → IsTheLine taken inside.reading line
  line_inside taken line waits is =
      let here = subst (λ (memory : Memory). IsWaitingLine memory line) (sym same) is in
      subst (λ (t : Taken). IsTheLine t inside.reading line) (one_taken inside.waiting here.0 taken here.1 waits) here.2
    where
      one_taken : (o : Option Taken) (a b : Taken) → o ≡ Some a → o ≡ Some b → a ≡ b
      one_taken o a b first second = cc (first, second)
