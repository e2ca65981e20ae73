-- What a verb left to be done, carried out on two disks.
use Rattle.std.proofs.Common.{◌≡◌, ℕ, Bool, true, false, ◌++◌, List, [], ◌∷◌, Option, None, Some, Result, Ok, Err, codes, refl, sym, ap, subst, ◌∙◌}
use Rattle.std.specs.Prelude.{not, OnOk}
use Rattle.std.proofs.lemmas.List.{append-nil}
use Rattle.std.proofs.lemmas.Result.{on_ok_weaker}
use Rattle.device_cells.specs.Medium.{Medium, IsSettled}
use Rattle.cca_roles.specs.declared.roles.Role.{Role}
use Rattle.verb_rules.proofs.TokenLemmas.{keys_apart}
use Rattle.cca_vectors.specs.Checks.{check}
use Rattle.record_bodies.specs.Ages.{any_ahead_entry}
use Rattle.record_bodies.specs.StoreStands.{Agrees}
use Rattle.key_records.proofs.TurningLaws.{store_stays, memory_stays}
use Rattle.record_bodies.specs.declared.actions.StoreAction.{StoreAction}
use Rattle.record_bodies.specs.declared.rows.Row.{Row}
use Rattle.line_service.specs.declared.stops.Stop.{Stop}
use Rattle.master_registers.specs.Actions.{after_action}
use Rattle.master_registers.specs.Masters.{NewRegister, Empty, Partial, Full, Masters, IsMasters, is_empty, is_partial, first_refused, combine_refused, set_refused, same_pattern}
use Rattle.master_registers.specs.declared.actions.Action.{Action}
use Rattle.master_registers.specs.declared.actions.Action.TheVariants.{First, Middle, Last, Clear, Set}
use Rattle.line_service.specs.Replies.{Field, Done}
use Rattle.verb_rules.specs.Keys.{keys_of, master_key, new_key}
use Rattle.verb_script.specs.Grammar.{Request}
use Rattle.cca_machine.specs.Keys.{warning}
use Rattle.cca_machine.specs.State.{State, IsStoreOf}
use Rattle.cca_machine.specs.Verdict.{Questions, Refusal, questions, first_refusal, action_questions, create_questions}
use Rattle.cca_machine.specs.Act.{Effect, Show, Become, DefineRole, RemoveRole, Create, Write, Delete, ChangeLabels, Outcome, effect, state_after, fields_after, state_between, module_cells_after, store_cells_after, effected, refused, or_act}
use Rattle.request_rules.specs.Standing.{Tables, tables, StandsInModule, StandsInStore}
use Rattle.cca_requests.specs.Serving.{CarriesModule, CarriesStore, Carries}
use Rattle.cca_machine.specs.Deciding.{WarnsNot, labels_after, LosesNone, IsWritten, IsDeleted}
use Rattle.cca_requests.specs.Changes.{plainly, or_effected, rows_after, IsTurnedBy, action_outcome, role_outcome, create_outcome}
use Rattle.cca_requests.proofs.Ageing.{store_ages, memory_ages, none_ahead}
use Rattle.cca_requests.proofs.Leaving.{ok_always}
use Rattle.cca_requests.proofs.Serving.{module_carries, store_carries}

-- ---- what the machine makes of it

abbrev with_fields : State → Effect → List Field → Outcome
with_fields s e fields =
    record {
      state = state_after s e;
      reply = Done fields;
      module_cells = module_cells_after s e;
      store_cells = store_cells_after s e;
      between = state_between s e;
    }

effected_plainly : (s : State) (request : Request) (e : Effect) → WarnsNot s request → effected s request e ≡ plainly s e
effected_plainly s request e none =
    ap (λ (fields : List Field). with_fields s e fields)
    (ap (λ (b : Bool). fields_after s e ++ warning b) none ∙ append-nil (fields_after s e))

by_verdict : (v : Option Refusal) (s : State) (drawn : List ℕ) (request : Request) → WarnsNot s request
    → or_act v s drawn request ≡ or_effected v s (effect s drawn request.name request)
by_verdict None s drawn request none = effected_plainly s request (effect s drawn request.name request) none
by_verdict (Some r) s drawn request none = refl

-- by the verdict and the effect that are known
pub outcome_is : {v w : Option Refusal} {e : Effect} (s : State) (drawn : List ℕ) (request : Request) → v ≡ w → effect s drawn request.name request ≡ e
    → WarnsNot s request → or_act v s drawn request ≡ or_effected w s e
outcome_is {v} {w} {e} s drawn request same is none =
    by_verdict v s drawn request none
    ∙ (ap (λ (x : Option Refusal). or_effected x s (effect s drawn request.name request)) same ∙ ap (or_effected w s) is)

-- the same of a refusal
pub refused_is : {v : Option Refusal} {r : Refusal} (s : State) (drawn : List ℕ) (request : Request) → v ≡ Some r → or_act v s drawn request ≡ refused s r
refused_is {v} {r} s drawn request is = ap (λ (x : Option Refusal). or_act x s drawn request) is

-- the same of an effect whose reply may warn
pub shown_is : {v : Option Refusal} {e : Effect} (s : State) (drawn : List ℕ) (request : Request) → v ≡ None → effect s drawn request.name request ≡ e
    → or_act v s drawn request ≡ effected s request e
shown_is {v} {e} s drawn request none is = ap (λ (x : Option Refusal). or_act x s drawn request) none ∙ ap (effected s request) is

-- what is carried by one outcome is by its equal
pub carries_as : {o known : Outcome} {s : State} {result : Result (Unit {0}) Stop} {reply : List ℕ} {t : Tables} {m0 m1 d0 d1 : Medium}
    → o ≡ known → Carries known s result reply t m0 m1 d0 d1 → Carries o s result reply t m0 m1 d0 d1
carries_as {s = s} {result = result} {reply = reply} {t = t} {m0 = m0} {m1 = m1} {d0 = d0} {d1 = d1} is carries =
    subst (λ (x : Outcome). Carries x s result reply t m0 m1 d0 d1) (sym is) carries

-- ---- a change of the module

-- the new register isn't full
first_none : (m : Masters) → first_refused m ≡ false → new_key m.coming ≡ None
first_none m state = by_coming m.coming state
  where
    by_coming : (coming : NewRegister) → not (is_empty coming) ≡ false → new_key coming ≡ None
    by_coming Empty state = refl
    by_coming (Partial bytes) state = refl
    by_coming (Full bytes) state = let wrong : true ≡ false = state in absurd (cc wrong)

combine_none : (m : Masters) → combine_refused m ≡ false → new_key m.coming ≡ None
combine_none m state = by_coming m.coming state
  where
    by_coming : (coming : NewRegister) → not (is_partial coming) ≡ false → new_key coming ≡ None
    by_coming Empty state = refl
    by_coming (Partial bytes) state = refl
    by_coming (Full bytes) state = let wrong : true ≡ false = state in absurd (cc wrong)

-- what stood for the labels does so after it, and the memory knows them
abbrev GoesTo : State → Result (Unit {0}) Stop → List (Option Row) → Outcome → Type 0
GoesTo s result now o = ((c : List ℕ) → IsStoreOf s c → IsStoreOf o.state c) × ((cell : ℕ) → o.between cell ≡ s) × OnOk result (Agrees (keys_of o.state.registers) now o.state.labels)

rules_kept : (wrong same : Bool) → first_refusal (questions (codes "-") (check 25 wrong ∷ check 26 same ∷ []) ∷ []) ≡ None → (wrong ≡ false) × (same ≡ false)
rules_kept true same is = cc is
rules_kept false true is = cc is
rules_kept false false is = (refl, refl)

on_both : {P Q R : Type 0} (r : Result (Unit {0}) Stop) → (P → Q → R) → OnOk r P → OnOk r Q → OnOk r R
on_both (Ok u) f p q = f p q
on_both (Err stop) f p q = tt

module _ {s : State} {rows : List (Option Row)} {d : Medium} (result : Result (Unit {0}) Stop) (stands : StandsInStore s rows d) where
  or_goes : (v : Option Refusal) (e : Effect) → (v ≡ None → GoesTo s result rows (plainly s e)) → GoesTo s result rows (or_effected v s e)
  or_goes None e goes = goes refl
  or_goes (Some r) e goes = (λ c p. p, λ cell. refl, ok_always result stands.agrees)

  -- the new register changes, and no label is ahead
  new_goes : (next : Masters) → next.current ≡ s.registers.current → next.former ≡ s.registers.former → any_ahead_entry s.labels ≡ false → GoesTo s result rows (plainly s (Become next s.labels))
  new_goes next current former none = (
    λ c p. store_stays (keys_of s.registers) (keys_of next) (ap master_key current) (ap master_key former) c s.labels none p,
    λ cell. refl,
    ok_always result (memory_stays (keys_of s.registers) (keys_of next) (ap master_key current) (ap master_key former) rows s.labels none stands.agrees),
  )

  behind : new_key s.registers.coming ≡ None → any_ahead_entry s.labels ≡ false
  behind none = none_ahead (keys_of s.registers) stands.in_store.image s.labels none stands.in_store.has

  action_goes : (action : Action) (part : List ℕ) → IsMasters s.registers → LosesNone action s → first_refusal (action_questions s action) ≡ None
      → GoesTo s result (rows_after action rows) (plainly s (Become (after_action action part s.registers) (labels_after action s)))
  action_goes First part valid lost none = new_goes (after_action First part s.registers) refl refl (behind (first_none s.registers (rules_kept (first_refused s.registers) false none).0))
  action_goes Middle part valid lost none = new_goes (after_action Middle part s.registers) refl refl (behind (combine_none s.registers (rules_kept (combine_refused s.registers) false none).0))
  action_goes Last part valid lost none = new_goes (after_action Last part s.registers) refl refl (behind (combine_none s.registers (rules_kept (combine_refused s.registers) false none).0))
  action_goes Clear part valid lost none = new_goes (after_action Clear part s.registers) refl refl lost
  action_goes Set part valid lost none =
      let kept = rules_kept (set_refused s.registers) (same_pattern s.registers) none in
      let apart = keys_apart s.registers valid in (
        λ c p. store_ages s.registers kept.0 kept.1 apart c s.labels lost p,
        λ cell. refl,
        ok_always result (memory_ages s.registers kept.0 kept.1 apart rows stands.in_store.image s.labels lost (record { stands = stands.in_store.has; agrees = stands.agrees })),
      )

  turned_goes : (action : Action) (part : List ℕ) (now : List (Option Row)) → IsMasters s.registers → LosesNone action s → IsTurnedBy s action result rows now
      → (v : Option Refusal) → first_refusal (action_questions s action) ≡ v
      → GoesTo s result now (or_effected v s (Become (after_action action part s.registers) (labels_after action s)))
  turned_goes action part now valid lost turned None is =
      let goes = action_goes action part valid lost is in (
        goes.0,
        goes.1,
        on_both result (λ agrees same. subst (λ (x : List (Option Row)). Agrees (keys_of (after_action action part s.registers)) x (labels_after action s)) (sym same) agrees)
            goes.2 (turned.0 is),
      )
  turned_goes action part now valid lost turned (Some r) is = (
    λ c p. p,
    λ cell. refl,
    on_ok_weaker result (λ same. subst (λ (x : List (Option Row)). Agrees (keys_of s.registers) x s.labels) (sym same) stands.agrees) (turned.1 r is),
  )

module _ {s : State} {later : List (Option Role)} {rows : List (Option Row)} {m0 m1 d : Medium} {result : Result (Unit {0}) Stop} {reply : List ℕ}
    (settled : IsSettled d) (stands : StandsInStore s rows d) where
  by_goes : (now : List (Option Row)) (o : Outcome) → GoesTo s result now o → CarriesModule o s result reply later m0 m1 → Carries o s result reply (tables later now) m0 m1 d d
  by_goes now o goes carries = module_carries o s result reply later rows now m0 m1 d carries goes.0 goes.1 goes.2 settled stands

  pub action_carries : (action : Action) (part : List ℕ) (now : List (Option Row)) → IsMasters s.registers → LosesNone action s → IsTurnedBy s action result rows now
      → CarriesModule (action_outcome s action part) s result reply later m0 m1
      → Carries (action_outcome s action part) s result reply (tables later now) m0 m1 d d
  action_carries action part now valid lost turned =
      by_goes now (action_outcome s action part) (turned_goes result stands action part now valid lost turned (first_refusal (action_questions s action)) refl)

  pub define_carries : (asked : List Questions) (name : List ℕ) (points : ℕ) → CarriesModule (role_outcome asked s (DefineRole name points)) s result reply later m0 m1
      → Carries (role_outcome asked s (DefineRole name points)) s result reply (tables later rows) m0 m1 d d
  define_carries asked name points =
      by_goes rows (role_outcome asked s (DefineRole name points)) (or_goes result stands (first_refusal asked) (DefineRole name points) (λ none. (λ c p. p, λ cell. refl, ok_always result stands.agrees)))

  pub remove_carries : (asked : List Questions) (name : List ℕ) → CarriesModule (role_outcome asked s (RemoveRole name)) s result reply later m0 m1
      → Carries (role_outcome asked s (RemoveRole name)) s result reply (tables later rows) m0 m1 d d
  remove_carries asked name =
      by_goes rows (role_outcome asked s (RemoveRole name)) (or_goes result stands (first_refusal asked) (RemoveRole name) (λ none. (λ c p. p, λ cell. refl, ok_always result stands.agrees)))

-- ---- a change of the store

create_registers : (v : Option Refusal) (s : State) (label : List ℕ) → (or_effected v s (Create label)).state.registers ≡ s.registers
create_registers None s label = refl
create_registers (Some r) s label = refl

create_roles : (v : Option Refusal) (s : State) (label : List ℕ) → (or_effected v s (Create label)).state.roles ≡ s.roles
create_roles None s label = refl
create_roles (Some r) s label = refl

create_between : (v : Option Refusal) (s : State) (label : List ℕ) (cell : ℕ)
    → (((or_effected v s (Create label)).between cell).registers ≡ s.registers) × (((or_effected v s (Create label)).between cell).roles ≡ s.roles)
create_between None s label cell = (refl, refl)
create_between (Some r) s label cell = (refl, refl)

-- on the way through an effect the registers and the roles stay
between_alike : (s : State) (e : Effect) (cell : ℕ) → ((state_between s e cell).registers ≡ s.registers) × ((state_between s e cell).roles ≡ s.roles)
between_alike s (Show fields) cell = (refl, refl)
between_alike s (Become m labels) cell = (refl, refl)
between_alike s (DefineRole name points) cell = (refl, refl)
between_alike s (RemoveRole name) cell = (refl, refl)
between_alike s (Create label) cell = (refl, refl)
between_alike s (Write label key fields) cell = (refl, refl)
between_alike s (Delete label) cell = (refl, refl)
between_alike s (ChangeLabels a) cell = (refl, refl)

module _ {s : State} {roles : List (Option Role)} {rows : List (Option Row)} {m d0 d1 : Medium} {result : Result (Unit {0}) Stop} {reply : List ℕ}
    (settled : IsSettled m) (stands : StandsInModule s roles m) where
  pub create_carries : (label : List ℕ) → CarriesStore (create_outcome s label) s result reply rows d0 d1
      → Carries (create_outcome s label) s result reply (tables roles rows) m m d0 d1
  create_carries label carries =
      store_carries (create_outcome s label) s result reply roles rows m d0 d1 carries
      (create_registers (first_refusal (create_questions s label)) s label) (create_roles (first_refusal (create_questions s label)) s label)
      (create_between (first_refusal (create_questions s label)) s label) settled stands

  pub write_carries : (request : Request) {e : Effect} {place : ℕ} {token before : List ℕ} → IsWritten s e place token before
      → CarriesStore (effected s request e) s result reply rows d0 d1 → Carries (effected s request e) s result reply (tables roles rows) m m d0 d1
  write_carries request {e} goes carries =
      store_carries (effected s request e) s result reply roles rows m d0 d1 carries
      (ap (λ (x : Effect). (state_after s x).registers) goes.is) (ap (λ (x : Effect). (state_after s x).roles) goes.is) (between_alike s e) settled stands

  pub delete_carries : {e : Effect} {place : ℕ} → IsDeleted s e place → CarriesStore (plainly s e) s result reply rows d0 d1
      → Carries (plainly s e) s result reply (tables roles rows) m m d0 d1
  delete_carries {e} gone carries =
      store_carries (plainly s e) s result reply roles rows m d0 d1 carries
      (ap (λ (x : Effect). (state_after s x).registers) gone.is) (ap (λ (x : Effect). (state_after s x).roles) gone.is) (between_alike s e) settled stands

  pub renew_carries : (a : StoreAction) → CarriesStore (plainly s (ChangeLabels a)) s result reply rows d0 d1
      → Carries (plainly s (ChangeLabels a)) s result reply (tables roles rows) m m d0 d1
  renew_carries a carries =
      store_carries (plainly s (ChangeLabels a)) s result reply roles rows m d0 d1 carries refl refl (between_alike s (ChangeLabels a)) settled stands
