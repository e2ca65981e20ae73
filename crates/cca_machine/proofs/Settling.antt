-- From what a verb leaves to all that is said of its decision.
use Rattle.std.proofs.Common.{◌≡◌, ℕ, List, [], Option, None, Some, false, refl, sym, ap, subst, codes, arith, true, ◌∙◌}
use Rattle.std.specs.Prelude.{◌≤◌, ◌<◌, IsSome, IsTrue, Result, Ok, Err, length}
use Rattle.key_cells.specs.Bench.{Bench, with_master}
use Rattle.key_cells.specs.Lease.{bench_of, holding}
use Rattle.key_cells.specs.declared.leases.Lease.{Lease}
use Rattle.key_cells.specs.declared.places.KeyPlace.TheVariants.{Key}
use Rattle.key_cells.specs.declared.places.MasterPlace.TheVariants.{Part}
use Rattle.record_bodies.specs.declared.rows.Row.{Row}
use Rattle.key_tokens.specs.Denotes.{ClearKey}
use Rattle.key_transport.specs.Changes.{ChangesKeys}
use Rattle.line_service.specs.declared.stops.Stop.{Stop}
use Rattle.line_service.specs.declared.stops.Stop.TheVariants.{EntropyFault}
use Rattle.master_registers.specs.declared.registers.Registers.{Registers}
use Rattle.multi_encipher.specs.Bundles.{ChangesKeyAt}
use Rattle.line_service.specs.Replies.{Field, written}
use Rattle.device_cells.specs.Faults.{Rose}
use Rattle.verb_rules.specs.Keys.{opened}
use Rattle.verb_rules.specs.declared.judging.Judged.{Judged}
use Rattle.verb_script.specs.Grammar.{Request, value_of}
use Rattle.cca_machine.specs.Act.{Show, effect}
use Rattle.cca_machine.specs.Draws.{draws_random}
use Rattle.cca_machine.specs.Keys.{key_in_text}
use Rattle.cca_machine.specs.Operands.{is_reencipher, needs_store, operands}
use Rattle.cca_machine.specs.State.{State}
use Rattle.cca_machine.specs.Verdict.{Refusal, refusal, verb_verdict}
use Rattle.cca_machine.specs.Decided.{Decision, HasDecided, IsGrantedIn, Settles, SettlesDrawing, Source, TakesOnly}
use Rattle.cca_machine.specs.Deciding.{ChangesPlaces, Decides, GoesThrough, IsDecided, IsReady, ShowsOr, ShowsOver, WritesStore, with_places}
use Rattle.cca_machine.specs.Granted.{HaveShapes}
use Rattle.cca_machine.specs.Refusals.{refusal_of}
use Rattle.cca_machine.specs.declared.refusals.Refusal.{Refusal as CodeRefusal}
use Rattle.cca_machine.specs.declared.effects.Effect.{Effect as CodeEffect}
use Rattle.cca_machine.specs.declared.effects.Effect.TheVariants as code
use Rattle.cca_machine.specs.declared.granted.Granted.{Granted}
use Rattle.cca_machine.proofs.Acting.{decides, key_is, shows_or, undrawn_verdict}
use Rattle.cca_machine.proofs.KeyedVerbs.{IsKeyed, keyed_shows}

module _ {request : Request} {granted : Granted} {held : Registers} {rows : List (Option Row)} {old new : Lease} {e : CodeEffect} {reply : List ℕ} where
  -- a verb that draws nothing
  pub settles : ChangesPlaces old new
      → (HaveShapes rows (operands request) granted → (s : State) → IsGrantedIn s request granted held rows (bench_of old) → (left : Option (List ℕ)) → Decides s (bench_of new) request e reply left left)
      → (HaveShapes rows (operands request) granted → IsReady held (bench_of new) rows e reply)
      → (WritesStore e → IsTrue (needs_store request))
      → (GoesThrough e → IsTrue (is_reencipher request.name))
      → Settles request granted held rows old new e reply
  settles places decides ready named through = record {
    decided = λ shaped left. record {
      decides = λ s is. decides shaped s is left;
      ready = ready shaped;
      named = named;
      through = through;
      silent = tt;
      stops = tt;
    };
    places = places;
  }

-- ---- the places of a verb

-- a bench that is the old one but for these
within : (old new : Lease) (bench : Bench) → new ≡ holding old bench → with_places (bench_of old) bench ≡ bench → ChangesPlaces old new
within old new bench is same = is ∙ ap (holding old) (sym same ∙ ap (with_places (bench_of old)) (sym (ap bench_of is)))

pub keys_within : (old new : Lease) → ChangesKeys old new → ChangesPlaces old new
keys_within old new stays = within old new _ stays refl

pub key_within : (old new : Lease) → ChangesKeyAt Key old new → ChangesPlaces old new
key_within old new stays = within old new _ stays refl

pub part_within : (old new : Lease) (bytes : List ℕ) → new ≡ holding old (with_master (bench_of old) Part bytes) → ChangesPlaces old new
part_within old new bytes stays = within old new _ stays refl

-- ---- a verb that shows some fields, or is refused

-- what is shown or refused writes nothing
shown_spares : (v : Option Refusal) (fields : List Field) (e : CodeEffect) (reply : List ℕ) → ShowsOr v fields e reply → WritesStore e → ⊥
shown_spares v fields (code.Refused r) reply shown writes = absurd writes
shown_spares v fields code.Shown reply shown writes = absurd writes
shown_spares v fields (code.Change action) reply shown writes = absurd shown
shown_spares v fields (code.DefineRole name points) reply shown writes = absurd shown
shown_spares v fields (code.RemoveRole name) reply shown writes = absurd shown
shown_spares v fields (code.Create label) reply shown writes = absurd shown
shown_spares v fields (code.Write place token) reply shown writes = absurd shown
shown_spares v fields (code.Delete place) reply shown writes = absurd shown
shown_spares v fields (code.Reencipher a) reply shown writes = absurd shown

-- and can be carried out
shown_ready : (held : Registers) (bench : Bench) (rows : List (Option Row)) (v : Option Refusal) (fields : List Field)
    (e : CodeEffect) (reply : List ℕ) → ShowsOr v fields e reply → IsReady held bench rows e reply
shown_ready held bench rows v fields (code.Refused r) reply shown = (shown.1, shown.0.short)
shown_ready held bench rows v fields code.Shown reply shown = shown.1.size
shown_ready held bench rows v fields (code.Change action) reply shown = absurd shown
shown_ready held bench rows v fields (code.DefineRole name points) reply shown = absurd shown
shown_ready held bench rows v fields (code.RemoveRole name) reply shown = absurd shown
shown_ready held bench rows v fields (code.Create label) reply shown = absurd shown
shown_ready held bench rows v fields (code.Write place token) reply shown = absurd shown
shown_ready held bench rows v fields (code.Delete place) reply shown = absurd shown
shown_ready held bench rows v fields (code.Reencipher a) reply shown = absurd shown

-- what goes through the store writes it
pub through_writes : (e : CodeEffect) → GoesThrough e → WritesStore e
through_writes (code.Refused r) through = absurd through
through_writes code.Shown through = absurd through
through_writes (code.Change action) through = absurd through
through_writes (code.DefineRole name points) through = absurd through
through_writes (code.RemoveRole name) through = absurd through
through_writes (code.Create label) through = absurd through
through_writes (code.Write place token) through = absurd through
through_writes (code.Delete place) through = absurd through
through_writes (code.Reencipher a) through = tt

module _ {request : Request} {granted : Granted} {held : Registers} {rows : List (Option Row)} {old new : Lease} {e : CodeEffect} {reply : List ℕ} where
  -- a verb that shows some fields over the key of its first operand, or is refused
  pub keyed_settles : {judged : Judged} {v : ClearKey → Option Refusal} {fields : ClearKey → List Field}
      → IsKeyed request v fields → granted.first.key ≡ Some judged → IsSome judged.age
      → ShowsOver old new (v (opened (bench_of old) judged)) (fields (opened (bench_of old) judged)) e reply
      → Settles request granted held rows old new e reply
  keyed_settles {judged} {v} {fields} keyed is under over =
      let bench = bench_of old in
      let clear = opened bench judged in
      let spares = shown_spares (v clear) (fields clear) e reply over.shows in
      settles over.places
      (λ shaped s in_state left. keyed_shows s (bench_of new) request clear v fields e reply left keyed
      (key_is bench (key_in_text s (value_of request (codes "key"))) granted.first judged (keyed.has s bench granted in_state.grants) is under) over.shows)
      (λ shaped. shown_ready held (bench_of new) rows (v clear) (fields clear) e reply over.shows)
      (λ writes. absurd (spares writes)) (λ through. absurd (spares (through_writes e through)))

  -- a verb that draws nothing, and leaves this
  pub left_settles : ChangesPlaces old new
      → draws_random request ≡ false
      → ((s : State) → IsGrantedIn s request granted held rows (bench_of old) → IsDecided s (bench_of new) [] request e reply)
      → IsReady held (bench_of new) rows e reply
      → (WritesStore e → IsTrue (needs_store request))
      → (GoesThrough e → IsTrue (is_reencipher request.name))
      → Settles request granted held rows old new e reply
  left_settles places none decided ready named through =
      settles places (λ shaped s in_state left. decides s (bench_of new) request e reply left none (decided s in_state)) (λ shaped. ready) named through

module _ {request : Request} {granted : Granted} {held : Registers} {rows : List (Option Row)} {old new : Lease} {reply : List ℕ} where
  -- a verb that is refused by a rule of its own
  pub refused_settles : {r : CodeRefusal} → ChangesPlaces old new
      → draws_random request ≡ false
      → ((s : State) → IsGrantedIn s request granted held rows (bench_of old) → verb_verdict s request ≡ Some (refusal_of r))
      → reply ≡ []
      → length r.operand.now < 100
      → Settles request granted held rows old new (code.Refused r) reply
  refused_settles places none refused silent short =
      left_settles places none (λ s in_state. undrawn_verdict s [] request none ∙ refused s in_state)
      (silent, short) (λ writes. absurd writes) (λ through. absurd through)

  -- by one that the request as a whole breaks
  pub whole_settles : {r : CodeRefusal} {n : ℕ} → refusal_of r ≡ refusal n (codes "-")
      → ChangesPlaces old new
      → draws_random request ≡ false
      → ((s : State) → IsGrantedIn s request granted held rows (bench_of old) → verb_verdict s request ≡ Some (refusal n (codes "-")))
      → reply ≡ []
      → Settles request granted held rows old new (code.Refused r) reply
  whole_settles {r} same places none refused silent =
      refused_settles places none (λ s in_state. refused s in_state ∙ ap Some (sym same)) silent
      (subst (λ (x : Refusal). length x.operand < 100) (sym same) (omega arith))

  -- a verb that is refused by no rule of its own, and shows some fields
  pub shown_settles : ChangesPlaces old new
      → (fields : State → List Field)
      → draws_random request ≡ false
      → ((s : State) → verb_verdict s request ≡ None)
      → ((s : State) → effect s [] request.name request ≡ Show (fields s))
      → ((s : State) → IsGrantedIn s request granted held rows (bench_of old) → reply ≡ written (fields s))
      → length reply ≤ 69000
      → Settles request granted held rows old new code.Shown reply
  shown_settles places fields none permitted makes shows short =
      settles places
      (λ shaped s in_state left. shows_or s (bench_of new) request None (fields s) code.Shown reply left none (permitted s) (makes s) (refl, record { is = shows s in_state; size = short }))
      (λ shaped. short) (λ writes. absurd writes) (λ through. absurd through)

-- ---- what is taken of the random source

module _ {E T : Type 0} {request : Request} {before now : Source E} where
  pub takes_drawn : {value : T} → now.faults ≡ before.faults → ((s : State) → IsSome (verb_verdict s request) → now.state ≡ before.state)
      → draws_random request ≡ true → TakesOnly request (Ok value) before now
  takes_drawn quiet untouched draws = record {
    entropy = record { later = omega (arith, quiet); fault = λ is. cc is; quiet = λ none. quiet };
    untouched = untouched;
    undrawn = λ none. let no : true ≡ false = sym draws ∙ none in cc no;
    drawing = λ is. cc;
  }

  -- the same where the random source failed
  pub takes_failed : before.faults ≤ now.faults → Rose before.faults now.faults → ((s : State) → IsSome (verb_verdict s request) → now.state ≡ before.state)
      → draws_random request ≡ true → TakesOnly {T = T} request (Err EntropyFault) before now
  takes_failed later rose untouched draws = record {
    entropy = record { later = later; fault = λ is. rose; quiet = λ none. absurd (none refl) };
    untouched = untouched;
    undrawn = λ none. let no : true ≡ false = sym draws ∙ none in cc no;
    drawing = λ is. draws;
  }

-- a request that the random source stops
pub stopped_decides : {request : Request} {granted : Granted} {held : Registers} {rows : List (Option Row)} {old new : Bench} {reply : List ℕ}
    {before now : Option (List ℕ)} → ((s : State) → verb_verdict s request ≡ None) → draws_random request ≡ true → reply ≡ []
    → HasDecided request granted held rows old new (Err EntropyFault) reply before now
stopped_decides permitted draws silent = record {
  decides = λ s is. (permitted s, draws);
  ready = tt;
  named = tt;
  through = tt;
  silent = silent;
  stops = refl;
}

takes_nothing : {E T : Type 0} {request : Request} {value : T} {kept : Source E} → TakesOnly request (Ok value) kept kept
takes_nothing = record {
  entropy = record { later = omega arith; fault = λ is. cc is; quiet = λ none. refl };
  untouched = λ s refused. refl;
  undrawn = λ none. refl;
  drawing = λ is. cc is;
}

-- ---- from the request that a verb stands for to the one that was parsed

module _ {E : Type 0} {request asked : Request} {granted : Granted} {held : Registers} {rows : List (Option Row)} {old new : Lease} where
  -- of a verb that may draw
  pub handed_on_drawing : {result : Result CodeEffect Stop} {reply : List ℕ} {before now : Source E} → request ≡ asked
      → SettlesDrawing asked granted held rows old new result reply before now
      → HaveShapes rows (operands request) granted → Decision request granted held rows old new result reply before now
  handed_on_drawing {result} {reply} {before} {now} is settled shaped =
      subst (λ (r : Request). Decision r granted held rows old new result reply before now) (sym is) (record {
        decided = settled.decided (subst (λ (r : Request). HaveShapes rows (operands r) granted) is shaped);
        takes = settled.takes;
        places = settled.places;
      })

  -- of one that draws nothing
  pub handed_on : {e : CodeEffect} {reply : List ℕ} {kept : Source E} → request ≡ asked → Settles asked granted held rows old new e reply
      → HaveShapes rows (operands request) granted → Decision request granted held rows old new (Ok e) reply kept kept
  handed_on {e} {reply} {kept} is settled shaped =
      handed_on_drawing is (record { decided = λ own. settled.decided own kept.left; takes = takes_nothing; places = settled.places }) shaped

  -- and writes no reply
  pub handed_on_silent : {e : CodeEffect} {reply : List ℕ} {kept : Source E} → request ≡ asked → reply ≡ [] → Settles asked granted held rows old new e []
      → HaveShapes rows (operands request) granted → Decision request granted held rows old new (Ok e) reply kept kept
  handed_on_silent {e} {reply} {kept} is empty settled shaped =
      subst (λ (r : List ℕ). Decision request granted held rows old new (Ok e) r kept kept) (sym empty) (handed_on is settled shaped)

-- a call that draws nothing further, and doesn't fail by the random source
pub takes_on : {E T U : Type 0} {request : Request} {first : Result T Stop} {later : Result U Stop} {before now : Source E}
    → TakesOnly request first before now → (later ≡ Err EntropyFault → first ≡ Err EntropyFault)
    → (first ≡ Err EntropyFault → later ≡ Err EntropyFault) → TakesOnly request later before now
takes_on takes fails failed = record {
  entropy = record {
    later = takes.entropy.later;
    fault = λ is. takes.entropy.fault (fails is);
    quiet = λ none. takes.entropy.quiet (λ is. none (failed is));
  };
  untouched = takes.untouched;
  undrawn = takes.undrawn;
  drawing = λ is. takes.drawing (fails is);
}
