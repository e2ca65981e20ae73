-- What the random bytes of a key make of a request.
use Rattle.std.proofs.Common.{◌≡◌, ◌∙◌, ℕ, Bool, true, false, List, [], Option, None, Some, refl, sym, ap, subst, codes, arith}
use Rattle.std.proofs.KnownBytes.{Consumes-nil}
use Rattle.std.specs.Borrow.{Bor}
use Rattle.std.specs.Prelude.{◌≤◌, ◌<◌, IsNone, IsSome, IsTrue, Result, Ok, Err, is_some, length, if◌then◌else◌}
use Rattle.cca_vectors.specs.declared.key_length.Length.{Length}
use Rattle.key_cells.specs.Lease.{bench_of}
use Rattle.key_cells.specs.declared.leases.Lease.{Lease}
use Rattle.record_bodies.specs.declared.rows.Row.{Row}
use Rattle.key_tokens.specs.Denotes.{denoted}
use Rattle.key_transport.specs.Generated.{Draws}
use Rattle.key_transport.specs.UniqueHalves.{key_taken}
use Rattle.line_service.specs.Devices.{TellsFault}
use Rattle.line_service.specs.declared.stops.Stop.{Stop}
use Rattle.line_service.specs.declared.stops.Stop.TheVariants.{EntropyFault}
use Rattle.master_registers.specs.Loaded.{masters_in}
use Rattle.master_registers.specs.declared.registers.Registers.{Registers}
use Rattle.verb_rules.specs.Keys.{keys_of}
use Rattle.verb_rules.specs.declared.rules.Rule.TheVariants.{UniqueHalves}
use Rattle.verb_script.specs.Grammar.{Request}
use Rattle.cca_machine.specs.Act.{effect}
use Rattle.cca_machine.specs.Draws.{Draw, KeyBytes, bytes_drawn, draw_of, is_drawing}
use Rattle.cca_machine.specs.Lines.{drawn_where}
use Rattle.cca_machine.specs.Operands.{needs_store, operands}
use Rattle.cca_machine.specs.State.{State}
use Rattle.cca_machine.specs.Verdict.{Refusal, draw_verdict, or_last, refusal, verb_verdict, whole_verb_verdict}
use Rattle.cca_machine.specs.Decided.{IsGrantedIn, SettlesDrawing, Source, TakesOnly}
use Rattle.cca_machine.specs.Deciding.{ChangesPlaces, GoesThrough, IsDelivered, IsDelivery, IsReady, WritesStore, HasDrawn}
use Rattle.request_verbs.specs.Drawing.{IsHeldPlace, RefusesDrawn}
use Rattle.cca_machine.specs.Granted.{HaveShapes, IsPlaceFor}
use Rattle.cca_machine.specs.Refusals.{HasRefused, IsRefusal, refusal_of}
use Rattle.cca_machine.specs.declared.effects.Effect.{Effect as CodeEffect}
use Rattle.cca_machine.specs.declared.effects.Effect.TheVariants as code
use Rattle.cca_machine.specs.declared.granted.Granted.{Granted}
use Rattle.cca_machine.specs.declared.refusals.Refusal.{Refusal as CodeRefusal}
use Rattle.request_verbs.specs.declared.verbs.csnbkgn.Drawn.{Drawn}
use Rattle.request_verbs.proofs.Delivering.{delivered_left, delivery_named, delivery_ready, delivery_single}
use Rattle.cca_machine.proofs.Settling.{stopped_decides}

-- a rule that the machine knows as broken is one that was found
pub some_broken : (v : Option Refusal) (broken : Option CodeRefusal) → HasRefused v broken → IsSome v → IsSome broken
some_broken v None has some = let no : IsSome {T = Refusal} None = subst IsSome has some in cc no
some_broken v (Some r) has some = refl

pub none_broken : (v : Option Refusal) (broken : Option CodeRefusal) → HasRefused v broken → IsNone broken → v ≡ None
none_broken v None has none = has
none_broken v (Some r) has none = cc none

-- ---- by what they refuse it

refused_before : (r : Refusal) (last : Option Refusal) → or_last (Some r) last ≡ Some r
refused_before r None = refl
refused_before r (Some last) = refl

-- by a rule that is asked before any is drawn
pub refuses_early : (v : Option Refusal) (key_length : Length) (left : Option (List ℕ)) (r : CodeRefusal) → IsRefusal v r
    → RefusesDrawn v key_length left left r
refuses_early v key_length left r broken =
    let last = draw_verdict (KeyBytes key_length) [] in
    record {
      drawn = [];
      refused = record { is = ap (λ (x : Option Refusal). or_last x last) broken.is ∙ refused_before (refusal_of r) last; short = broken.short };
      random = record { consumed = Consumes-nil left; size = sym (ap (λ (x : Option Refusal). drawn_where x (key_taken key_length [])) broken.is) };
    }

-- by the last rule
pub refuses_late : (v : Option Refusal) (key_length : Length) (before now : Option (List ℕ)) (operand : Bor (List ℕ)) → v ≡ None → Draws key_length before now true
    → operand.now ≡ codes "length" → RefusesDrawn v key_length before now (record { rule = UniqueHalves; operand = operand })
refuses_late v key_length before now operand none draw named = record {
  drawn = draw.drawn;
  refused = record {
    is = ap (λ (repeated : Bool). or_last v (if repeated then Some (refusal 34 (codes "length")) else None)) draw.is_repeated
        ∙ (ap (λ (x : Option Refusal). or_last x (Some (refusal 34 (codes "length")))) none ∙ ap (λ (n : List ℕ). Some (refusal 34 n)) (sym named));
    short = subst (λ (n : List ℕ). length n < 100) (sym named) (omega arith);
  };
  random = record { consumed = draw.consumed; size = draw.size ∙ ap (λ (x : Option Refusal). drawn_where x (key_taken key_length draw.drawn)) (sym none) };
}

-- ---- what they make of it

module _ (s : State) (request : Request) (key_length : Length) (v : Option Refusal) (drawn : List ℕ)
    (draws : draw_of request.name request ≡ KeyBytes key_length) (verdict : verb_verdict s request ≡ v) where
  -- the verdict of the verb by these bytes
  whole_by : whole_verb_verdict s drawn request ≡ or_last v (draw_verdict (KeyBytes key_length) drawn)
  whole_by =
      ap (λ (x : Option Refusal). or_last x (draw_verdict (draw_of request.name request) drawn)) verdict
      ∙ ap (λ (d : Draw). or_last v (draw_verdict d drawn)) draws

  -- and how many are drawn
  drawn_by : (before now : Option (List ℕ)) → HasDrawn drawn (drawn_where v (key_taken key_length drawn)) before now
      → HasDrawn drawn (drawn_where (verb_verdict s request) (bytes_drawn (draw_of request.name request) drawn)) before now
  drawn_by before now has =
      subst (λ (d : Draw). HasDrawn drawn (drawn_where (verb_verdict s request) (bytes_drawn d drawn)) before now) (sym draws)
      (subst (λ (x : Option Refusal). HasDrawn drawn (drawn_where x (key_taken key_length drawn)) before now) (sym verdict) has)

-- what is taken of the random source
takes_key : {E T : Type 0} {request : Request} {before now : Source E} {drew : Result Drawn Stop} {key_length : Length} {v : Option Refusal}
    (result : Result T Stop)
    → draw_of request.name request ≡ KeyBytes key_length
    → ((s : State) → verb_verdict s request ≡ v)
    → TellsFault before.faults now.faults (drew ≡ Err EntropyFault)
    → (IsSome v → now.state ≡ before.state)
    → (result ≡ Err EntropyFault → drew ≡ Err EntropyFault)
    → (drew ≡ Err EntropyFault → result ≡ Err EntropyFault) → TakesOnly request result before now
takes_key result draws verdict told untouched fails failed = record {
  entropy = record {
    later = told.later;
    fault = λ is. told.fault (fails is);
    quiet = λ none. told.quiet (λ is. none (failed is));
  };
  untouched = λ s refused. untouched (subst IsSome (verdict s) refused);
  undrawn = λ none. let no : true ≡ false = sym (ap is_drawing draws) ∙ none in cc no;
  drawing = λ is. ap is_drawing draws;
}

-- The bytes are those of a key of this length, and this is the first rule of the verb that is asked before they are drawn.
-- Where it is broken the random source is as it was. Of the lease no more than the places of a verb changed.
module _ {E : Type 0} {request : Request} {granted : Granted} {held : Registers} {rows : List (Option Row)} {old new : Lease}
    {before now : Source E} {drew : Result Drawn Stop} {key_length : Length} {v : Option Refusal}
    (draws : draw_of request.name request ≡ KeyBytes key_length)
    (verdict : (s : State) → verb_verdict s request ≡ v)
    (told : TellsFault before.faults now.faults (drew ≡ Err EntropyFault))
    (untouched : IsSome v → now.state ≡ before.state)
    (places : ChangesPlaces old new) where
  -- a rule refuses the request
  pub drawn_refused : {d : Drawn} {r : CodeRefusal} {reply : List ℕ} → drew ≡ Ok d
      → RefusesDrawn v key_length before.left now.left r → reply ≡ []
      → SettlesDrawing request granted held rows old new (Ok (code.Refused r)) reply before now
  drawn_refused is refuses silent = record {
    decided = λ shaped. record {
      decides = λ s in_state. record {
        drawn = refuses.drawn;
        decided = whole_by s request key_length v refuses.drawn draws (verdict s) ∙ refuses.refused.is;
        random = drawn_by s request key_length v refuses.drawn draws (verdict s) before.left now.left refuses.random;
      };
      ready = (silent, refuses.refused.short);
      named = λ writes. absurd writes;
      through = λ through. absurd through;
      silent = tt;
      stops = tt;
    };
    takes = takes_key _ draws verdict told untouched (λ fails. cc fails) (λ failed. cc (failed, is));
    places = places;
  }

  -- the random source stopped
  pub drawn_stopped : {stop : Stop} {reply : List ℕ} → drew ≡ Err stop → stop ≡ EntropyFault → v ≡ None → reply ≡ []
      → SettlesDrawing request granted held rows old new (Err stop) reply before now
  drawn_stopped {stop} {reply} is stops none silent =
      subst (λ (x : Stop). SettlesDrawing request granted held rows old new (Err x) reply before now) (sym stops)
      (record {
        decided = λ shaped. stopped_decides (λ s. verdict s ∙ none) (ap is_drawing draws) silent;
        takes = takes_key _ draws verdict told untouched (λ fails. is ∙ ap Err stops) (λ failed. refl);
        places = places;
      })

  -- a key is made of them
  pub drawn_left : {keys : Drawn} {e : CodeEffect} {reply : List ℕ} → drew ≡ Ok keys → v ≡ None → (draw : Draws key_length before.left now.left false)
      → ((s : State) → IsGrantedIn s request granted held rows (bench_of old) → IsDelivered s (effect s draw.drawn request.name request) e reply)
      → (HaveShapes rows (operands request) granted → IsReady held (bench_of new) rows e reply)
      → (WritesStore e → IsTrue (needs_store request))
      → (GoesThrough e → ⊥)
      → SettlesDrawing request granted held rows old new (Ok e) reply before now
  drawn_left {keys} {e} {reply} is none draw delivered ready named single = record {
    decided = λ shaped. record {
      decides = λ s in_state. record {
        drawn = draw.drawn;
        decided = delivered_left s (bench_of new) request (whole_verb_verdict s draw.drawn request) (effect s draw.drawn request.name request) e reply
            (whole_by s request key_length v draw.drawn draws (verdict s) ∙ (ap (λ (repeated : Bool). or_last v (if repeated then Some (refusal 34 (codes "length")) else None)) draw.is_repeated ∙ none))
            (delivered s in_state);
        random = drawn_by s request key_length v draw.drawn draws (verdict s) before.left now.left (record { consumed = draw.consumed; size = draw.size ∙ ap (λ (x : Option Refusal). drawn_where x (key_taken key_length draw.drawn)) (sym none) });
      };
      ready = ready shaped;
      named = named;
      through = λ through. absurd (single through);
      silent = tt;
      stops = tt;
    };
    takes = takes_key _ draws verdict told untouched (λ fails. cc fails) (λ failed. cc (failed, is));
    places = places;
  }

  -- and goes into the record of a label, where one is named
  pub drawn_delivered : {keys : Drawn} {e : CodeEffect} {reply : List ℕ} (named : Option (List ℕ)) (place : Option ℕ) (token : List ℕ)
      → drew ≡ Ok keys → v ≡ None → (draw : Draws key_length before.left now.left false)
      → (IsTrue (is_some named) → IsTrue (needs_store request))
      → ((s : State) → IsGrantedIn s request granted held rows (bench_of old) → IsDelivered s (effect s draw.drawn request.name request) e reply)
      → (HaveShapes rows (operands request) granted → IsHeldPlace rows place)
      → IsPlaceFor named place
      → IsDelivery token place e
      → IsSome (denoted (keys_of (masters_in held (bench_of new))) token)
      → length reply ≤ 69000
      → SettlesDrawing request granted held rows old new (Ok e) reply before now
  drawn_delivered {keys} {e} {reply} named place token is none draw needs delivered held_place target delivery stands short =
      drawn_left is none draw delivered
      (λ shaped. delivery_ready rows place token (held_place shaped) held (bench_of new) e reply delivery stands short)
      (λ writes. needs (delivery_named named place token e target delivery writes))
      (delivery_single place token e delivery)
