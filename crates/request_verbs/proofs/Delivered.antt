-- A verb that delivers a key under the current master key: from what it leaves to all that is said of its decision.
use Rattle.std.proofs.Common.{◌≡◌, ℕ, List, [], Option, None, false, ◌∙◌}
use Rattle.std.specs.Prelude.{◌≤◌, IsSome, IsTrue, is_some, length}
use Rattle.key_cells.specs.Lease.{bench_of}
use Rattle.key_cells.specs.declared.leases.Lease.{Lease}
use Rattle.record_bodies.specs.declared.rows.Row.{Row}
use Rattle.key_tokens.specs.Denotes.{denoted}
use Rattle.master_registers.specs.Loaded.{masters_in}
use Rattle.master_registers.specs.declared.registers.Registers.{Registers}
use Rattle.verb_rules.specs.Keys.{keys_of}
use Rattle.verb_script.specs.Grammar.{Request}
use Rattle.cca_machine.specs.Act.{effect}
use Rattle.cca_machine.specs.Decided.{IsGrantedIn, Settles}
use Rattle.cca_machine.specs.Deciding.{ChangesPlaces, IsDelivered, IsDelivery}
use Rattle.cca_machine.specs.Draws.{draws_random}
use Rattle.cca_machine.specs.Granted.{HaveShapes, IsPlaceFor}
use Rattle.cca_machine.specs.Operands.{needs_store, operands}
use Rattle.cca_machine.specs.State.{State}
use Rattle.cca_machine.specs.Verdict.{verb_verdict, whole_verb_verdict}
use Rattle.cca_machine.specs.declared.effects.Effect.{Effect as CodeEffect}
use Rattle.cca_machine.specs.declared.granted.Granted.{Granted}
use Rattle.cca_machine.proofs.Acting.{decides, undrawn_verdict}
use Rattle.cca_machine.proofs.Settling.{settles}
use Rattle.request_verbs.specs.Drawing.{IsHeldPlace}
use Rattle.request_verbs.proofs.Delivering.{delivered_left, delivery_named, delivery_ready, delivery_single}

module _ {request : Request} {granted : Granted} {held : Registers} {rows : List (Option Row)} {old new : Lease} {e : CodeEffect} {reply : List ℕ} where
  -- into the record of a label, where one is named
  pub delivery_settles : ChangesPlaces old new
      → (named : Option (List ℕ)) (place : Option ℕ) (token : List ℕ)
      → draws_random request ≡ false
      → (IsTrue (is_some named) → IsTrue (needs_store request))
      → ((s : State) → IsGrantedIn s request granted held rows (bench_of old) → verb_verdict s request ≡ None)
      → ((s : State) → IsGrantedIn s request granted held rows (bench_of old) → IsDelivered s (effect s [] request.name request) e reply)
      → (HaveShapes rows (operands request) granted → IsHeldPlace rows place)
      → IsPlaceFor named place
      → IsDelivery token place e
      → IsSome (denoted (keys_of (masters_in held (bench_of new))) token)
      → length reply ≤ 69000
      → Settles request granted held rows old new e reply
  delivery_settles places named place token none needs permitted delivered held_place target delivery stands short =
      settles places
      (λ shaped s in_state left. decides s (bench_of new) request e reply left none
      (delivered_left s (bench_of new) request (whole_verb_verdict s [] request) (effect s [] request.name request) e reply
      (undrawn_verdict s [] request none ∙ permitted s in_state) (delivered s in_state)))
      (λ shaped. delivery_ready rows place token (held_place shaped) held (bench_of new) e reply delivery stands short)
      (λ writes. needs (delivery_named named place token e target delivery writes))
      (λ through. absurd (delivery_single place token e delivery through))
