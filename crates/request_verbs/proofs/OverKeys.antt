-- What the operands of a request over keys are, where the request that was parsed was judged to meet what its verb needs.
use Rattle.std.proofs.Common.{◌≡◌, ℕ, true, List, Option, None, Some, refl, subst, sym}
use Rattle.std.specs.Prelude.{IsSome}
use Rattle.key_cells.specs.Bench.{Bench}
use Rattle.record_bodies.specs.declared.rows.Row.{Row}
use Rattle.master_registers.specs.declared.registers.Registers.{Registers}
use Rattle.verb_script.specs.Grammar.{Request}
use Rattle.verb_script.specs.Named.{label_named}
use Rattle.cca_machine.specs.Granted.{HasDoubleKey, HasJudged, HasSomeJudged, HasTarget, IsPlaceFor}
use Rattle.cca_machine.specs.declared.granted.Grant.{Grant}
use Rattle.cca_machine.specs.declared.granted.Granted.{Granted}
use Rattle.verb_rules.specs.declared.needs.Need.{Need}
use Rattle.cca_machine.specs.Decided.{CanDecide, CanDeliver}

-- a key that was judged by some need
pub some_key : {need : Need} {grant : Grant} → HasJudged need grant → HasSomeJudged grant
some_key has = record { need = _; has = has }

-- by one that asks for two halves
pub double_key : {need : Need} {grant : Grant} → need.double ≡ true → HasJudged need grant → HasDoubleKey grant
double_key double has = record { need = _; has = has; double = double }

-- a target that the memory knows is a place for it
pub place_for : (rows : List (Option Row)) (named : Option (List ℕ)) (grant : Grant) → HasTarget rows named grant → IsPlaceFor named grant.place
place_for rows None grant target = target
place_for rows (Some label) grant target = (target.label_is, subst IsSome (sym target.is) refl)

module _ {granted : Granted} {held : Registers} {rows : List (Option Row)} {bench : Bench} {reply : List ℕ} where
  -- the request that a verb stands for was judged to meet the same
  pub can_of : {request asked : Request} → request ≡ asked → CanDecide request granted held rows bench reply
      → CanDecide asked granted held rows bench reply
  can_of is can = subst (λ (r : Request). CanDecide r granted held rows bench reply) is can

  -- a key can be delivered to a target
  pub can_deliver : {request : Request} (to : List ℕ) (grant : Grant) → CanDecide request granted held rows bench reply → IsSome held.current_pattern
      → HasTarget rows (label_named to) grant → CanDeliver held bench to grant.place reply
  can_deliver to grant can master target = record {
    target = place_for rows (label_named to) grant target;
    master = master;
    loaded = can.loaded;
    empty = can.empty;
  }
