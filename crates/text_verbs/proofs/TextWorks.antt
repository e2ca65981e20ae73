-- Requests over a text, from the one that was parsed to what is worked on.
use Rattle.std.proofs.Common.{◌≡◌, Bool, true, false, ℕ, List, [], sym, subst}
use Rattle.std.specs.Prelude.{IsTrue, Option}
use Rattle.key_cells.specs.Bench.{Bench}
use Rattle.key_cells.specs.declared.leases.Lease.{Lease}
use Rattle.record_bodies.specs.declared.rows.Row.{Row}
use Rattle.master_registers.specs.declared.registers.Registers.{Registers}
use Rattle.text_segments.specs.declared.modes.Mode.TheVariants.{Encipher, Decipher, Mac}
use Rattle.verb_rules.specs.declared.needs.Need.{Need}
use Rattle.verb_script.specs.Grammar.{Request, accepts, hex_text}
use Rattle.cca_machine.specs.Granted.{HasJudged}
use Rattle.cca_machine.specs.declared.granted.Granted.{Granted}
use Rattle.cca_machine.specs.Decided.{HasPassed, HasTextFor, Settles, SettlesOver}
use Rattle.text_verbs.specs.TextWorks.{HasCipher, IsWorkOf, MayWork, work_request}
use Rattle.cca_machine.specs.declared.effects.Effect.{Effect as CodeEffect}
use Rattle.text_verbs.specs.declared.codes.Purpose.TheVariants.{Generate, Verify}
use Rattle.text_verbs.specs.declared.works.TextWork.{TextWork}
use Rattle.text_verbs.specs.declared.works.TextWork.TheVariants.{Whole, First, Middle, Last, WholeCode, FirstCode, MiddleCode, LastCode}

-- the same request, settled
pub settled_as : {request other : Request} {granted : Granted} {old new : Lease} {e : CodeEffect} {reply : List ℕ} → request ≡ other
    → SettlesOver other granted old new e reply → SettlesOver request granted old new e reply
settled_as {granted} {old} {new} {e} {reply} is settled held rows =
    subst (λ (r : Request). Settles r granted held rows old new e reply) (sym is) (settled held rows)

given_for : {need : Need} {granted : Granted} {text reply : List ℕ} → HasJudged need granted.first → IsTrue (accepts hex_text text) → reply ≡ []
    → HasTextFor granted text reply
given_for {need} has digits empty = record { key = record { need = need; has = has }; digits = digits; empty = empty }

module _ {granted : Granted} {held : Registers} {rows : List (Option Row)} {bench : Bench} {reply : List ℕ} where
  passed_work : (work : TextWork) (verifies : Bool) (role key segment : List ℕ) → HasCipher work
      → HasPassed (work_request work verifies role key segment) granted held rows bench → reply ≡ [] → MayWork granted work reply
  passed_work (Whole Encipher iv pad text) verifies role key segment cipher p empty =
      record { given = given_for p.shaped.0 p.accepted.1.1.1.1.0 empty; fields = (tt, p.accepted.1.1.0) }
  passed_work (Whole Decipher iv pad text) verifies role key segment cipher p empty =
      record { given = given_for p.shaped.0 p.accepted.1.1.1.1.0 empty; fields = (tt, p.accepted.1.1.0) }
  passed_work (Whole (Mac rule) iv pad text) verifies role key segment cipher p empty = absurd cipher
  passed_work (First Encipher iv text) verifies role key segment cipher p empty =
      record { given = given_for p.shaped.0 p.accepted.1.1.1.1.0 empty; fields = (tt, p.accepted.1.1.1.0) }
  passed_work (First Decipher iv text) verifies role key segment cipher p empty =
      record { given = given_for p.shaped.0 p.accepted.1.1.1.1.0 empty; fields = (tt, p.accepted.1.1.1.0) }
  passed_work (First (Mac rule) iv text) verifies role key segment cipher p empty = absurd cipher
  passed_work (Middle Encipher chain text) verifies role key segment cipher p empty =
      record { given = given_for p.shaped.0 p.accepted.1.1.1.1.0 empty; fields = (tt, p.accepted.1.1.1.0) }
  passed_work (Middle Decipher chain text) verifies role key segment cipher p empty =
      record { given = given_for p.shaped.0 p.accepted.1.1.1.1.0 empty; fields = (tt, p.accepted.1.1.1.0) }
  passed_work (Middle (Mac rule) chain text) verifies role key segment cipher p empty = absurd cipher
  passed_work (Last Encipher chain pad text) verifies role key segment cipher p empty =
      record { given = given_for p.shaped.0 p.accepted.1.1.1.1.1.0 empty; fields = (tt, p.accepted.1.1.1.0) }
  passed_work (Last Decipher chain pad text) verifies role key segment cipher p empty =
      record { given = given_for p.shaped.0 p.accepted.1.1.1.1.1.0 empty; fields = (tt, p.accepted.1.1.1.0) }
  passed_work (Last (Mac rule) chain pad text) verifies role key segment cipher p empty = absurd cipher
  passed_work (WholeCode rule (Generate count) text) verifies role key segment cipher p empty =
      record { given = given_for p.shaped.0 p.accepted.1.1.1.1.0 empty; fields = tt }
  passed_work (WholeCode rule (Verify mac) text) verifies role key segment cipher p empty =
      record { given = given_for p.shaped.0 p.accepted.1.1.1.1.0 empty; fields = p.accepted.1.1.1.0 }
  passed_work (FirstCode rule text) true role key segment cipher p empty =
      record { given = given_for p.shaped.0 p.accepted.1.1.1.1.0 empty; fields = tt }
  passed_work (FirstCode rule text) false role key segment cipher p empty =
      record { given = given_for p.shaped.0 p.accepted.1.1.1.1.0 empty; fields = tt }
  passed_work (MiddleCode rule chain text) true role key segment cipher p empty =
      record { given = given_for p.shaped.0 p.accepted.1.1.1.1.1.0 empty; fields = p.accepted.1.1.1.1.0 }
  passed_work (MiddleCode rule chain text) false role key segment cipher p empty =
      record { given = given_for p.shaped.0 p.accepted.1.1.1.1.1.0 empty; fields = p.accepted.1.1.1.1.0 }
  passed_work (LastCode rule chain (Generate count) text) verifies role key segment cipher p empty =
      record { given = given_for p.shaped.0 p.accepted.1.1.1.1.1.1.0 empty; fields = (tt, p.accepted.1.1.1.1.1.0) }
  passed_work (LastCode rule chain (Verify mac) text) verifies role key segment cipher p empty =
      record { given = given_for p.shaped.0 p.accepted.1.1.1.1.1.1.0 empty; fields = (p.accepted.1.1.1.1.0, p.accepted.1.1.1.1.1.0) }

  pub may_work : {request : Request} {work : TextWork} → IsWorkOf request work → HasPassed request granted held rows bench → reply ≡ []
      → MayWork granted work reply
  may_work {request} {work} of passed empty =
      passed_work work of.verifies of.role of.key of.segment of.cipher
      (subst (λ (r : Request). HasPassed r granted held rows bench) of.is passed) empty
