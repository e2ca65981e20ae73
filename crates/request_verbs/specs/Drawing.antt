-- Random bytes that are drawn for a key, and what comes of them.
use Rattle.std.specs.Prelude.{◌≡◌, ℕ, List, Option, Some, None, ⊤}
use Rattle.cca_vectors.specs.declared.key_length.Length.{Length}
use Rattle.cca_vectors.specs.declared.key_type.KeyType.{KeyType}
use Rattle.key_cells.specs.Bench.{Bench}
use Rattle.record_bodies.specs.declared.rows.Row.{Row}
use Rattle.key_transport.specs.Generated.{Generates}
use Rattle.key_transport.specs.UniqueHalves.{key_taken}
use Rattle.key_transport.specs.declared.generating.Form.{Form}
use Rattle.master_registers.specs.declared.registers.Registers.{Registers}
use Rattle.verb_rules.specs.declared.judging.Judged.{Judged}
use Rattle.cca_machine.specs.Draws.{KeyBytes}
use Rattle.cca_machine.specs.Lines.{drawn_where}
use Rattle.cca_machine.specs.Verdict.{Refusal, draw_verdict, or_last}
use Rattle.cca_machine.specs.Refusals.{IsRefusal}
use Rattle.cca_machine.specs.declared.refusals.Refusal.{Refusal as CodeRefusal}
use Rattle.cca_machine.specs.Deciding.{IsHeldAt, HasDrawn}
use Rattle.request_verbs.specs.declared.verbs.csnbkgn.Drawn.{Drawn}
use Rattle.request_verbs.specs.declared.verbs.csnbkgn.Drawn.TheVariants.{Keys, Refused}

-- the memory knows the label at a place, where there is one
abbrev pub IsHeldPlace : List (Option Row) → Option ℕ → Type 0
IsHeldPlace rows None = ⊤
IsHeldPlace rows (Some place) = IsHeldAt rows place

-- The random bytes of a key by which a request is refused: by a rule that is asked before any is
-- drawn, or by the last.
pub record RefusesDrawn (v : Option Refusal) (key_length : Length) (before now : Option (List ℕ))
    (r : CodeRefusal) : Type 0 where
  pub drawn : List ℕ
  pub refused : IsRefusal (or_last v (draw_verdict (KeyBytes key_length) drawn)) r
  pub random : HasDrawn drawn (drawn_where v (key_taken key_length drawn)) before now

-- the tokens of a form are made of them, or they refuse the request
abbrev pub MakesKeys : Option Refusal → Registers → Bench → Form → Length → KeyType → KeyType
    → Option Judged → Option Judged → Option (List ℕ) → Option (List ℕ) → Drawn → Type 0
MakesKeys v held bench form key_length first second one two before now (Keys keys) =
    (v ≡ None) × Generates held bench form key_length first second one two before now keys
MakesKeys v held bench form key_length first second one two before now (Refused r) =
    RefusesDrawn v key_length before now r
