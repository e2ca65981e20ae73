-- Verbs that draw nothing: what they show over the clear key of a token that was judged.
use Rattle.std.proofs.Common.{◌≡◌, ℕ, List, [], Option, false, sym, subst, codes}
use Rattle.key_cells.specs.Bench.{Bench}
use Rattle.key_tokens.specs.Denotes.{ClearKey}
use Rattle.line_service.specs.Replies.{Field}
use Rattle.verb_script.specs.Grammar.{Request, value_of}
use Rattle.cca_machine.specs.Act.{Show, effect}
use Rattle.cca_machine.specs.Draws.{draws_random}
use Rattle.cca_machine.specs.Keys.{key_in_text, key_of_request}
use Rattle.cca_machine.specs.Operands.{operands}
use Rattle.cca_machine.specs.State.{State}
use Rattle.cca_machine.specs.Verdict.{Refusal, verb_verdict}
use Rattle.cca_machine.specs.Deciding.{Decides, ShowsOr}
use Rattle.cca_machine.specs.Granted.{AreGranted, HasKey}
use Rattle.cca_machine.specs.declared.effects.Effect.{Effect as CodeEffect}
use Rattle.cca_machine.specs.declared.granted.Granted.{Granted}
use Rattle.cca_machine.proofs.Acting.{shows_or}

-- over operands that were granted, a request shows some fields over its key, or is refused
pub record IsKeyed (request : Request) (v : ClearKey → Option Refusal)
    (fields : ClearKey → List Field) : Type 0 where
  pub undrawn : draws_random request ≡ false
  pub has : (s : State) (bench : Bench) (granted : Granted)
      → AreGranted s bench (operands request) granted
      → HasKey bench (key_in_text s (value_of request (codes "key"))) granted.first
  pub verdict : (s : State) → verb_verdict s request ≡ v (key_of_request s request)
  pub makes : (s : State) → effect s [] request.name request ≡ Show (fields (key_of_request s request))

-- a verb that shows some fields over the key of the request, or is refused
pub keyed_shows : (s : State) (bench : Bench) (request : Request) (clear : ClearKey) (v : ClearKey → Option Refusal) (fields : ClearKey → List Field)
    (e : CodeEffect) (reply : List ℕ) (left : Option (List ℕ))
    → IsKeyed request v fields → key_of_request s request ≡ clear → ShowsOr (v clear) (fields clear) e reply
    → Decides s bench request e reply left left
keyed_shows s bench request clear v fields e reply left keyed key shown =
    shows_or s bench request (v (key_of_request s request)) (fields (key_of_request s request)) e reply left
    keyed.undrawn (keyed.verdict s) (keyed.makes s)
    (subst (λ (k : ClearKey). ShowsOr (v k) (fields k) e reply) (sym key) shown)
