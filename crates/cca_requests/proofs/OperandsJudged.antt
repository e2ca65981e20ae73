-- What follows for the verdict where the operands were judged.
use Rattle.std.proofs.Common.{◌≡◌, ◌∙◌, ℕ, List, Option, None, Some, codes, length, sym, ap, subst, arith}
use Rattle.std.specs.Option.{option_map}
use Rattle.std.specs.Prelude.{◌<◌}
use Rattle.cca_vectors.specs.Checks.{first_failing}
use Rattle.key_cells.specs.Bench.{Bench}
use Rattle.line_service.specs.Replies.{Refused, spelled}
use Rattle.verb_rules.specs.Rules.{rule_number}
use Rattle.verb_rules.specs.declared.rules.Rule.{Rule}
use Rattle.verb_script.specs.Grammar.{Request}
use Rattle.cca_machine.specs.Operands.{Operands, operands}
use Rattle.cca_machine.specs.State.{State}
use Rattle.cca_machine.specs.Verdict.{Refusal, general_checks, or_then, refusal, verdict_by}
use Rattle.cca_machine.specs.Granted.{AreGranted}
use Rattle.request_rules.specs.Judging.{IsJudged}
use Rattle.cca_machine.specs.Refusals.{refusal_of}
use Rattle.cca_machine.specs.declared.granted.Granted.{Granted}
use Rattle.request_rules.specs.declared.judging.Verdict.{Verdict}
use Rattle.request_rules.specs.declared.judging.Verdict.TheVariants as code
use Rattle.cca_machine.specs.declared.refusals.Refusal.{Refusal as CodeRefusal}
use Rattle.cca_machine.proofs.Acting.{verdict_operands}

-- ---- a rule that the request as a whole breaks

module _ (r : CodeRefusal) {n : ℕ} (same : refusal_of r ≡ refusal n (codes "-")) where
  pub whole_short : length r.operand.now < 100
  whole_short = subst (λ (x : Refusal). length x.operand < 100) (sym same) (omega arith)

  pub whole_spelled : {reply : List ℕ} → reply ≡ spelled (Refused (rule_number r.rule) r.operand.now) → reply ≡ spelled (Refused n (codes "-"))
  whole_spelled is = is ∙ ap (λ (x : Refusal). spelled (Refused x.rule x.operand)) same

-- ---- the operands

module _ (s : State) (bench : Bench) (request : Request) where
  module _ {rule : Option Rule} {os : Operands} {judged : Verdict} where
    -- a rule that an operand breaks is the verdict
    pub operands_refused : (r : CodeRefusal)
        → option_map rule_number rule ≡ first_failing (general_checks s request) → rule ≡ None → os ≡ operands request
        → IsJudged s bench os judged → judged ≡ code.Refused r
        → (verb : Option Refusal) → verdict_by s request verb ≡ or_then (Some (refusal_of r)) verb
    operands_refused r general none table verdict is =
        let passes : first_failing (general_checks s request) ≡ None = sym general ∙ ap (option_map rule_number) none in
        let own = subst (λ (o : Operands). IsJudged s bench o judged) table verdict in
        verdict_operands s request (Some (refusal_of r)) passes
        (subst (λ (v : Verdict). IsJudged s bench (operands request) v) is own)

    -- where they break none the verdict is the verb's
    pub operands_granted : (granted : Granted)
        → option_map rule_number rule ≡ first_failing (general_checks s request) → rule ≡ None → os ≡ operands request
        → IsJudged s bench os judged → judged ≡ code.Granted granted
        → AreGranted s bench (operands request) granted × ((verb : Option Refusal) → verdict_by s request verb ≡ verb)
    operands_granted granted general none table verdict is =
        let passes : first_failing (general_checks s request) ≡ None = sym general ∙ ap (option_map rule_number) none in
        let own = subst (λ (o : Operands). IsJudged s bench o judged) table verdict in
        let grants : IsJudged s bench (operands request) (code.Granted granted) = subst (λ (v : Verdict). IsJudged s bench (operands request) v) is own in
        (grants.1, verdict_operands s request None passes grants.0)
