-- What is said of one operand, by what is asked of it.
use Rattle.std.proofs.Common.{◌≡◌, ◌∙◌, ℕ, List, [], ◌∷◌, Option, None, Some, Result, Ok, Err, sym, ap, subst}
use Rattle.std.specs.Prelude.{IfOk, IsErrAnd}
use Rattle.record_bodies.specs.declared.rows.Row.{Row}
use Rattle.key_cells.specs.Bench.{Bench}
use Rattle.line_service.specs.declared.stops.Stop.{Stop}
use Rattle.master_registers.specs.Masters.{Masters}
use Rattle.verb_rules.specs.declared.needs.Need.{Need}
use Rattle.verb_rules.specs.declared.rules.Rule.{Rule}
use Rattle.verb_rules.specs.Rules.{rule_number}
use Rattle.cca_machine.specs.Operands.{Operands, any_key, listed}
use Rattle.cca_machine.specs.State.{State}
use Rattle.cca_machine.specs.Verdict.{first_refusal, operand_questions, or_refused, refusal}
use Rattle.cca_machine.specs.declared.asking.Ask.{Ask}
use Rattle.cca_machine.specs.declared.asking.Ask.TheVariants.{Key, Record}
use Rattle.cca_machine.specs.Granted.{HasJudged, HasShape, IsKeyed}
use Rattle.cca_machine.specs.declared.granted.Grant.{Grant}
use Rattle.request_rules.specs.Judging.{IsAsked, IsKeyedAnswer, IsShaped}

-- what is certain in every state
module _ (rows : List (Option Row)) (text : List ℕ) (ask : Ask) where
  pub shaped_in : (few : List (Option Row)) (other : List ℕ) (one asked : Ask) (a : Result Grant Rule) → ask ≡ asked
      → ((grant : Grant) → HasShape few other one grant → HasShape rows text asked grant) → IsShaped few other one a → IsShaped rows text ask a
  shaped_in few other one asked (Err _) is gives shaped = tt
  shaped_in few other one asked (Ok grant) is gives shaped = subst (λ (a : Ask). HasShape rows text a grant) (sym is) (gives grant shaped)

  pub label_shaped : (need : Need) (r : Result (Result Grant Rule) Stop) → ask ≡ Key need → IfOk r (IsShaped [] [] (Key need)) → IfOk r (IsShaped rows text ask)
  label_shaped need (Err _) is shaped = tt
  label_shaped need (Ok a) is shaped = shaped_in [] [] (Key need) (Key need) a is (λ grant shape. shape) shaped

  pub record_shaped : (need : Need) (r : Result (Result Grant Rule) Stop) → ask ≡ Record → need ≡ any_key → IfOk r (IsShaped [] [] (Key need)) → IfOk r (IsShaped rows text ask)
  record_shaped need (Err _) is any shaped = tt
  record_shaped need (Ok a) is any shaped = shaped_in [] [] (Key need) Record a is (λ grant shape. subst (λ (n : Need). HasJudged n grant) any shape) shaped

-- whether a token stands for a key
module _ (m : Masters) (text : List ℕ) (ask asked : Ask) (is : ask ≡ asked) (keyed : IsKeyed m text asked) where
  pub keyed_in : (a : Result Grant Rule) → IsKeyedAnswer m text ask a
  keyed_in (Err _) = tt
  keyed_in (Ok grant) = subst (IsKeyed m text) (sym is) keyed

  pub label_keyed : (r : Result (Result Grant Rule) Stop) → IfOk r (IsKeyedAnswer m text ask)
  label_keyed (Err _) = tt
  label_keyed (Ok a) = keyed_in a

-- ---- the verdict, by the answers

pub stopped_says : {T : Type 0} (P : T → Type 0) (Q : Stop → Type 0) (r : Result T Stop) → IsErrAnd r Q → IfOk r P
stopped_says P Q (Ok x) stops = absurd stops
stopped_says P Q (Err _) stops = tt

module _ (s : State) (bench : Bench) (os : Operands) (broken : Rule) where
  pub first_refused : IsAsked s bench os.first.text os.first.ask (Err broken)
      → first_refusal (operand_questions s (listed os)) ≡ Some (refusal (rule_number broken) os.first.name)
  first_refused fails = ap (λ (o : Option ℕ). or_refused o os.first.name (first_refusal (operand_questions s (os.second ∷ os.third ∷ [])))) fails

  module _ (first : Grant) (granted : IsAsked s bench os.first.text os.first.ask (Ok first)) where
    pub second_refused : IsAsked s bench os.second.text os.second.ask (Err broken)
        → first_refusal (operand_questions s (listed os)) ≡ Some (refusal (rule_number broken) os.second.name)
    second_refused fails =
        ap (λ (o : Option ℕ). or_refused o os.first.name (first_refusal (operand_questions s (os.second ∷ os.third ∷ [])))) granted.0
        ∙ ap (λ (o : Option ℕ). or_refused o os.second.name (first_refusal (operand_questions s (os.third ∷ [])))) fails

    pub third_refused : (second : Grant) → IsAsked s bench os.second.text os.second.ask (Ok second) → IsAsked s bench os.third.text os.third.ask (Err broken)
        → first_refusal (operand_questions s (listed os)) ≡ Some (refusal (rule_number broken) os.third.name)
    third_refused second also fails =
        ap (λ (o : Option ℕ). or_refused o os.first.name (first_refusal (operand_questions s (os.second ∷ os.third ∷ [])))) granted.0
        ∙ ap (λ (o : Option ℕ). or_refused o os.second.name (first_refusal (operand_questions s (os.third ∷ [])))) also.0
        ∙ ap (λ (o : Option ℕ). or_refused o os.third.name None) fails
