-- What a request has passed that no rule refuses, and the state after a request.
use Rattle.std.proofs.Common.{◌≡◌, ℕ, Bool, true, false, List, [], ◌∷◌, Option, None, Some, refl, ap, codes}
use Rattle.cca_vectors.specs.Checks.{check, first_failing}
use Rattle.verb_script.specs.Grammar.{Request}
use Rattle.cca_machine.specs.Act.{effect, or_act, performed, state_after}
use Rattle.cca_machine.specs.State.{State}
use Rattle.cca_machine.specs.Verdict.{Refusal, first_refusal, general_checks, operands_verdict, or_refused, or_then, questions, verb_verdict, verdict}
use Rattle.cca_machine.proofs.DrawLaws.{early_none}

-- ---- what no rule refused

pub refused_none : (o : Option ℕ) (name : List ℕ) (v : Option Refusal) → or_refused o name v ≡ None → v ≡ None
refused_none None name v is = is
refused_none (Some rule) name v is = cc

then_none : (a b : Option Refusal) → or_then a b ≡ None → b ≡ None
then_none None b is = is
then_none (Some r) b is = cc

-- the rules of the verb of a request that no rule refuses
pub verb_passed : (s : State) (drawn : List ℕ) (r : Request) → verdict s drawn r ≡ None → verb_verdict s r ≡ None
verb_passed s drawn r permits =
    then_none (operands_verdict s r) (verb_verdict s r)
    (refused_none (first_failing (general_checks s r)) (codes "-") (or_then (operands_verdict s r) (verb_verdict s r)) (early_none s drawn r permits))

pub one_passed : (test : Bool) (name : List ℕ) → first_refusal (questions name (check 30 test ∷ []) ∷ []) ≡ None → test ≡ false
one_passed true name is = cc
one_passed false name is = refl

-- ---- the state after a request

pub refused : (s : State) (drawn : List ℕ) (r : Request) (refusal : Refusal) → verdict s drawn r ≡ Some refusal → (performed s drawn r).state ≡ s
unfolding performed
refused s drawn r refusal is = ap (λ (v : Option Refusal). (or_act v s drawn r).state) is

pub permitted_state : (s : State) (drawn : List ℕ) (r : Request) → verdict s drawn r ≡ None
    → (performed s drawn r).state ≡ state_after s (effect s drawn r.name r)
unfolding performed
permitted_state s drawn r permits = ap (λ (v : Option Refusal). (or_act v s drawn r).state) permits
