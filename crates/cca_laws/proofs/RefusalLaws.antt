-- What a refusal says: the number of a rule, and the name of a field.
use Rattle.std.proofs.Common.{ℕ, ◌<◌, Bool, true, false, List, [], ◌∷◌, Option, None, Some, refl, sym, subst, codes, T, arith}
use Rattle.std.specs.Prelude.{⊤, ◌&&◌, nat_lt, if◌then◌else◌}
use Rattle.std.specs.List.{list_all}
use Rattle.std.proofs.lemmas.Bool.{ltb-true}
use Rattle.cca_vectors.specs.Checks.{Check, first_failing}
use Rattle.key_transport.specs.declared.changing.Target.{Target}
use Rattle.key_transport.specs.declared.changing.Target.TheVariants.{Current, New}
use Rattle.verb_rules.specs.declared.needs.Need.{Need}
use Rattle.verb_script.specs.Grammar.{Request, value_of}
use Rattle.verb_script.specs.declared.rows.RequestName.{RequestName}
use Rattle.verb_script.specs.declared.rows.RequestName.TheVariants.{Csnbktp, CsnbkgnOp, CsnbkgnPair, CsnbkgnOut, Csnbktc}
use Rattle.verb_script.specs.Named.{label_named}
use Rattle.cca_machine.specs.Act.{or_act, performed}
use Rattle.cca_machine.specs.Choices.{target_named}
use Rattle.cca_machine.specs.Draws.{Draw, NoBytes, EightBytes, KeyBytes, draw_of}
use Rattle.cca_machine.specs.Operands.{Operand, listed, operands, operands_of}
use Rattle.cca_machine.specs.State.{State}
use Rattle.cca_machine.specs.Verdict.{Questions, Refusal, change_questions, draw_verdict, early_verdict, first_refusal, general_checks, key_questions, operand_checks, operand_questions, operands_verdict, or_last, or_refused, or_then, refusal, target_checks, verb_questions, verb_verdict, verdict}
use Rattle.cca_machine.specs.declared.asking.Ask.{Ask}
use Rattle.cca_machine.specs.declared.asking.Ask.TheVariants.{AnyToken, Key, Token, External, Record, Held, NewLabel, Target as GoesTo, Nothing}
use Rattle.cca_machine.proofs.DrawLaws.{verdict_splits}
use Rattle.key_transport.specs.UniqueHalves.{repeats}
use Rattle.cca_laws.specs.Leaving.{IsRefusal, RefusesBy, is_field_name}
use Rattle.cca_laws.proofs.CleanLaws.{both, first_of_both, second_of_both, true_of}

-- ---- some checks

abbrev IsRuled : Option ℕ → Type 0
IsRuled None = ⊤
IsRuled (Some rule) = rule < 37

abbrev are_ruled : List Check → Bool
are_ruled checks = list_all (λ (c : Check). nat_lt c.rule 37) checks

failing_ruled : (checks : List Check) → T (are_ruled checks) → IsRuled (first_failing checks)
failing_ruled [] ruled = tt
failing_ruled (c ∷ cs) ruled = by_test c.fails (failing_ruled cs (second_of_both (nat_lt c.rule 37) (are_ruled cs) ruled))
  where
    by_test : (t : Bool) → IsRuled (first_failing cs) → IsRuled (if t then Some c.rule else first_failing cs)
    by_test true later = ltb-true c.rule 37 (true_of (nat_lt c.rule 37) (first_of_both (nat_lt c.rule 37) (are_ruled cs) ruled))
    by_test false later = later

module _ (s : State) where
  key_ruled : (need : Need) (o : Option (List ℕ)) (text : List ℕ) → T (are_ruled (key_questions s need o text))
  key_ruled need None text = tt
  key_ruled need (Some label) text = tt

  target_ruled : (o : Option (List ℕ)) → T (are_ruled (target_checks s o))
  target_ruled None = tt
  target_ruled (Some label) = tt

  ask_ruled : (text : List ℕ) (a : Ask) → T (are_ruled (operand_checks s text a))
  ask_ruled text AnyToken = tt
  ask_ruled text (Key need) = key_ruled need (label_named text) text
  ask_ruled text (Token need) = tt
  ask_ruled text (External need) = tt
  ask_ruled text Record = tt
  ask_ruled text Held = tt
  ask_ruled text NewLabel = tt
  ask_ruled text GoesTo = target_ruled (label_named text)
  ask_ruled text Nothing = tt

-- ---- a refusal

module _ (name : RequestName) where
  abbrev IsOf : Option Refusal → Type 0
  IsOf None = ⊤
  IsOf (Some r) = IsRefusal name r

  abbrev is_told : Questions → Bool
  is_told q = is_field_name name q.operand && are_ruled q.checks

  abbrev are_told : List Questions → Bool
  are_told qs = list_all is_told qs

  refused_is : (o : Option ℕ) (operand : List ℕ) (others : Option Refusal) → IsRuled o → T (is_field_name name operand) → IsOf others → IsOf (or_refused o operand others)
  refused_is None operand others ruled named more = more
  refused_is (Some rule) operand others ruled named more = record { rule = ruled; field = true_of (is_field_name name operand) named }

  questions_are : (qs : List Questions) → T (are_told qs) → IsOf (first_refusal qs)
  questions_are [] told = tt
  questions_are (q ∷ qs) told =
      let first : T (is_told q) = first_of_both (is_told q) (are_told qs) told in
      refused_is (first_failing q.checks) q.operand (first_refusal qs)
      (failing_ruled q.checks (second_of_both (is_field_name name q.operand) (are_ruled q.checks) first))
      (first_of_both (is_field_name name q.operand) (are_ruled q.checks) first)
      (questions_are qs (second_of_both (is_told q) (are_told qs) told))

  then_is : (a b : Option Refusal) → IsOf a → IsOf b → IsOf (or_then a b)
  then_is None b first second = second
  then_is (Some r) b first second = first

  abbrev are_named : List Operand → Bool
  are_named os = list_all (λ (o : Operand). is_field_name name o.name) os

  operands_told : (s : State) (os : List Operand) → T (are_named os) → T (are_told (operand_questions s os))
  operands_told s [] named = tt
  operands_told s (o ∷ os) named =
      both (is_field_name name o.name && are_ruled (operand_checks s o.text o.ask)) (are_told (operand_questions s os))
      (both (is_field_name name o.name) (are_ruled (operand_checks s o.text o.ask)) (first_of_both (is_field_name name o.name) (are_named os) named) (ask_ruled s o.text o.ask))
      (operands_told s os (second_of_both (is_field_name name o.name) (are_named os) named))

dash_named : (name : RequestName) → T (is_field_name name (codes "-"))
dash_named Csnbktp = tt
dash_named _ = tt

operands_named : (name : RequestName) (r : Request) → T (are_named name (listed (operands_of name r)))
operands_named Csnbktp r = tt
operands_named _ r = tt

change_told : (s : State) (t : Target) → T (are_told Csnbktc (change_questions s t))
change_told s Current = tt
change_told s New = tt

verb_told : (s : State) (name : RequestName) (r : Request) → T (are_told name (verb_questions s name r))
verb_told s Csnbktc r = change_told s (target_named (value_of r (codes "rule")))
verb_told s _ r = tt

-- rule 34 is of the field `length`, which the requests have that draw a key
last_is : (name : RequestName) (before : Option Refusal) (d : Draw) (random : List ℕ) → IsOf name before → T (is_field_name name (codes "length"))
    → IsOf name (or_last before (draw_verdict d random))
last_is name before NoBytes random is named = is
last_is name before EightBytes random is named = is
last_is name before (KeyBytes key_length) random is named = by_test before (repeats key_length random) is
  where
    by_test : (o : Option Refusal) (t : Bool) → IsOf name o → IsOf name (or_last o (if t then Some (refusal 34 (codes "length")) else None))
    by_test None true has = record { rule = omega arith; field = true_of (is_field_name name (codes "length")) named }
    by_test (Some r) true has = has
    by_test o false has = has

drawn_is : (name : RequestName) (r : Request) (before : Option Refusal) (random : List ℕ) → IsOf name before → IsOf name (or_last before (draw_verdict (draw_of name r) random))
drawn_is CsnbkgnOp r before random is = last_is CsnbkgnOp before (draw_of CsnbkgnOp r) random is tt
drawn_is CsnbkgnPair r before random is = last_is CsnbkgnPair before (draw_of CsnbkgnPair r) random is tt
drawn_is CsnbkgnOut r before random is = last_is CsnbkgnOut before (draw_of CsnbkgnOut r) random is tt
drawn_is _ r before random is = is

verdict_is : (s : State) (random : List ℕ) (r : Request) → IsOf r.name (verdict s random r)
verdict_is s random r =
    subst (IsOf r.name) (sym (verdict_splits s random r))
    (drawn_is r.name r (early_verdict s r) random
    (refused_is r.name (first_failing (general_checks s r)) (codes "-") (or_then (operands_verdict s r) (verb_verdict s r)) (failing_ruled (general_checks s r) tt) (dash_named r.name)
    (then_is r.name (operands_verdict s r) (verb_verdict s r)
    (questions_are r.name (operand_questions s (listed (operands r))) (operands_told r.name s (listed (operands r)) (operands_named r.name r)))
    (questions_are r.name (verb_questions s r.name r) (verb_told s r.name r)))))

refuses_by : (s : State) (drawn : List ℕ) (r : Request) (v : Option Refusal) → IsOf r.name v → RefusesBy v r.name (or_act v s drawn r).reply
refuses_by s drawn r (Some refusal) is = (refl, is)
refuses_by s drawn r None is = tt

pub refuses : (s : State) (drawn : List ℕ) (r : Request) → RefusesBy (verdict s drawn r) r.name (performed s drawn r).reply
unfolding performed
refuses s drawn r = refuses_by s drawn r (verdict s drawn r) (verdict_is s drawn r)
