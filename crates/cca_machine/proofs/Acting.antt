-- From judged operands to what the machine makes of the request.
use Rattle.std.proofs.Common.{◌≡◌, ℕ, Bool, true, false, List, Option, None, Some, refl, sym, ap, ◌∙◌, codes, [], subst}
use Rattle.cca_vectors.specs.Checks.{first_failing}
use Rattle.key_cells.specs.Bench.{Bench}
use Rattle.verb_script.specs.Grammar.{Request}
use Rattle.verb_script.specs.Values.{hex_value}
use Rattle.cca_machine.specs.State.{State}
use Rattle.cca_machine.specs.Verdict.{Refusal, draw_verdict, refusal, or_last, or_then, or_refused, general_checks, operands_verdict, verb_verdict, verdict_by, whole_verb_verdict}
use Rattle.cca_machine.specs.Act.{Show, effect}
use Rattle.cca_machine.specs.Draws.{Draw, NoBytes, EightBytes, KeyBytes, bytes_drawn, draw_of, draws_random, is_drawing}
use Rattle.std.specs.Prelude.{◌||◌, IsSome, option_map, bytes_eq, if◌then◌else◌}
use Rattle.std.proofs.KnownBytes.{Consumes-nil}
use Rattle.key_tokens.specs.Denotes.{Denoted}
use Rattle.key_tokens.specs.declared.key_token.Age.{Age}
use Rattle.line_service.specs.Replies.{Field}
use Rattle.verb_rules.specs.Keys.{opened, opened_key}
use Rattle.verb_rules.specs.declared.judging.Judged.{Judged}
use Rattle.cca_machine.specs.Keys.{key_in_text, key_of_label, key_of_token, or_no_key, is_old, is_old_operand, any_old}
use Rattle.cca_machine.specs.Lines.{drawn_where}
use Rattle.cca_machine.specs.Operands.{Operands, listed}
use Rattle.cca_machine.specs.declared.asking.Ask.{Ask}
use Rattle.cca_machine.specs.declared.asking.Ask.TheVariants.{AnyToken, Key, Token, External, Record, Held, NewLabel, Target, Nothing}
use Rattle.cca_machine.specs.Granted.{HasKey, IsGranted, AreGranted, is_old_register, is_old_key, any_old_key}
use Rattle.cca_machine.specs.declared.granted.Grant.{Grant}
use Rattle.cca_machine.specs.declared.granted.Granted.{Granted}
use Rattle.cca_machine.specs.declared.effects.Effect.{Effect as CodeEffect}
use Rattle.cca_machine.specs.declared.effects.Effect.TheVariants as code
use Rattle.master_registers.specs.declared.actions.Action.TheVariants.{First, Middle, Last}
use Rattle.cca_machine.specs.Actions.{part_action}
use Rattle.cca_machine.specs.Deciding.{LosesNone, labels_after, ShowsOr, IsDecided, Decides}

-- ---- the verdict

-- whatever the rules of the verb say
pub verdict_general : (s : State) (request : Request) (n : ℕ) → first_failing (general_checks s request) ≡ Some n
    → (verb : Option Refusal) → verdict_by s request verb ≡ Some (refusal n (codes "-"))
verdict_general s request n is verb = ap (λ (v : Option ℕ). or_refused v (codes "-") (or_then (operands_verdict s request) verb)) is

pub verdict_operands : (s : State) (request : Request) (v : Option Refusal) → first_failing (general_checks s request) ≡ None → operands_verdict s request ≡ v
    → (verb : Option Refusal) → verdict_by s request verb ≡ or_then v verb
verdict_operands s request v none is verb =
    ap (λ (x : Option ℕ). or_refused x (codes "-") (or_then (operands_verdict s request) verb)) none ∙ ap (λ (x : Option Refusal). or_then x verb) is

-- ---- keys

key_age : (bench : Bench) (j : Judged) → IsSome j.age → (or_no_key (opened_key bench j)).clear ≡ opened bench j
key_age bench j under = by_age j.age refl under
  where
    by_age : (age : Option Age) → j.age ≡ age → IsSome age → (or_no_key (opened_key bench j)).clear ≡ opened bench j
    by_age None is some = cc some
    by_age (Some age) is some = ap (λ (a : Option Age). (or_no_key (option_map (λ x. record { clear = opened bench j; age = x }) a)).clear) is

-- the key of an operand is that of the token that was judged
pub key_is : (bench : Bench) (key : Option Denoted) (grant : Grant) (j : Judged) → HasKey bench key grant → grant.key ≡ Some j → IsSome j.age
    → (or_no_key key).clear ≡ opened bench j
key_is bench key grant j has is under =
    let same : has.judged ≡ j = cc (has.is, is) in
    ap (λ (o : Option Denoted). (or_no_key o).clear) (has.key_is ∙ ap (opened_key bench) same) ∙ key_age bench j under

-- ---- the warning

old_by_age : (bench : Bench) (j : Judged) → is_old (opened_key bench j) ≡ is_old_key (Some j)
old_by_age bench j = by_age j.age refl
  where
    by_age : (age : Option Age) → j.age ≡ age → is_old (opened_key bench j) ≡ is_old_key (Some j)
    by_age None is =
        ap (λ (a : Option Age). is_old (option_map (λ x. record { clear = opened bench j; age = x }) a)) is ∙ sym (ap is_old_register is)
    by_age (Some age) is =
        ap (λ (a : Option Age). is_old (option_map (λ x. record { clear = opened bench j; age = x }) a)) is ∙ sym (ap is_old_register is)

old_key : (bench : Bench) (key : Option Denoted) (grant : Grant) → HasKey bench key grant → is_old key ≡ is_old_key grant.key
old_key bench key grant has = ap is_old has.key_is ∙ (old_by_age bench has.judged ∙ sym (ap is_old_key has.is))

old_operand : (s : State) (bench : Bench) (text : List ℕ) (ask : Ask) (grant : Grant) → IsGranted s bench text ask grant → is_old_operand s text ask ≡ is_old_key grant.key
old_operand s bench text AnyToken grant granted = sym (ap is_old_key granted.1)
old_operand s bench text (Key need) grant granted = old_key bench (key_in_text s text) grant granted
old_operand s bench text (Token need) grant granted = old_key bench (key_of_token s (hex_value text)) grant granted
old_operand s bench text (External need) grant granted = sym (ap is_old_key granted.is ∙ ap is_old_register granted.ageless)
old_operand s bench text Record grant granted = old_key bench (key_of_label s text) grant granted.has
old_operand s bench text Held grant granted = sym (ap is_old_key granted.1)
old_operand s bench text NewLabel grant granted = sym (ap is_old_key granted)
old_operand s bench text Target grant granted = sym (ap is_old_key granted.1)
old_operand s bench text Nothing grant granted = sym (ap is_old_key granted)

or_false : (b : Bool) → (b || false) ≡ b
or_false true = refl
or_false false = refl

pub any_old_are : (s : State) (bench : Bench) (os : Operands) (g : Granted) → AreGranted s bench os g → any_old s (listed os) ≡ any_old_key g
any_old_are s bench os g granted =
    let one = old_operand s bench os.first.text os.first.ask g.first granted.0 in
    let two = old_operand s bench os.second.text os.second.ask g.second granted.1 in
    let three = old_operand s bench os.third.text os.third.ask g.third granted.2 in
    rw (one, two, three) (ap (λ x. is_old_key g.first.key || (is_old_key g.second.key || x)) (or_false (is_old_key g.third.key)))

-- ---- what a verb decided

drawn_zero : (v : Option Refusal) (draw : Draw) (ahead : List ℕ) → is_drawing draw ≡ false → 0 ≡ drawn_where v (bytes_drawn draw ahead)
drawn_zero (Some r) draw ahead none = refl
drawn_zero None NoBytes ahead none = refl
drawn_zero None EightBytes ahead none = cc none
drawn_zero None (KeyBytes key_length) ahead none = cc none

undrawn_last : (draw : Draw) (random : List ℕ) → is_drawing draw ≡ false → draw_verdict draw random ≡ None
undrawn_last NoBytes random none = refl
undrawn_last EightBytes random none = refl
undrawn_last (KeyBytes key_length) random none = cc none

-- where no random byte is drawn, the rule on them refuses nothing
pub undrawn_verdict : (s : State) (random : List ℕ) (request : Request) → draws_random request ≡ false
    → whole_verb_verdict s random request ≡ verb_verdict s request
undrawn_verdict s random request none = ap (or_last (verb_verdict s request)) (undrawn_last (draw_of request.name request) random none)

-- a verb that shows some fields, or is refused
pub shows_or : (s : State) (bench : Bench) (request : Request) (v : Option Refusal) (fields : List Field) (e : CodeEffect) (reply : List ℕ) (left : Option (List ℕ))
    → draws_random request ≡ false → verb_verdict s request ≡ v → effect s [] request.name request ≡ Show fields → ShowsOr v fields e reply
    → Decides s bench request e reply left left
shows_or s bench request v fields e reply left none verdict is shown = record {
  drawn = [];
  decided = by_effect e shown;
  random = record { consumed = Consumes-nil left; size = drawn_zero (verb_verdict s request) (draw_of request.name request) [] none };
}
  where
    whole : whole_verb_verdict s [] request ≡ v
    whole = undrawn_verdict s [] request none ∙ verdict

    by_effect : (e : CodeEffect) → ShowsOr v fields e reply → IsDecided s bench [] request e reply
    by_effect (code.Refused r) shown = whole ∙ shown.0.is
    by_effect code.Shown shown = (whole ∙ shown.0, record { fields = fields; is = is; reply_is = shown.1.is })
    by_effect (code.Change action) shown = absurd shown
    by_effect (code.DefineRole name points) shown = absurd shown
    by_effect (code.RemoveRole name) shown = absurd shown
    by_effect (code.Create label) shown = absurd shown
    by_effect (code.Write place token) shown = absurd shown
    by_effect (code.Delete place) shown = absurd shown
    by_effect (code.Reencipher a) shown = absurd shown

-- what was decided without random bytes
pub decides : (s : State) (bench : Bench) (request : Request) (e : CodeEffect) (reply : List ℕ) (left : Option (List ℕ))
    → draws_random request ≡ false → IsDecided s bench [] request e reply → Decides s bench request e reply left left
decides s bench request e reply left none decided = record {
  drawn = [];
  decided = decided;
  random = record { consumed = Consumes-nil left; size = drawn_zero (verb_verdict s request) (draw_of request.name request) [] none };
}

-- ---- keys of tokens and records

pub or_none_is : (key : Option Denoted) → IsSome key → key ≡ Some (or_no_key key)
or_none_is None some = cc some
or_none_is (Some key) some = refl

pub opens : (bench : Bench) (j : Judged) → IsSome j.age → IsSome (opened_key bench j)
opens bench j under = by_age j.age refl under
  where
    by_age : (age : Option Age) → j.age ≡ age → IsSome age → IsSome (opened_key bench j)
    by_age None is some = cc some
    by_age (Some age) is some = subst (λ (a : Option Age). IsSome {T = Denoted} (option_map (λ x. record { clear = opened bench j; age = x }) a)) (sym is) refl

-- ---- actions

pub labels_kept : (text : List ℕ) (s : State) → labels_after (part_action text) s ≡ s.labels
labels_kept text s = by_tests (bytes_eq text (codes "FIRST")) (bytes_eq text (codes "MIDDLE"))
  where
    by_tests : (a b : Bool) → labels_after (if a then First else if b then Middle else Last) s ≡ s.labels
    by_tests true b = refl
    by_tests false true = refl
    by_tests false false = refl

pub none_lost : (text : List ℕ) (s : State) → LosesNone (part_action text) s
none_lost text s = by_tests (bytes_eq text (codes "FIRST")) (bytes_eq text (codes "MIDDLE"))
  where
    by_tests : (a b : Bool) → LosesNone (if a then First else if b then Middle else Last) s
    by_tests true b = tt
    by_tests false true = tt
    by_tests false false = tt
