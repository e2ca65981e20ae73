-- The random bytes that lines take.
use Rattle.std.proofs.Common.{◌≡◌, ℕ, zero, suc, ◌+◌, ◌*◌, ◌/◌, ◌%◌, ◌<◌, ◌≤◌, true, false, eqb, List, [], ◌∷◌, ◌++◌, length, get_or, map, take, drop, append_assoc, Option, None, Some, inl, inr, refl, sym, ap, ap₂, subst, ◌∙◌, codes, arith}
use Rattle.std.specs.Prelude.{All, count_ones, nat_le}
use Rattle.std.specs.List.{concat}
use Rattle.std.proofs.lemmas.Bool.{agree_below_at, cases_Bool, cases_lt, eqb-true}
use Rattle.std.proofs.lemmas.Bool.Decides.{nat_tests}
use Rattle.std.proofs.lemmas.List.{drop-append-le, length-drop, length-take-le, take-append-drop, take-append-le}
use Rattle.std.proofs.lemmas.List.Elements.{All-map}
use Rattle.cca_vectors.specs.Bits.{even_byte}
use Rattle.cca_vectors.specs.declared.key_length.Length.{Length}
use Rattle.cca_vectors.specs.declared.key_length.Length.TheVariants.{Eight, Sixteen, Unique}
use Rattle.cipher_verbs.specs.RandomBytes.{in_form}
use Rattle.key_transport.specs.UniqueHalves.{halves_drawn, is_same_half, key_taken}
use Rattle.key_transport.proofs.HalfLemmas.{last_where_apart, more_where_same}
use Rattle.line_service.specs.Reading.{line_limit}
use Rattle.line_service.specs.Replies.{Done, Hex}
use Rattle.verb_script.specs.Grammar.{Request, value_of}
use Rattle.verb_script.specs.declared.rows.RequestName.{RequestName}
use Rattle.verb_script.specs.declared.rows.RequestName.TheVariants.{Csnbrng, CsnbkgnOp, CsnbkgnPair, CsnbkgnOut}
use Rattle.verb_script.specs.Requests.{request_of}
use Rattle.cca_machine.specs.Act.{Outcome, effect, effected, or_act, performed}
use Rattle.cca_machine.specs.Choices.{form_named}
use Rattle.cca_machine.specs.Draws.{Draw, NoBytes, EightBytes, KeyBytes, bytes_drawn, draw_of, draws_random, is_drawing}
use Rattle.cca_machine.specs.Lines.{LineOutcome, drawn_where, line_outcome, taken_by}
use Rattle.cca_machine.specs.Session.{random_after}
use Rattle.cca_machine.specs.State.{State}
use Rattle.cca_machine.specs.Verdict.{Refusal, early_verdict, verdict}
use Rattle.cca_machine.proofs.DrawLaws.{early_none, undrawing_takes, verdict_undrawing}
use Rattle.cca_machine.proofs.LineLaws.{line-drawn, line-no_request, line-request, line-too_long}
use Rattle.cca_laws.specs.DrawnKeys.{IsOddForm}
use Rattle.cca_laws.specs.TakenBytes.{IsEvenForm, IsInForm, all_taken, bytes_taken, count_by, count_taken, takes_random}
use Rattle.cca_laws.proofs.DrawnLaws.{IsByte, halved, odd_form}
use Rattle.cca_laws.proofs.Delivering.{acted}

-- ---- the bytes that are taken, and those that are left

within : (n : ℕ) → n ≤ 9216 → nat_le n 9216 ≡ true
within n h = grind (arith, nat_tests)

beyond : (n : ℕ) → 9216 < n → nat_le n 9216 ≡ false
beyond n h = grind (arith, nat_tests)

-- a property of what comes of a line, by what the line is
module _ (s : State) (random line : List ℕ) where
  short_count : length line ≤ line_limit → (o : Option Request) → request_of line ≡ o → count_taken s random line ≡ count_by true s random o
  short_count short o is = ap (λ b. count_by b s random (request_of line)) (within (length line) short) ∙ ap (count_by true s random) is

  long_count : line_limit < length line → count_taken s random line ≡ 0
  long_count long = ap (λ b. count_by b s random (request_of line)) (beyond (length line) long)

  left_after : (line_outcome s random line).random ≡ drop (count_taken s random line) random
  left_after = elim (cases_lt line_limit (length line)) [
    | inl long ↦ ap (λ (o : LineOutcome). o.random) (line-too_long s random line long) ∙ ap (λ n. drop n random) (sym (long_count long))
    | inr short ↦ by_request short (request_of line) refl
  ]
    where
      by_request : length line ≤ line_limit → (o : Option Request) → request_of line ≡ o → (line_outcome s random line).random ≡ drop (count_taken s random line) random
      by_request short None is = ap (λ (o : LineOutcome). o.random) (line-no_request s random line short is) ∙ ap (λ n. drop n random) (sym (short_count short None is))
      by_request short (Some r) is =
          ap (λ (o : LineOutcome). o.random) (line-request s random line r short is) ∙ ap (λ n. drop n random) (sym (short_count short (Some r) is))

  both_parts : bytes_taken s random line ++ (line_outcome s random line).random ≡ random
  both_parts = ap (λ rest. bytes_taken s random line ++ rest) left_after ∙ take-append-drop (count_taken s random line) random

pub in_order : (s : State) (random : List ℕ) (lines : List (List ℕ)) → concat (all_taken s random lines) ++ random_after s random lines ≡ random
in_order s random [] = refl
in_order s random (line ∷ lines) =
    let o = line_outcome s random line in
    append_assoc (bytes_taken s random line) (concat (all_taken o.state o.random lines)) (random_after o.state o.random lines)
    ∙ (ap (λ rest. bytes_taken s random line ++ rest) (in_order o.state o.random lines) ∙ both_parts s random line)

-- ---- the bytes that are taken are as many again

-- bytes that are just enough for the right halves that they and what follows them begin with
halves_again : (n : ℕ) (left ahead rest : List ℕ) → length ahead ≡ 8 * halves_drawn n left (ahead ++ rest) → halves_drawn n left ahead ≡ halves_drawn n left (ahead ++ rest)
halves_again zero left ahead rest long = refl
halves_again (suc n) left ahead rest long =
    let begins : 8 ≤ length ahead → take 8 (ahead ++ rest) ≡ take 8 ahead = λ h. take-append-le 8 ahead rest h in
    elim (cases_Bool (is_same_half left (take 8 (ahead ++ rest)))) [
      | inl same ↦
          let more = more_where_same n left (ahead ++ rest) same in
          let enough : 8 ≤ length ahead = omega (arith, long, more) in
          let behind : drop 8 (ahead ++ rest) ≡ drop 8 ahead ++ rest = drop-append-le 8 ahead rest enough in
          let deeper : length (drop 8 ahead) ≡ 8 * halves_drawn n left (drop 8 ahead ++ rest) =
          length-drop 8 ahead ∙ omega (arith, long, more, ap (halves_drawn n left) behind) in
          more_where_same n left ahead (ap (is_same_half left) (sym (begins enough)) ∙ same)
          ∙ (ap (λ k. 1 + k) (halves_again n left (drop 8 ahead) rest deeper ∙ ap (halves_drawn n left) (sym behind)) ∙ sym more)
      | inr apart ↦
          let last = last_where_apart n left (ahead ++ rest) apart in
          let enough : 8 ≤ length ahead = omega (arith, long, last) in
          last_where_apart n left ahead (ap (is_same_half left) (sym (begins enough)) ∙ apart) ∙ sym last
    ]

key_again : (l : Length) (drawn rest : List ℕ) → length drawn ≡ key_taken l (drawn ++ rest) → key_taken l drawn ≡ key_taken l (drawn ++ rest)
key_again Eight drawn rest long = refl
key_again Sixteen drawn rest long = refl
key_again Unique drawn rest long =
    let enough : 8 ≤ length drawn = omega (arith, long) in
    let first : take 8 (drawn ++ rest) ≡ take 8 drawn = take-append-le 8 drawn rest enough in
    let behind : drop 8 (drawn ++ rest) ≡ drop 8 drawn ++ rest = drop-append-le 8 drawn rest enough in
    let count : halves_drawn 8 (take 8 (drawn ++ rest)) (drop 8 (drawn ++ rest)) ≡ halves_drawn 8 (take 8 drawn) (drop 8 drawn ++ rest) =
    ap₂ (halves_drawn 8) first behind in
    let right : length (drop 8 drawn) ≡ 8 * halves_drawn 8 (take 8 drawn) (drop 8 drawn ++ rest) = length-drop 8 drawn ∙ omega (arith, long, count) in
    ap (λ k. 8 + 8 * k) (halves_again 8 (take 8 drawn) (drop 8 drawn) rest right ∙ sym count)

draw_again : (early : Option Refusal) (d : Draw) (drawn rest : List ℕ) → length drawn ≡ drawn_where early (bytes_drawn d (drawn ++ rest))
    → drawn_where early (bytes_drawn d drawn) ≡ length drawn
draw_again (Some r) d drawn rest long = sym long
draw_again None NoBytes drawn rest long = sym long
draw_again None EightBytes drawn rest long = sym long
draw_again None (KeyBytes l) drawn rest long = key_again l drawn rest long ∙ sym long

-- what comes of a line, whatever follows the bytes that it takes
module _ (s : State) (random rest line : List ℕ) (enough : count_taken s random line ≤ length random) where
  abbrev Own : List ℕ → LineOutcome → Type 0
  Own drawn o = line_outcome s (drawn ++ rest) line ≡ record { state = o.state; reply = o.reply; random = rest }

  none_first : bytes_taken s random line ≡ [] → line_outcome s rest line ≡ record { state = (line_outcome s random line).state; reply = (line_outcome s random line).reply; random = rest }
      → Own (bytes_taken s random line) (line_outcome s random line)
  none_first none is = ap (λ drawn. line_outcome s (drawn ++ rest) line) none ∙ is

  untaken : count_taken s random line ≡ 0 → bytes_taken s random line ≡ []
  untaken none = ap (λ n. take n random) none

  by_request : length line ≤ line_limit → (q : Option Request) → request_of line ≡ q → Own (bytes_taken s random line) (line_outcome s random line)
  by_request short None is =
      none_first (untaken (short_count s random line short None is))
      (line-no_request s rest line short is ∙ ap (λ (o : LineOutcome). record o { random = rest }) (sym (line-no_request s random line short is)))
  by_request short (Some r) is =
      let count : count_taken s random line ≡ taken_by s random r = short_count s random line short (Some r) is in
      let n : ℕ = count_taken s random line in
      let drawn : List ℕ = take n random in
      let after : List ℕ = drop n random in
      let whole : drawn ++ after ≡ random = take-append-drop n random in
      let long : length drawn ≡ n = length-take-le n random enough in
      let again : length drawn ≡ taken_by s drawn r =
      sym (draw_again (early_verdict s r) (draw_of r.name r) drawn after (long ∙ (count ∙ ap (λ bytes. taken_by s bytes r) (sym whole)))) in
      line-drawn s drawn rest line r short is again
      ∙ ap (λ (o : LineOutcome). record o { random = rest }) (sym (line-drawn s drawn after line r short is again) ∙ ap (λ bytes. line_outcome s bytes line) whole)

  pub own_bytes : line_outcome s (bytes_taken s random line ++ rest) line
      ≡ record { state = (line_outcome s random line).state; reply = (line_outcome s random line).reply; random = rest }
  own_bytes = elim (cases_lt line_limit (length line)) [
    | inl long ↦ none_first (untaken (long_count s random line long))
        (line-too_long s rest line long ∙ ap (λ (o : LineOutcome). record o { random = rest }) (sym (line-too_long s random line long)))
    | inr short ↦ by_request short (request_of line) refl
  ]

-- ---- CSNBRNG

even_byte_even : (byte : ℕ) → byte < 256 → count_ones (even_byte byte) % 2 ≡ 0
unfolding lib.Count.ones
even_byte_even byte fits =
    eqb-true (count_ones (even_byte byte) % 2) 0 (agree_below_at (λ b. eqb (count_ones (even_byte b) % 2) 0) (λ b. true) 256 byte refl fits)

even_halved : (byte : ℕ) → even_byte byte / 2 ≡ byte / 2
even_halved byte = omega arith

all_even_halved : (bytes : List ℕ) → map halved bytes ≡ map halved (map even_byte bytes)
all_even_halved [] = refl
all_even_halved (byte ∷ bytes) = ap₂ (λ (b : ℕ) (bs : List ℕ). b ∷ bs) (sym (even_halved byte)) (all_even_halved bytes)

even_form : (bytes : List ℕ) → All IsByte bytes → IsEvenForm bytes (map even_byte bytes)
even_form bytes are = record {
  same = all_even_halved bytes;
  parity = All-map (λ byte. count_ones byte % 2 ≡ 0) even_byte bytes (λ k d within. even_byte_even (get_or bytes k d) (are k d within));
}

is_in_form : (form drawn : List ℕ) → All IsByte drawn → IsInForm form drawn (in_form (form_named form) drawn)
is_in_form form drawn are = record {
  random = λ is. ap (λ text. in_form (form_named text) drawn) is;
  odd = λ is. subst (λ shown. IsOddForm drawn shown) (sym (ap (λ text. in_form (form_named text) drawn) is)) (odd_form drawn are);
  even = λ is. subst (λ shown. IsEvenForm drawn shown) (sym (ap (λ text. in_form (form_named text) drawn) is)) (even_form drawn are);
}

-- what CSNBRNG shows
record IsShown (s : State) (drawn : List ℕ) (r : Request) (name : RequestName) : Type 0 where
  size : bytes_drawn (draw_of name r) drawn ≡ 8
  reply : (effected s r (effect s drawn name r)).reply ≡ Done (Hex (codes "random") (in_form (form_named (value_of r (codes "form"))) drawn) ∷ [])

module _ (s : State) (drawn : List ℕ) where
  at_name : (values : List (List ℕ)) (name : RequestName) → name ≡ Csnbrng → IsShown s drawn (record { name = name; values = values }) name
  at_name values name is = subst (λ (n : RequestName). IsShown s drawn (record { name = n; values = values }) n) (sym is) (record { size = refl; reply = refl })

  pub random_shown : (r : Request) → r.name ≡ Csnbrng → verdict s drawn r ≡ None → length drawn ≡ taken_by s drawn r → All IsByte drawn
      → (bytes : List ℕ) × (length drawn ≡ 8) × IsInForm (value_of r (codes "form")) drawn bytes × ((performed s drawn r).reply ≡ Done (Hex (codes "random") bytes ∷ []))
  random_shown r is permits taken are =
      let shown = at_name r.values r.name is in (
        in_form (form_named (value_of r (codes "form"))) drawn,
        taken ∙ (ap (λ (v : Option Refusal). drawn_where v (bytes_drawn (draw_of r.name r) drawn)) (early_none s drawn r permits) ∙ shown.size),
        is_in_form (value_of r (codes "form")) drawn are,
        ap (λ (o : Outcome). o.reply) (acted s drawn r permits) ∙ shown.reply,
      )

-- ---- the other requests

draws_none : (name : RequestName) (r : Request) → takes_random name ≡ false → draw_of name r ≡ NoBytes
draws_none Csnbrng r is = cc is
draws_none CsnbkgnOp r is = cc is
draws_none CsnbkgnPair r is = cc is
draws_none CsnbkgnOut r is = cc is
draws_none _ r is = refl

same_effect : (s : State) (drawn other : List ℕ) (name : RequestName) (r : Request) → takes_random name ≡ false → effect s drawn name r ≡ effect s other name r
same_effect s drawn other Csnbrng r is = cc is
same_effect s drawn other CsnbkgnOp r is = cc is
same_effect s drawn other CsnbkgnPair r is = cc is
same_effect s drawn other CsnbkgnOut r is = cc is
same_effect s drawn other _ r is = refl

pub no_random : (s : State) (drawn other : List ℕ) (r : Request) → takes_random r.name ≡ false → (taken_by s drawn r ≡ 0) × (performed s drawn r ≡ performed s other r)
unfolding performed
no_random s drawn other r is =
    let undrawing : draws_random r ≡ false = ap (λ (d : Draw). is_drawing d) (draws_none r.name r is) in (
      undrawing_takes s drawn r undrawing,
      ap (λ (v : Option Refusal). or_act v s drawn r) (verdict_undrawing s drawn r undrawing)
          ∙ (by_verdict (early_verdict s r) ∙ ap (λ (v : Option Refusal). or_act v s other r) (sym (verdict_undrawing s other r undrawing))),
    )
  where
    by_verdict : (v : Option Refusal) → or_act v s drawn r ≡ or_act v s other r
    by_verdict (Some refusal) = refl
    by_verdict None = ap (effected s r) (same_effect s drawn other r.name r is)
