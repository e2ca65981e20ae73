-- The random bytes in a verdict, and how many of them a request takes.
use Rattle.std.proofs.Common.{◌≡◌, ℕ, Bool, true, false, List, [], ◌++◌, length, take, Option, None, Some, codes, refl, sym, ap, ◌∙◌}
use Rattle.std.specs.Prelude.{if◌then◌else◌}
use Rattle.cca_vectors.specs.Checks.{first_failing}
use Rattle.cca_vectors.specs.declared.key_length.Length.TheVariants.{Eight, Sixteen, Unique}
use Rattle.key_transport.specs.UniqueHalves.{repeats}
use Rattle.key_transport.proofs.DrawLaws.{taken_front, taken_again, taken_repeated}
use Rattle.verb_script.specs.Grammar.{Request}
use Rattle.cca_machine.specs.State.{State}
use Rattle.cca_machine.specs.Draws.{Draw, NoBytes, EightBytes, KeyBytes, bytes_drawn, draw_of, draws_random, is_drawing}
use Rattle.cca_machine.specs.Verdict.{Refusal, draw_verdict, early_verdict, general_checks, operands_verdict, or_last, or_refused, or_then, refusal, verb_verdict, verdict}
use Rattle.cca_machine.specs.Lines.{drawn_where, taken_by}

-- ---- the verdict

last_after : (rule : Option ℕ) (operand : List ℕ) (operands verb last : Option Refusal)
    → or_refused rule operand (or_then operands (or_last verb last)) ≡ or_last (or_refused rule operand (or_then operands verb)) last
last_after rule operand operands verb None = refl
last_after (Some rule) operand operands verb (Some last) = refl
last_after None operand (Some first) verb (Some last) = refl
last_after None operand None verb (Some last) = refl

-- the rules that are asked before a random byte is drawn, and then the last one
pub verdict_splits : (s : State) (random : List ℕ) (r : Request)
    → verdict s random r ≡ or_last (early_verdict s r) (draw_verdict (draw_of r.name r) random)
verdict_splits s random r =
    last_after (first_failing (general_checks s r)) (codes "-") (operands_verdict s r) (verb_verdict s r) (draw_verdict (draw_of r.name r) random)

none_before : (before last : Option Refusal) → or_last before last ≡ None → before ≡ None
none_before None last none = refl
none_before (Some r) None none = none
none_before (Some r) (Some last) none = cc none

some_before : (before last : Option Refusal) (r : Refusal) → before ≡ Some r → or_last before last ≡ Some r
some_before before None r some = some
some_before None (Some last) r some = cc some
some_before (Some first) (Some last) r some = some

pub early_none : (s : State) (random : List ℕ) (r : Request) → verdict s random r ≡ None → early_verdict s r ≡ None
early_none s random r permitted =
    none_before (early_verdict s r) (draw_verdict (draw_of r.name r) random) (sym (verdict_splits s random r) ∙ permitted)

pub early_some : (s : State) (random : List ℕ) (r : Request) (refusal : Refusal)
    → early_verdict s r ≡ Some refusal → verdict s random r ≡ Some refusal
early_some s random r refusal refused =
    verdict_splits s random r ∙ some_before (early_verdict s r) (draw_verdict (draw_of r.name r) random) refusal refused

undrawing_draw : (draw : Draw) (random : List ℕ) → is_drawing draw ≡ false → draw_verdict draw random ≡ None
undrawing_draw NoBytes random undrawing = refl
undrawing_draw EightBytes random undrawing = refl
undrawing_draw (KeyBytes key_length) random undrawing = cc undrawing

-- of a request that draws none, and where none are to come
pub verdict_undrawing : (s : State) (random : List ℕ) (r : Request) → draws_random r ≡ false → verdict s random r ≡ early_verdict s r
verdict_undrawing s random r undrawing =
    verdict_splits s random r ∙ ap (or_last (early_verdict s r)) (undrawing_draw (draw_of r.name r) random undrawing)

empty_draw : (draw : Draw) → draw_verdict draw [] ≡ None
empty_draw NoBytes = refl
empty_draw EightBytes = refl
empty_draw (KeyBytes Eight) = refl
empty_draw (KeyBytes Sixteen) = refl
empty_draw (KeyBytes Unique) = refl

pub verdict_empty : (s : State) (r : Request) → verdict s [] r ≡ early_verdict s r
verdict_empty s r = verdict_splits s [] r ∙ ap (or_last (early_verdict s r)) (empty_draw (draw_of r.name r))

-- ---- the bytes that are taken

none_where : (early : Option Refusal) → drawn_where early 0 ≡ 0
none_where None = refl
none_where (Some r) = refl

undrawing_bytes : (draw : Draw) (random : List ℕ) → is_drawing draw ≡ false → bytes_drawn draw random ≡ 0
undrawing_bytes NoBytes random undrawing = refl
undrawing_bytes EightBytes random undrawing = cc undrawing
undrawing_bytes (KeyBytes key_length) random undrawing = cc undrawing

pub undrawing_takes : (s : State) (random : List ℕ) (r : Request) → draws_random r ≡ false → taken_by s random r ≡ 0
undrawing_takes s random r undrawing =
    ap (drawn_where (early_verdict s r)) (undrawing_bytes (draw_of r.name r) random undrawing) ∙ none_where (early_verdict s r)

pub refused_takes : (s : State) (random : List ℕ) (r : Request) (refusal : Refusal)
    → early_verdict s r ≡ Some refusal → taken_by s random r ≡ 0
refused_takes s random r refusal refused =
    ap (λ (early : Option Refusal). drawn_where early (bytes_drawn (draw_of r.name r) random)) refused

front_drawn : (early : Option Refusal) (draw : Draw) (drawn rest : List ℕ) → length drawn ≡ drawn_where early (bytes_drawn draw drawn)
    → drawn_where early (bytes_drawn draw (drawn ++ rest)) ≡ length drawn
front_drawn (Some r) draw drawn rest size = sym size
front_drawn None NoBytes drawn rest size = sym size
front_drawn None EightBytes drawn rest size = sym size
front_drawn None (KeyBytes key_length) drawn rest size = taken_front key_length drawn rest size ∙ sym size

-- as many of a front, if it is as long as what is taken of it, as of all the bytes to come
pub front_taken : (s : State) (drawn rest : List ℕ) (r : Request)
    → length drawn ≡ taken_by s drawn r → taken_by s (drawn ++ rest) r ≡ length drawn
front_taken s drawn rest r size = front_drawn (early_verdict s r) (draw_of r.name r) drawn rest size

draw_again : (early : Option Refusal) (draw : Draw) (random : List ℕ)
    → or_last early (draw_verdict draw (take (drawn_where early (bytes_drawn draw random)) random)) ≡ or_last early (draw_verdict draw random)
draw_again early NoBytes random = refl
draw_again early EightBytes random = refl
draw_again None (KeyBytes key_length) random =
    ap (λ (repeated : Bool). or_last None (if repeated then Some (refusal 34 (codes "length")) else None)) (taken_again key_length random)
draw_again (Some r) (KeyBytes key_length) random = sides (repeats key_length (take 0 random)) (repeats key_length random)
  where
    sides : (one other : Bool) → or_last (Some r) (if one then Some (refusal 34 (codes "length")) else None)
        ≡ or_last (Some r) (if other then Some (refusal 34 (codes "length")) else None)
    sides true true = refl
    sides true false = refl
    sides false true = refl
    sides false false = refl

-- the bytes that are taken give the verdict that all the bytes to come give
pub verdict_again : (s : State) (random : List ℕ) (r : Request)
    → verdict s (take (taken_by s random r) random) r ≡ verdict s random r
verdict_again s random r =
    verdict_splits s (take (taken_by s random r) random) r
    ∙ (draw_again (early_verdict s r) (draw_of r.name r) random ∙ sym (verdict_splits s random r))

repeated_draw : (early : Option Refusal) (draw : Draw) (random : List ℕ) → or_last early (draw_verdict draw random) ≡ Some (refusal 34 (codes "length"))
    → early ≡ None → drawn_where early (bytes_drawn draw random) ≡ 72
repeated_draw (Some r) draw random repeated permitted = cc permitted
repeated_draw None NoBytes random repeated permitted = cc repeated
repeated_draw None EightBytes random repeated permitted = cc repeated
repeated_draw None (KeyBytes key_length) random repeated permitted =
    taken_repeated key_length random (is_repeated (repeats key_length random) repeated)
  where
    is_repeated : (b : Bool) → or_last None (if b then Some (refusal 34 (codes "length")) else None) ≡ Some (refusal 34 (codes "length")) → b ≡ true
    is_repeated true same = refl
    is_repeated false same = cc same

-- the last rule takes 72
pub repeated_takes : (s : State) (random : List ℕ) (r : Request) → verdict s random r ≡ Some (refusal 34 (codes "length"))
    → early_verdict s r ≡ None → taken_by s random r ≡ 72
repeated_takes s random r repeated permitted =
    repeated_draw (early_verdict s r) (draw_of r.name r) random (sym (verdict_splits s random r) ∙ repeated) permitted
