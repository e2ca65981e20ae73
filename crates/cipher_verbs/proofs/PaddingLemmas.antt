-- Padding at the end of a text, and a text that is cleared.
use Rattle.std.proofs.Common.{◌≡◌, ◌∙◌, ℕ, ◌+◌, ◌-◌, ◌%◌, ◌==◌, ◌<◌, ◌≤◌, Bool, true, false, ◌&&◌, nat_le, nat_lt, if◌then◌else◌, List, [], ◌∷◌, ◌++◌, length, set, slice_index, take, drop, replicate, refl, sym, ap, arith, append_assoc, length-append, length-drop, None, Some}
use Rattle.std.specs.Prelude.{IfErr, OnErr, OnOk, Option, is_none}
use Rattle.std.specs.declared.result.Result.{Result}
use Rattle.std.specs.declared.result.Result.TheVariants.{Err, Ok}
use Rattle.std.proofs.lemmas.Bool.{eqb-true, le-leb, leb-true, lt-leb, lt-ltb}
use Rattle.std.proofs.lemmas.List.{length-take-le, length-replicate, drop_at, take-take, take_at}
use Rattle.std.proofs.Math.Seq.{set-append_seam}
use Rattle.cca_vectors.specs.Checks.{check, first_failing}
use Rattle.cca_vectors.proofs.Judging.{passes_first}
use Rattle.des_blocks.specs.Modes.{added, pad, pad_count, unpad}
use Rattle.key_cells.specs.Bench.{Text, text_of, with_text}
use Rattle.key_cells.specs.Lease.{bench_of, holding}
use Rattle.key_cells.specs.declared.leases.Lease.{Lease}
use Rattle.cipher_verbs.specs.CipherTexts.{ChangesText, cleared}
use Rattle.verb_rules.specs.LengthChecks.{are_blocks, is_whole, text_checks}
use Rattle.verb_rules.specs.declared.lengths.TextUse.TheVariants.{Decipher}
use Rattle.verb_rules.specs.Rules.{Judges, rule_number}
use Rattle.verb_rules.specs.declared.rules.Rule.{Rule}

one_left : (xs : List ℕ) → length xs ≡ 1 → (y : ℕ) × (xs ≡ y ∷ [])
one_left [] h = absurd (omega arith)
one_left (x ∷ []) h = (x, refl)
one_left (x ∷ y ∷ ys) h = absurd (omega arith)

set_last : (xs zeros : List ℕ) (y value last : ℕ) → last ≡ length xs + length zeros → set (xs ++ (zeros ++ y ∷ [])) last value ≡ xs ++ (zeros ++ value ∷ [])
set_last xs zeros y value last is =
    ap (λ l. set l last value) (sym (append_assoc xs zeros (y ∷ [])))
    ∙ (ap (λ n. set ((xs ++ zeros) ++ y ∷ []) n value) (is ∙ sym (length-append xs zeros))
    ∙ (set-append_seam (xs ++ zeros) y [] value ∙ append_assoc xs zeros (value ∷ [])))

-- zeros over all but the last byte from a place on, and a number over the last one
pub padded_end : (text zeros : List ℕ) (at few last value : ℕ) → at < length text → few ≡ length text - at - 1 → last ≡ length text - 1
    → zeros ≡ replicate few 0 → set (take at text ++ (zeros ++ drop few (drop at text))) last value ≡ take at text ++ (replicate few 0 ++ value ∷ [])
padded_end text zeros at few last value within count end is =
    let rest : length (drop few (drop at text)) ≡ 1 = omega (arith, length-drop few (drop at text), length-drop at text, within, count) in
    let one : (y : ℕ) × (drop few (drop at text) ≡ y ∷ []) = one_left (drop few (drop at text)) rest in
    let front : length (take at text) ≡ at = length-take-le at text (omega (arith, within)) in
    ap (λ z. set (take at text ++ (z ++ drop few (drop at text))) last value) is
    ∙ (ap (λ r. set (take at text ++ (replicate few 0 ++ r)) last value) one.1
    ∙ set_last (take at text) (replicate few 0) one.0 value last (omega (arith, within, count, end, front, length-replicate {A = ℕ} few 0)))

-- ---- padding put on

-- a place whose text was made longer, and padded
pub record Padded (place longer : Text) (new : List ℕ) : Type 0 where
  pub text : take longer.size (new ++ drop longer.size longer.bytes) ≡ pad (text_of place)
  pub whole : longer.size % 8 ≡ 0
  pub room : place.size < 4096 → longer.size ≤ 4096

pub padded_place : (place longer : Text) (text lent new : List ℕ) → text ≡ text_of place → length text ≡ place.size
    → longer ≡ record place { size = length text + 8 - length text % 8 }
    → lent ≡ text_of longer → length lent ≡ longer.size
    → new ≡ take (length text) lent ++ (replicate (length lent - length text - 1) 0 ++ (length lent - length text) ∷ []) → Padded place longer new
unfolding pad
padded_place place longer text lent new read text_long is given lent_long put =
    let n = length text in
    let full = longer.size in
    let size_is : full ≡ n + 8 - n % 8 = ap (λ t. t.size) is in
    let front : take n lent ≡ text
    = ap (take n) (given ∙ ap (λ t. take full t.bytes) is) ∙ take-take n full place.bytes (omega (arith, size_is))
    ∙ ap (λ k. take k place.bytes) text_long ∙ sym read in
    let count : length lent - n ≡ added text = omega (arith, lent_long, size_is) in
    let zeros : List ℕ = replicate (added text - 1) 0 in
    let made : new ≡ text ++ (zeros ++ added text ∷ [])
    = put ∙ ap (λ xs. xs ++ (replicate (length lent - n - 1) 0 ++ (length lent - n) ∷ [])) front
    ∙ ap (λ k. text ++ (replicate (k - 1) 0 ++ k ∷ [])) count in
    let long : length new ≡ full
    = ap (λ xs. length xs) made
    ∙ omega (
      arith,
      length-append text (zeros ++ added text ∷ []),
      length-append zeros (added text ∷ []),
      length-replicate {A = ℕ} (added text - 1) 0,
      size_is,
    ) in
    record {
      text = take_at new (drop full longer.bytes) full long ∙ made ∙ sym (append_assoc text zeros (added text ∷ [])) ∙ ap pad read;
      whole = omega (arith, size_is);
      room = λ short. omega (arith, size_is, text_long, short);
    }

-- ---- padding taken off

-- the last byte, as it is read
count_is : (text one two : List ℕ) → one ≡ text → two ≡ text → slice_index two (length one - 1) ≡ pad_count text
count_is text one two first second = ap (λ xs. slice_index two (length xs - 1)) first ∙ ap (λ xs. slice_index xs (length text - 1)) second

pub none_counted : (text one two : List ℕ) → one ≡ text → two ≡ text → slice_index two (length one - 1) ≡ 0 → unpad text ≡ None
unfolding unpad
none_counted text one two first second none =
    ap (λ n. if nat_lt 0 n && nat_le n 8 then Some (take (length text - n) text) else None) (sym (count_is text one two first second) ∙ none)

pub many_counted : (text one two : List ℕ) → one ≡ text → two ≡ text → 8 < slice_index two (length one - 1) → unpad text ≡ None
unfolding unpad
many_counted text one two first second many =
    let n = slice_index two (length one - 1) in
    ap (λ k. if nat_lt 0 k && nat_le k 8 then Some (take (length text - k) text) else None) (sym (count_is text one two first second))
    ∙ ap (λ p. if p then Some (take (length text - n) text) else None)
    (ap (λ p. p && nat_le n 8) (lt-ltb 0 n (omega (arith, many))) ∙ lt-leb n 8 many)

pub counted : (place kept : Text) (one two : List ℕ) → one ≡ text_of place → two ≡ text_of place → length one ≡ place.size
    → kept ≡ record place { size = length one - slice_index two (length one - 1) }
    → 0 < slice_index two (length one - 1) → slice_index two (length one - 1) ≤ 8 → unpad (text_of place) ≡ Some (text_of kept)
unfolding unpad
counted place kept one two first second size is some few =
    let text = text_of place in
    let n = slice_index two (length one - 1) in
    let left = length one - n in
    ap (λ k. if nat_lt 0 k && nat_le k 8 then Some (take (length text - k) text) else None) (sym (count_is text one two first second))
    ∙ ap (λ p. if p then Some (take (length text - n) text) else None) (ap (λ p. p && nat_le n 8) (lt-ltb 0 n some) ∙ le-leb n 8 few)
    ∙ ap (λ xs. Some (take (length xs - n) text)) (sym first)
    ∙ ap {B = Option (List ℕ)} (λ xs. Some xs) (take-take left place.size place.bytes (omega (arith, size)) ∙ sym (ap text_of is))

-- whether the padding was taken off is what rule 31 says
pub judged : {A : Type 0} (given : Option (List ℕ)) (left : List ℕ) (result : Result A Rule) → OnOk result (given ≡ Some left)
    → OnErr result (given ≡ None)
    → IfErr result (λ rule. rule ≡ Rule.PadCount) → Judges (check 31 (is_none given) ∷ []) result
judged given left (Ok x) taken refused rule = ap (λ o. first_failing (check 31 (is_none o) ∷ [])) taken
judged given left (Err r) taken refused rule = ap (λ o. first_failing (check 31 (is_none o) ∷ [])) refused ∙ ap (λ r. Some (rule_number r)) (sym rule)

-- a place with another text of its length is cleared as it was
pub same_cleared : (place new : Text) (text : List ℕ) → new ≡ with_text place text → length text ≡ place.size → cleared new ≡ cleared place
same_cleared place new text is long =
    let made : List ℕ → Text = λ rest. record { bytes = replicate place.size 0 ++ rest; size = 0 } in
    ap cleared is ∙ ap made (drop_at text (drop place.size place.bytes) place.size long)

-- the length of a text that is deciphered
pub record Whole (size : ℕ) : Type 0 where
  pub whole : size % 8 ≡ 0
  pub some : 8 ≤ size
  pub room : size ≤ 4096

both_hold : (p q : Bool) → (p && q) ≡ true → (p ≡ true) × (q ≡ true)
both_hold true q is = (refl, is)
both_hold false q is = cc

pub whole_length : (size : ℕ) → first_failing (text_checks Decipher size) ≡ None → Whole size
whole_length size held =
    let both = both_hold (are_blocks size) (nat_le size 4096) (passes_first 23 (is_whole size) [] held) in
    let blocks = both_hold (size % 8 == 0) (nat_le 8 size) both.0 in
    record {
      whole = eqb-true (size % 8) 0 blocks.0;
      some = leb-true 8 size blocks.1;
      room = leb-true size 4096 both.1;
    }

-- ---- the lease

pub text_stays : (old new : Lease) (text : Text) → new ≡ holding old (record (bench_of old) { text = text })
    → new ≡ holding old (record (bench_of old) { text = (bench_of new).text })
text_stays old new text is = is ∙ ap (λ t. holding old (record (bench_of old) { text = t })) (sym (ap (λ l. (bench_of l).text) is))

-- a change of the text after one of the key, the schedules and the text
pub changed_text : (old mid new : Lease) → ChangesText old mid → new ≡ holding mid (record (bench_of mid) { text = (bench_of new).text })
    → ChangesText old new
changed_text old mid new first second =
    let text = (bench_of new).text in
    second
    ∙ ap (λ l. holding l (record (bench_of l) { key = (bench_of mid).key; schedules = (bench_of mid).schedules; text = text })) first
    ∙ ap (λ l. holding old (record (bench_of old) { key = (bench_of l).key; schedules = (bench_of l).schedules; text = text })) (sym second)
