-- One segment before others, of which the last is padded or filled: what both give is what they give as one.
use Rattle.std.proofs.Common.{◌≡◌, ◌∙◌, ℕ, ◌+◌, ◌-◌, ◌%◌, ◌<◌, ◌≤◌, List, ◌++◌, length, take, slice_index, true, false, Bool, ◌&&◌, nat_lt, nat_le, refl, sym, ap, arith, if◌then◌else◌, Option, None, Some}
use Rattle.std.specs.Prelude.{option_map}
use Rattle.std.proofs.lemmas.Bool.{leb-true}
use Rattle.std.proofs.lemmas.List.{append_assoc, get_or-append-add, length-append}
use Rattle.des_blocks.specs.Modes.{blocks, cbc, is_padded, last_block, pad_count, unpad}
use Rattle.des_blocks.specs.Texts.{cbc_text, uncbc_text}
use Rattle.text_segments.specs.Segments.{rest_part, whole_part}
use Rattle.text_segments.proofs.BlockLemmas.{cbc_text-append, last-cbc, take-past, uncbc_text-append, whole_blocks, whole-rest}

-- what is put at the end of a text leaves whole blocks before it as they are
abbrev pub EndsAlone : (List ℕ → List ℕ) → Type 0
EndsAlone ended = (xs ys : List ℕ) → length xs % 8 ≡ 0 → ended (xs ++ ys) ≡ xs ++ ended ys

-- the whole blocks of a segment come before all that follows
pub first-whole : (ended : List ℕ → List ℕ) → EndsAlone ended → (carried text after : List ℕ)
    → ended (carried ++ (text ++ after)) ≡ whole_part (carried ++ text) ++ ended (rest_part (carried ++ text) ++ after)
first-whole ended alone carried text after =
    let hand = carried ++ text in
    ap ended (sym (append_assoc carried text after)
    ∙ ap (λ xs. xs ++ after) (sym (whole-rest hand))
    ∙ append_assoc (whole_part hand) (rest_part hand) after)
    ∙ alone (whole_part hand) (rest_part hand ++ after) (whole_blocks hand)

pub enciphered_step : (e ended : List ℕ → List ℕ) → EndsAlone ended → (start carried text after : List ℕ)
    → cbc_text e start (whole_part (carried ++ text))
    ++ cbc_text e (last_block start (cbc e start (blocks (whole_part (carried ++ text))))) (ended (rest_part (carried ++ text) ++ after))
    ≡ cbc_text e start (ended (carried ++ (text ++ after)))
enciphered_step e ended alone start carried text after =
    let hand = carried ++ text in
    sym (ap (cbc_text e start) (first-whole ended alone carried text after)
    ∙ cbc_text-append e start (whole_part hand) (ended (rest_part hand ++ after)) (whole_blocks hand))

pub deciphered_step : (d : List ℕ → List ℕ) (start carried text after : List ℕ)
    → uncbc_text d start (whole_part (carried ++ text))
    ++ uncbc_text d (last_block start (blocks (whole_part (carried ++ text)))) (rest_part (carried ++ text) ++ after)
    ≡ uncbc_text d start (carried ++ (text ++ after))
deciphered_step d start carried text after =
    let hand = carried ++ text in
    sym (ap (uncbc_text d start) (first-whole (λ xs. xs) (λ xs ys whole. refl) carried text after)
    ∙ uncbc_text-append d start (whole_part hand) (rest_part hand ++ after) (whole_blocks hand))

pub code_step : (e ended : List ℕ → List ℕ) → EndsAlone ended → (start carried text after : List ℕ)
    → last_block (last_block start (cbc e start (blocks (whole_part (carried ++ text)))))
    (cbc e (last_block start (cbc e start (blocks (whole_part (carried ++ text))))) (blocks (ended (rest_part (carried ++ text) ++ after))))
    ≡ last_block start (cbc e start (blocks (ended (carried ++ (text ++ after)))))
code_step e ended alone start carried text after =
    let hand = carried ++ text in
    sym (ap (λ xs. last_block start (cbc e start (blocks xs))) (first-whole ended alone carried text after)
    ∙ last-cbc e start (whole_part hand) (ended (rest_part hand ++ after)) (whole_blocks hand))

-- ---- padding taken off the end of a text

count-end : (xs ys : List ℕ) → 0 < length ys → pad_count (xs ++ ys) ≡ pad_count ys
count-end xs ys some =
    let at : length (xs ++ ys) - 1 ≡ length xs + (length ys - 1) = omega (arith, length-append xs ys) in
    ap (λ n. slice_index (xs ++ ys) n) at ∙ get_or-append-add xs ys (length ys - 1) 0

second_holds : (p q : Bool) → (p && q) ≡ true → q ≡ true
second_holds true q is = is
second_holds false q is = cc

-- the count is at most 8, where it is one
unpad-by : (xs ys : List ℕ) (count : ℕ) (is : Bool) → is ≡ (nat_lt 0 count && nat_le count 8) → 8 ≤ length ys
    → (if is then Some (take (length (xs ++ ys) - count) (xs ++ ys)) else None) ≡ option_map (λ end. xs ++ end) (if is then Some (take (length ys - count) ys) else None)
unpad-by xs ys count false is some = refl
unpad-by xs ys count true is some =
    let few : count ≤ 8 = leb-true count 8 (second_holds (nat_lt 0 count) (nat_le count 8) (sym is)) in
    let at : length (xs ++ ys) - count ≡ length xs + (length ys - count) = omega (arith, length-append xs ys, few) in
    ap (λ n. Some (take n (xs ++ ys))) at ∙ ap {B = Option (List ℕ)} (λ zs. Some zs) (take-past xs ys (length ys - count))

pub unpad-append : (xs ys : List ℕ) → 8 ≤ length ys → unpad (xs ++ ys) ≡ option_map (λ end. xs ++ end) (unpad ys)
unfolding unpad
unpad-append xs ys some =
    ap (λ count. if nat_lt 0 count && nat_le count 8 then Some (take (length (xs ++ ys) - count) (xs ++ ys)) else None) (count-end xs ys (omega arith))
    ∙ unpad-by xs ys (pad_count ys) (is_padded ys) refl some
