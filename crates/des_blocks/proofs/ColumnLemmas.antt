-- Tables whose entries have many words each: the words at one place are a table of their own.
use Rattle.std.proofs.Common.{◌≡◌, ℕ, suc, ◌+◌, ◌%◌, ◌/◌, ◌^◌, ◌<◌, List, [], ◌∷◌, ◌++◌, length, take, drop, map, get_or, set, slice_index, bit_xor, refl, sym, ap, ◌∙◌, arith}
use Rattle.std.specs.Int.Bits.{xor_assoc, xor_zero_r}
use Rattle.std.proofs.lemmas.List.{append-nil, drop_all, drop_more, get_or_default, get_or-replicate, take_all}
use Rattle.std.proofs.lemmas.Nat.{xor_comm}
use Rattle.std.specs.Prelude.{replicate}
use lib.ListN.{get_or-map}
use Rattle.des_blocks.specs.Bits.{xor}
use Rattle.des_blocks.specs.Gathering.{column, gathered}
use Rattle.key_cells.proofs.ByteLemmas.{get_or-combined, get_or-xor, xor-more}

-- ---- words joined in place: the front is joined, and the rest is as it was

pub words-none : (xs ys : List ℕ) → xs ≡ xor (take 0 xs) (take 0 ys) ++ drop 0 xs
unfolding xor
words-none xs ys = refl

pub words-more : (xs ys now : List ℕ) (at a b : ℕ) → now ≡ xor (take at xs) (take at ys) ++ drop at xs → at < length xs → at < length ys
    → a ≡ get_or now at 0 → b ≡ get_or ys at 0 → set now at (bit_xor a b) ≡ xor (take (at + 1) xs) (take (at + 1) ys) ++ drop (at + 1) xs
words-more xs ys now at a b front hx hy is_a is_b =
    let next : suc at ≡ at + 1 = omega arith in
    let before : a ≡ get_or xs at 0 = is_a ∙ ap (λ l. get_or l at 0) front ∙ get_or-combined xs ys at hx hy in
    ap (λ n. set now at (bit_xor n b)) before ∙ ap (λ n. set now at (bit_xor (get_or xs at 0) n)) is_b
    ∙ ap (λ l. set l at (bit_xor (get_or xs at 0) (get_or ys at 0))) front
    ∙ xor-more xs ys at hx hy ∙ ap (λ n. xor (take n xs) (take n ys) ++ drop n xs) next

pub words-all : (xs ys now : List ℕ) (n : ℕ) → now ≡ xor (take n xs) (take n ys) ++ drop n xs → length xs ≡ n → length ys ≡ n → now ≡ xor xs ys
words-all xs ys now n front hx hy =
    front ∙ ap (λ l. xor l (take n ys) ++ drop n xs) (take_all n xs (omega arith)) ∙ ap (λ l. xor xs l ++ drop n xs) (take_all n ys (omega arith))
    ∙ ap (λ l. xor xs ys ++ l) (drop_all n xs (omega arith)) ∙ append-nil (xor xs ys)

-- ---- the loop over the rows

pub column-none : (at : ℕ) (rows : List (List (List ℕ))) (word : ℕ) → at < 16
    → bit_xor (slice_index (replicate 16 0) at) (gathered 16 4 (column at (drop 0 rows)) word) ≡ gathered 16 4 (column at rows) word
column-none at rows word h =
    ap (λ n. bit_xor n (gathered 16 4 (column at rows) word)) (get_or-replicate 16 at 0 0 h)
    ∙ xor_comm 0 (gathered 16 4 (column at rows) word) ∙ xor_zero_r (gathered 16 4 (column at rows) word)

pub column-more : (at : ℕ) (rows : List (List (List ℕ))) (no_row : List (List ℕ)) (no_words out now : List ℕ) (rest i whole : ℕ) → at < 16 → i < length rows
    → length (get_or rows i no_row) ≡ 16 → length (get_or (get_or rows i no_row) (rest % 16) no_words) ≡ 16 → length out ≡ 16
    → now ≡ xor out (get_or (get_or rows i no_row) (rest % 16) no_words)
    → bit_xor (slice_index out at) (gathered 16 4 (column at (drop i rows)) rest) ≡ whole
    → bit_xor (slice_index now at) (gathered 16 4 (column at (drop (i + 1) rows)) (rest / 2 ^ 4)) ≡ whole
unfolding gathered
column-more at rows no_row no_words out now rest i whole h below sixteen long size is before =
    let word_of : List ℕ → ℕ = λ entry. slice_index entry at in
    let row : List (List ℕ) = get_or rows i no_row in
    let words : List ℕ = get_or row (rest % 16) no_words in
    let more : ℕ = gathered 16 4 (column at (drop (i + 1) rows)) (rest / 2 ^ 4) in
    let cell : slice_index (map word_of row) (rest % 16) ≡ slice_index words at
    = get_or-map word_of row (rest % 16) [] ∙ ap word_of (get_or_default row (rest % 16) [] no_words (omega arith)) in
    let here : drop i rows ≡ row ∷ drop (i + 1) rows = drop_more rows i no_row below in
    ap (λ ws. bit_xor (slice_index ws at) more) is
    ∙ ap (λ n. bit_xor n more) (get_or-xor out words at (omega arith) (omega arith))
    ∙ xor_assoc (slice_index out at) (slice_index words at) more
    ∙ sym (ap (λ n. bit_xor (slice_index out at) (bit_xor n more)) cell)
    ∙ sym (ap (λ rs. bit_xor (slice_index out at) (gathered 16 4 (column at rs) rest)) here)
    ∙ before

pub column-done : (at : ℕ) (rows : List (List (List ℕ))) (out : List ℕ) (rest i whole : ℕ) → length rows ≡ i
    → bit_xor (slice_index out at) (gathered 16 4 (column at (drop i rows)) rest) ≡ whole → slice_index out at ≡ whole
unfolding gathered
column-done at rows out rest i whole e before =
    sym (xor_zero_r (slice_index out at))
    ∙ sym (ap (λ rs. bit_xor (slice_index out at) (gathered 16 4 (column at rs) rest)) (drop_all i rows (omega arith))) ∙ before
