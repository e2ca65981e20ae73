-- The key schedule: over tables of numbers, in a row, and cut into round keys again.
use Rattle.std.proofs.Common.{◌≡◌, ℕ, ◌+◌, ◌*◌, ◌<◌, IsTrue, List, [], ◌∷◌, ◌++◌, length, take, drop, get_or, refl, sym, ap, ◌∙◌, arith, subst}
use Rattle.std.specs.List.{flat_map}
use Rattle.std.proofs.lemmas.List.{append-nil, length-append, length-take, length-drop, take_all}
use Rattle.des_blocks.specs.Bits.{pieces}
use Rattle.des_blocks.specs.Des.{places, shifted, key_schedule, round_keys}
use Rattle.des_blocks.proofs.Numbers.{are_numbers, key_numbers}
use Rattle.des_blocks.specs.Schedules.{group_bits, keys_of}
use Rattle.des_blocks.specs.Tables.{key_choice_1, key_choice_2, shifts}
use Rattle.key_cells.specs.declared.schedules.Schedule.{Schedule}
use Rattle.des_blocks.proofs.BitLemmas.{take-add, drop-add, take-split, get_or-pieces}
use Rattle.des_blocks.proofs.GroupLemmas.{group_bits-append}
use Rattle.des_blocks.proofs.PlaceLemmas.{drop-places, length-places, take-places, places-append, places-places}

-- ---- the schedule over tables

pub shifted-places : (n : ℕ) (t xs : List ℕ) → shifted n (places t xs) ≡ places (shifted n t) xs
shifted-places n t xs =
    ap (λ ys. ys ++ take n (places t xs)) (drop-places n t xs) ∙ ap (λ ys. places (drop n t) xs ++ ys) (take-places n t xs) ∙ sym (places-append (drop n t) (take n t) xs)

pub length-shifted : (n : ℕ) (t : List ℕ) → length (shifted n t) ≡ length t
length-shifted n t = length-append (drop n t) (take n t) ∙ omega (arith, length-drop n t, length-take n t)

-- the schedule of what two tables take is what the tables of the schedule take
nothing : (key : List ℕ) → [] ≡ places [] key
unfolding places
nothing key = refl

-- the schedule of what two tables take is what the tables of the schedule take
schedule-places : (ns c d key : List ℕ) → length c ≡ 28 → length d ≡ 28
    → flat_map (λ k. k) (key_schedule ns (places c key) (places d key)) ≡ places (flat_map (λ k. k) (key_schedule ns c d)) key
unfolding key_schedule
schedule-places [] c d key p q = nothing key
schedule-places (n ∷ ns) c d key p q =
    let c' = shifted n c in
    let d' = shifted n d in
    let long : length (c' ++ d') ≡ 56 = length-append c' d' ∙ omega (arith, length-shifted n c, length-shifted n d) in
    let numbers : IsTrue (are_numbers (length (c' ++ d')) key_choice_2) = subst (λ w. IsTrue (are_numbers w key_choice_2)) (sym long) refl in
    let halves : shifted n (places c key) ++ shifted n (places d key) ≡ places (c' ++ d') key
    = ap (λ xs. xs ++ shifted n (places d key)) (shifted-places n c key) ∙ ap (λ xs. places c' key ++ xs) (shifted-places n d key) ∙ sym (places-append c' d' key) in
    let first : places key_choice_2 (shifted n (places c key) ++ shifted n (places d key)) ≡ places (places key_choice_2 (c' ++ d')) key
    = ap (places key_choice_2) halves ∙ places-places key_choice_2 (c' ++ d') key numbers in
    let rest : flat_map (λ k. k) (key_schedule ns (shifted n (places c key)) (shifted n (places d key))) ≡ places (flat_map (λ k. k) (key_schedule ns c' d')) key
    = ap (λ xs. flat_map (λ k. k) (key_schedule ns xs (shifted n (places d key)))) (shifted-places n c key)
    ∙ ap (λ xs. flat_map (λ k. k) (key_schedule ns (places c' key) xs)) (shifted-places n d key)
    ∙ schedule-places ns c' d' key (length-shifted n c ∙ p) (length-shifted n d ∙ q) in
    ap (λ xs. xs ++ flat_map (λ k. k) (key_schedule ns (shifted n (places c key)) (shifted n (places d key)))) first
    ∙ ap (λ xs. places (places key_choice_2 (c' ++ d')) key ++ xs) rest
    ∙ sym (places-append (places key_choice_2 (c' ++ d')) (flat_map (λ k. k) (key_schedule ns c' d')) key)

-- the round keys in a row are the key's bits at the key numbers
pub round_keys-row : (key : List ℕ) → flat_map (λ k. k) (round_keys key) ≡ places key_numbers key
unfolding round_keys key_numbers
round_keys-row key =
    ap (λ xs. flat_map (λ k. k) (key_schedule shifts xs (drop 28 (places key_choice_1 key)))) (take-places 28 key_choice_1 key)
    ∙ ap (λ xs. flat_map (λ k. k) (key_schedule shifts (places (take 28 key_choice_1) key) xs)) (drop-places 28 key_choice_1 key)
    ∙ schedule-places shifts (take 28 key_choice_1) (drop 28 key_choice_1) key refl refl

-- ---- cut into round keys again

pieces-schedule : (ns c d : List ℕ) → pieces (length ns) 48 (flat_map (λ k. k) (key_schedule ns c d)) ≡ key_schedule ns c d
unfolding pieces key_schedule
pieces-schedule [] c d = refl
pieces-schedule (n ∷ ns) c d =
    let k = places key_choice_2 (shifted n c ++ shifted n d) in
    let rest = flat_map (λ x. x) (key_schedule ns (shifted n c) (shifted n d)) in
    let long : length k ≡ 48 = length-places key_choice_2 (shifted n c ++ shifted n d) in
    let first : take 48 (k ++ rest) ≡ k = take-add k rest 48 0 long ∙ append-nil k in
    let others : drop 48 (k ++ rest) ≡ rest = drop-add k rest 48 0 long in
    ap {B = List (List ℕ)} (λ xs. xs ∷ pieces (length ns) 48 (drop 48 (k ++ rest))) first
    ∙ ap {B = List (List ℕ)} (λ xs. k ∷ pieces (length ns) 48 xs) others
    ∙ ap {B = List (List ℕ)} (λ xs. k ∷ xs) (pieces-schedule ns (shifted n c) (shifted n d))

pub pieces-round_keys : (key : List ℕ) → pieces 16 48 (flat_map (λ k. k) (round_keys key)) ≡ round_keys key
unfolding round_keys
pieces-round_keys key = pieces-schedule shifts (take 28 (places key_choice_1 key)) (drop 28 (places key_choice_1 key))

pub length-key_numbers : length key_numbers ≡ 768
unfolding key_numbers key_schedule places
length-key_numbers = refl

-- the round key of a round
pub key-at_numbers : (key : List ℕ) (round : ℕ) → round < 16 → get_or (round_keys key) round [] ≡ take 48 (drop (48 * round) (places key_numbers key))
key-at_numbers key round h =
    sym (ap (λ keys. get_or keys round []) (pieces-round_keys key))
    ∙ get_or-pieces 16 48 round (flat_map (λ k. k) (round_keys key)) h
    ∙ ap (λ row. take 48 (drop (48 * round) row)) (round_keys-row key)

-- ---- the round keys in a row

pub no-keys : (groups key : List ℕ) → group_bits (take (8 * 0) groups) ≡ take (48 * 0) (places key_numbers key)
unfolding group_bits
no-keys groups key = refl

-- one round key more of a schedule
pub schedule-more : (key old new word : List ℕ) (round : ℕ) → round < 16 → length old ≡ 128 → length word ≡ 8
    → new ≡ take (8 * round) old ++ (word ++ drop (8 * round + 8) old)
    → group_bits word ≡ take 48 (drop (48 * round) (places key_numbers key))
    → group_bits (take (8 * round) old) ≡ take (48 * round) (places key_numbers key)
    → group_bits (take (8 * (round + 1)) new) ≡ take (48 * (round + 1)) (places key_numbers key)
schedule-more key old new word round h long eight is bits before =
    let row = places key_numbers key in
    let wider : 48 * (round + 1) ≡ 48 * round + 48 = omega arith in
    let more : 8 * (round + 1) ≡ 8 * round + 8 = omega arith in
    let size : length (take (8 * round) old) ≡ 8 * round = length-take (8 * round) old ∙ omega arith in
    let front : take (8 * (round + 1)) new ≡ take (8 * round) old ++ word
    = ap (take (8 * (round + 1))) is ∙ ap (λ n. take n (take (8 * round) old ++ (word ++ drop (8 * round + 8) old))) more
    ∙ take-add (take (8 * round) old) (word ++ drop (8 * round + 8) old) (8 * round) 8 size
    ∙ ap (λ xs. take (8 * round) old ++ xs) (take-add word (drop (8 * round + 8) old) 8 0 eight ∙ append-nil word) in
    ap group_bits front ∙ group_bits-append (take (8 * round) old) word
    ∙ ap (λ xs. xs ++ group_bits word) before ∙ ap (λ xs. take (48 * round) row ++ xs) bits
    ∙ sym (ap (λ n. take n row) wider ∙ take-split (48 * round) 48 row)

pub schedule-size : (old new word : List ℕ) (round : ℕ) → round < 16 → length old ≡ 128 → length word ≡ 8
    → new ≡ take (8 * round) old ++ (word ++ drop (8 * round + 8) old) → length new ≡ 128
schedule-size old new word round h long eight is =
    ap length is ∙ length-append (take (8 * round) old) (word ++ drop (8 * round + 8) old)
    ∙ omega (arith, length-append word (drop (8 * round + 8) old), length-take (8 * round) old, length-drop (8 * round + 8) old)

-- all of them
pub schedule-done : (out : Schedule) (key : List ℕ) (round : ℕ) → round ≡ 16 → length out.groups ≡ 128
    → group_bits (take (8 * round) out.groups) ≡ take (48 * round) (places key_numbers key)
    → keys_of out ≡ round_keys key
unfolding keys_of
schedule-done out key round e long before =
    let row = places key_numbers key in
    let size : length row ≡ 768 = length-places key_numbers key ∙ length-key_numbers in
    let whole : group_bits out.groups ≡ row
    = sym (ap group_bits (take_all (8 * round) out.groups (omega arith))) ∙ before ∙ take_all (48 * round) row (omega arith) in
    ap (pieces 16 48) (whole ∙ sym (round_keys-row key)) ∙ pieces-round_keys key
