-- Groups of six bits: parts of them, and the round key at a place.
use Rattle.std.proofs.Common.{◌≡◌, ℕ, zero, suc, ◌+◌, ◌-◌, ◌*◌, ◌<◌, Bool, true, false, List, [], ◌∷◌, ◌++◌, length, take, drop, get_or, refl, sym, ap, ◌∙◌, arith}
use Rattle.std.proofs.lemmas.List.{append-nil, append_assoc, length-append, get_or-reverse, length-reverse}
use Rattle.key_cells.specs.declared.schedules.Schedule.{Schedule}
use Rattle.des_blocks.specs.Bits.{bits}
use Rattle.des_blocks.specs.Schedules.{group_bits, keys_of, ordered}
use Rattle.des_blocks.proofs.BitLemmas.{length-bits, take-nil, drop-nil, take-add, drop-add, get_or-pieces, length-pieces}

pub group_bits-append : (gs hs : List ℕ) → group_bits (gs ++ hs) ≡ group_bits gs ++ group_bits hs
unfolding group_bits
group_bits-append [] hs = refl
group_bits-append (g ∷ gs) hs = ap (λ xs. bits 6 g ++ xs) (group_bits-append gs hs) ∙ sym (append_assoc (bits 6 g) (group_bits gs) (group_bits hs))

pub take-group_bits : (m : ℕ) (gs : List ℕ) → take (6 * m) (group_bits gs) ≡ group_bits (take m gs)
unfolding group_bits
take-group_bits zero gs = refl
take-group_bits (suc m) [] = take-nil (6 * suc m)
take-group_bits (suc m) (g ∷ gs) =
    let e : 6 * suc m ≡ 6 + 6 * m = omega arith in
    ap (λ n. take n (bits 6 g ++ group_bits gs)) e ∙ take-add (bits 6 g) (group_bits gs) 6 (6 * m) (length-bits 6 g) ∙ ap (λ xs. bits 6 g ++ xs) (take-group_bits m gs)

pub drop-group_bits : (m : ℕ) (gs : List ℕ) → drop (6 * m) (group_bits gs) ≡ group_bits (drop m gs)
unfolding group_bits
drop-group_bits zero gs = refl
drop-group_bits (suc m) [] = drop-nil (6 * suc m)
drop-group_bits (suc m) (g ∷ gs) =
    let e : 6 * suc m ≡ 6 + 6 * m = omega arith in
    ap (λ n. drop n (bits 6 g ++ group_bits gs)) e ∙ drop-add (bits 6 g) (group_bits gs) 6 (6 * m) (length-bits 6 g) ∙ drop-group_bits m gs

-- the round key at a place is that of its eight groups
pub key-at : (schedule : Schedule) (at : ℕ) → at < 16 → get_or (keys_of schedule) at [] ≡ group_bits (take 8 (drop (8 * at) schedule.groups))
unfolding keys_of
key-at schedule at h =
    let e : 48 * at ≡ 6 * (8 * at) = omega arith in
    get_or-pieces 16 48 at (group_bits schedule.groups) h
    ∙ ap (λ n. take 48 (drop n (group_bits schedule.groups))) e
    ∙ ap (take 48) (drop-group_bits (8 * at) schedule.groups)
    ∙ take-group_bits 8 (drop (8 * at) schedule.groups)

pub length-keys_of : (schedule : Schedule) → length (keys_of schedule) ≡ 16
unfolding keys_of
length-keys_of schedule = length-pieces 16 48 (group_bits schedule.groups)

-- the round keys forward, or in reverse
pub ordered-key : (reversed : Bool) (schedule : Schedule) (round at : ℕ) → round < 16 → (reversed ≡ true → at ≡ 15 - round) → (reversed ≡ false → at ≡ round)
    → get_or (ordered reversed (keys_of schedule)) round [] ≡ get_or (keys_of schedule) at []
unfolding ordered
ordered-key false schedule round at h back forth = sym (ap (λ n. get_or (keys_of schedule) n []) (forth refl))
ordered-key true schedule round at h back forth =
    let long = length-keys_of schedule in
    let e : length (keys_of schedule) - 1 - round ≡ at = omega (arith, back refl) in
    get_or-reverse (keys_of schedule) round [] (omega arith) ∙ ap (λ n. get_or (keys_of schedule) n []) e

pub length-ordered : (reversed : Bool) (schedule : Schedule) → length (ordered reversed (keys_of schedule)) ≡ 16
unfolding ordered
length-ordered false schedule = length-keys_of schedule
length-ordered true schedule = length-reverse (keys_of schedule) ∙ length-keys_of schedule

pub group_bits-single : (g : ℕ) → group_bits (g ∷ []) ≡ bits 6 g
unfolding group_bits
group_bits-single g = append-nil (bits 6 g)

pub length-group_bits : (gs : List ℕ) → length (group_bits gs) ≡ 6 * length gs
unfolding group_bits
length-group_bits [] = refl
length-group_bits (g ∷ gs) = length-append (bits 6 g) (group_bits gs) ∙ omega (arith, length-bits 6 g, length-group_bits gs)
