-- The key schedule is linear: of the exclusive or of two keys the round keys are those of the keys, joined one by one.
use Rattle.std.proofs.Common.{◌≡◌, ℕ, zero, suc, ◌+◌, ◌-◌, ◌*◌, List, [], ◌∷◌, ◌++◌, length, take, drop, refl, sym, ap, ◌∙◌, arith}
use Rattle.std.proofs.lemmas.List.{length-append, length-drop}
use Rattle.des_blocks.specs.Bits.{bits, byte_bits, pieces, xor}
use Rattle.des_blocks.specs.Des.{places, shifted, key_schedule, round_keys}
use Rattle.des_blocks.specs.Schedules.{each_xor, group_bits}
use Rattle.des_blocks.specs.Tables.{key_choice_1, key_choice_2, shifts}
use Rattle.des_blocks.proofs.BitLemmas.{bits-xor, length-bits}
use Rattle.des_blocks.proofs.ByteLemmas.{length-byte_bits}
use Rattle.des_blocks.proofs.KeyLemmas.{length-shifted}
use Rattle.des_blocks.proofs.PlaceLemmas.{drop-places, length-places, take-places}
use Rattle.des_blocks.proofs.XorLemmas.{byte_bits-xor, places-xor, xor-append}
use Rattle.key_cells.proofs.ByteLemmas.{take-xor}

-- ---- parts of lists that are joined

xor-none : (xs : List ℕ) → xor xs [] ≡ []
unfolding xor
xor-none [] = refl
xor-none (x ∷ xs) = refl

drop-xor : (n : ℕ) (xs ys : List ℕ) → drop n (xor xs ys) ≡ xor (drop n xs) (drop n ys)
unfolding xor
drop-xor zero xs ys = refl
drop-xor (suc n) [] ys = refl
drop-xor (suc n) (x ∷ xs) [] = sym (xor-none (drop n xs))
drop-xor (suc n) (x ∷ xs) (y ∷ ys) = drop-xor n xs ys

shifted-xor : (n : ℕ) (xs ys : List ℕ) → length xs ≡ length ys → shifted n (xor xs ys) ≡ xor (shifted n xs) (shifted n ys)
shifted-xor n xs ys e =
    let long : length (drop n xs) ≡ length (drop n ys) = length-drop n xs ∙ ap (λ m. m - n) e ∙ sym (length-drop n ys) in
    ap (λ zs. zs ++ take n (xor xs ys)) (drop-xor n xs ys)
    ∙ ap (λ zs. xor (drop n xs) (drop n ys) ++ zs) (take-xor n xs ys)
    ∙ sym (xor-append (drop n xs) (take n xs) (drop n ys) (take n ys) long)

-- ---- the round keys

schedule-xor : (ns c d g h : List ℕ) → length c ≡ length g → length d ≡ length h
    → key_schedule ns (xor c g) (xor d h) ≡ each_xor (key_schedule ns c d) (key_schedule ns g h)
unfolding key_schedule each_xor
schedule-xor [] c d g h p q = refl
schedule-xor (n ∷ ns) c d g h p q =
    let lefts : length (shifted n c) ≡ length (shifted n g) = length-shifted n c ∙ p ∙ sym (length-shifted n g) in
    let rights : length (shifted n d) ≡ length (shifted n h) = length-shifted n d ∙ q ∙ sym (length-shifted n h) in
    let one : List ℕ = shifted n c ++ shifted n d in
    let other : List ℕ = shifted n g ++ shifted n h in
    let long : length one ≡ length other
    = length-append (shifted n c) (shifted n d) ∙ ap (λ m. m + length (shifted n d)) lefts ∙ ap (λ m. length (shifted n g) + m) rights ∙ sym (length-append (shifted n g) (shifted n h)) in
    let both : shifted n (xor c g) ++ shifted n (xor d h) ≡ xor one other
    = ap (λ xs. xs ++ shifted n (xor d h)) (shifted-xor n c g p) ∙ ap (λ xs. xor (shifted n c) (shifted n g) ++ xs) (shifted-xor n d h q)
    ∙ sym (xor-append (shifted n c) (shifted n d) (shifted n g) (shifted n h) lefts) in
    let first : places key_choice_2 (shifted n (xor c g) ++ shifted n (xor d h)) ≡ xor (places key_choice_2 one) (places key_choice_2 other)
    = ap (places key_choice_2) both ∙ places-xor key_choice_2 one other long in
    let rest : key_schedule ns (shifted n (xor c g)) (shifted n (xor d h)) ≡ each_xor (key_schedule ns (shifted n c) (shifted n d)) (key_schedule ns (shifted n g) (shifted n h))
    = ap (λ xs. key_schedule ns xs (shifted n (xor d h))) (shifted-xor n c g p)
    ∙ ap (key_schedule ns (xor (shifted n c) (shifted n g))) (shifted-xor n d h q)
    ∙ schedule-xor ns (shifted n c) (shifted n d) (shifted n g) (shifted n h) lefts rights in
    ap {B = List (List ℕ)} (λ key. key ∷ key_schedule ns (shifted n (xor c g)) (shifted n (xor d h))) first
    ∙ ap {B = List (List ℕ)} (λ keys. xor (places key_choice_2 one) (places key_choice_2 other) ∷ keys) rest

pub round_keys-xor : (a b : List ℕ) → length a ≡ length b → round_keys (xor a b) ≡ each_xor (round_keys a) (round_keys b)
unfolding round_keys
round_keys-xor a b e =
    let one : List ℕ = places key_choice_1 a in
    let other : List ℕ = places key_choice_1 b in
    let lefts : length (take 28 one) ≡ length (take 28 other)
    = ap length (take-places 28 key_choice_1 a) ∙ length-places (take 28 key_choice_1) a ∙ sym (ap length (take-places 28 key_choice_1 b) ∙ length-places (take 28 key_choice_1) b) in
    let rights : length (drop 28 one) ≡ length (drop 28 other)
    = ap length (drop-places 28 key_choice_1 a) ∙ length-places (drop 28 key_choice_1) a ∙ sym (ap length (drop-places 28 key_choice_1 b) ∙ length-places (drop 28 key_choice_1) b) in
    ap (λ xs. key_schedule shifts (take 28 xs) (drop 28 xs)) (places-xor key_choice_1 a b e)
    ∙ ap (λ xs. key_schedule shifts xs (drop 28 (xor one other))) (take-xor 28 one other)
    ∙ ap (key_schedule shifts (xor (take 28 one) (take 28 other))) (drop-xor 28 one other)
    ∙ schedule-xor shifts (take 28 one) (drop 28 one) (take 28 other) (drop 28 other) lefts rights

-- ---- the round keys that groups hold

group_bits-xor : (xs ys : List ℕ) → length xs ≡ length ys → group_bits (xor xs ys) ≡ xor (group_bits xs) (group_bits ys)
unfolding xor group_bits
group_bits-xor [] ys e = refl
group_bits-xor (x ∷ xs) [] e = absurd (omega arith)
group_bits-xor (x ∷ xs) (y ∷ ys) e =
    ap (λ zs. zs ++ group_bits (xor xs ys)) (bits-xor 6 x y)
    ∙ ap (λ zs. xor (bits 6 x) (bits 6 y) ++ zs) (group_bits-xor xs ys (omega arith))
    ∙ sym (xor-append (bits 6 x) (group_bits xs) (bits 6 y) (group_bits ys) (length-bits 6 x ∙ sym (length-bits 6 y)))

pieces-xor : (count size : ℕ) (xs ys : List ℕ) → pieces count size (xor xs ys) ≡ each_xor (pieces count size xs) (pieces count size ys)
unfolding pieces each_xor
pieces-xor zero size xs ys = refl
pieces-xor (suc count) size xs ys =
    ap {B = List (List ℕ)} (λ key. key ∷ pieces count size (drop size (xor xs ys))) (take-xor size xs ys)
    ∙ ap {B = List (List ℕ)} (λ zs. xor (take size xs) (take size ys) ∷ pieces count size zs) (drop-xor size xs ys)
    ∙ ap {B = List (List ℕ)} (λ keys. xor (take size xs) (take size ys) ∷ keys) (pieces-xor count size (drop size xs) (drop size ys))

pub groups-keys : (xs ys : List ℕ) → length xs ≡ length ys
    → pieces 16 48 (group_bits (xor xs ys)) ≡ each_xor (pieces 16 48 (group_bits xs)) (pieces 16 48 (group_bits ys))
groups-keys xs ys e = ap (pieces 16 48) (group_bits-xor xs ys e) ∙ pieces-xor 16 48 (group_bits xs) (group_bits ys)

-- of the schedules of two keys
pub keys-joined : (a b : List ℕ) (into other now : List (List ℕ)) → length a ≡ length b → now ≡ each_xor into other
    → into ≡ round_keys (byte_bits a) → other ≡ round_keys (byte_bits b) → now ≡ round_keys (byte_bits (xor a b))
keys-joined a b into other now e is p q =
    is ∙ ap (λ keys. each_xor keys other) p ∙ ap (each_xor (round_keys (byte_bits a))) q
    ∙ sym (round_keys-xor (byte_bits a) (byte_bits b) (length-byte_bits a ∙ ap (λ n. n * 8) e ∙ sym (length-byte_bits b)))
    ∙ sym (ap round_keys (byte_bits-xor a b e))
