-- A round over lanes: vectors taken by a table of places, joined with others, and with the bits of a round key.
use Rattle.std.proofs.Common.{◌≡◌, ℕ, zero, suc, ◌+◌, ◌-◌, ◌%◌, ◌<◌, ◌≤◌, true, ◌&&◌, nat_lt, nat_le, List, [], ◌∷◌, ◌++◌, length, map, take, drop, get_or, bit_xor, refl, sym, ap, ◌∙◌, arith}
use Rattle.std.specs.Int.{bit_at, w64}
use Rattle.std.specs.Simd.Lanes.{zip2}
use Rattle.std.proofs.lemmas.List.{take_all, drop-drop, get_or-drop, length-append, length-drop}
use Rattle.std.proofs.lemmas.Nat.Bits.{bit_at-zero, bit_at_not}
use Rattle.std.proofs.lemmas.Simd.{get_or-zip2, length-zip2}
use Rattle.std.proofs.lemmas.Bool.Decides.{nat_tests}
use Rattle.des_blocks.specs.Bits.{bits, xor}
use Rattle.des_blocks.specs.Des.{f, look_up, places, substitute}
use Rattle.des_blocks.specs.Schedules.{group_bits}
use Rattle.des_blocks.specs.Tables.{Box, boxes, expansion, permutation, s1, s2, s3, s4, s5, s6, s7, s8}
use Rattle.des_blocks.proofs.Numbers.{are_numbers}
use Rattle.des_blocks.proofs.PlaceLemmas.{drop-places, take-places}
use Rattle.des_core.specs.Lanes.{AreVectors, bit_of, joined_at, lane}
use Rattle.des_core.proofs.CircuitLemmas.{pick}
use Rattle.des_blocks.proofs.BitLemmas.{bit-xor}
use Rattle.std.proofs.lemmas.Bool.{and_parts}
use Rattle.key_cells.proofs.ByteLemmas.{take-xor}

-- the elements at the places of a table
abbrev pub taken : {A : Type 0} → A → List ℕ → List A → List A
taken d table xs = map (λ n. get_or xs (n - 1) d) table

abbrev pub joined : List (List ℕ) → List (List ℕ) → List (List ℕ)
joined = zip2 (zip2 bit_xor)

abbrev pub numbers : ℕ → ℕ → List ℕ
numbers from zero = []
numbers from (suc n) = from ∷ numbers (suc from) n

-- ---- lanes of them

pub lane-at : (e i k : ℕ) (vs : List (List ℕ)) → get_or (lane e i vs) k 0 ≡ bit_of e i (get_or vs k [])
lane-at e i k [] = sym (bit_at-zero i)
lane-at e i zero (v ∷ vs) = refl
lane-at e i (suc k) (v ∷ vs) = lane-at e i k vs

pub lane-taken : (e i : ℕ) (table : List ℕ) (vs : List (List ℕ)) → lane e i (taken [] table vs) ≡ places table (lane e i vs)
unfolding places
lane-taken e i [] vs = refl
lane-taken e i (n ∷ ns) vs = ap {B = List ℕ} (λ x. x ∷ lane e i (taken [] ns vs)) (sym (lane-at e i (n - 1) vs)) ∙ ap {B = List ℕ} (λ xs. get_or (lane e i vs) (n - 1) 0 ∷ xs) (lane-taken e i ns vs)

abbrev pub Twos : List (List ℕ) → Type 0
Twos [] = Unit {0}
Twos (v ∷ vs) = (length v ≡ 2) × Twos vs

pub six-twos : (v0 v1 v2 v3 v4 v5 : List ℕ) → length v0 ≡ 2 → length v1 ≡ 2 → length v2 ≡ 2 → length v3 ≡ 2 → length v4 ≡ 2 → length v5 ≡ 2 → Twos (v0 ∷ v1 ∷ v2 ∷ v3 ∷ v4 ∷ v5 ∷ [])
six-twos v0 v1 v2 v3 v4 v5 h0 h1 h2 h3 h4 h5 = (h0, (h1, (h2, (h3, (h4, (h5, tt))))))

lane-joined : (e i : ℕ) (vs ws : List (List ℕ)) → e < 2 → Twos vs → Twos ws → lane e i (joined vs ws) ≡ xor (lane e i vs) (lane e i ws)
unfolding xor
lane-joined e i [] ws h p q = refl
lane-joined e i (v ∷ vs) [] h p q = refl
lane-joined e i (v ∷ vs) (w ∷ ws) h p q =
    ap {B = List ℕ} (λ x. x ∷ lane e i (joined vs ws)) (ap (λ n. bit_at n i) (get_or-zip2 bit_xor v w e 0 0 0 (omega (arith, p.0)) (omega (arith, q.0))) ∙ bit-xor (get_or v e 0) (get_or w e 0) i)
    ∙ ap {B = List ℕ} (λ xs. bit_xor (bit_of e i v) (bit_of e i w) ∷ xs) (lane-joined e i vs ws h p.1 q.1)

-- ---- a bit of a round key at every lane

both-same : (e a : ℕ) → e < 2 → get_or (a ∷ a ∷ []) e 0 ≡ a
both-same zero a h = refl
both-same (suc zero) a h = refl
both-same (suc (suc e)) a h = absurd (omega arith)

-- a bit taken from 0
mask-bit : (b i : ℕ) → b < 2 → i < 64 → bit_at ((0 + (18446744073709551616 - b)) % 18446744073709551616) i ≡ b
mask-bit zero i h k = bit_at-zero i
mask-bit (suc zero) i h k = bit_at_not w64 0 i (omega arith) k ∙ ap (λ n. 1 - n) (bit_at-zero i)
mask-bit (suc (suc b)) i h k = absurd (omega arith)

pub mask-lanes : (b e i : ℕ) → e < 2 → i < 64 → b < 2 → let m = (0 + (18446744073709551616 - b)) % 18446744073709551616 in bit_of e i (m ∷ m ∷ []) ≡ b
mask-lanes b e i h k small = ap (λ n. bit_at n i) (both-same e ((0 + (18446744073709551616 - b)) % 18446744073709551616) h) ∙ mask-bit b i small k

-- six bits of them are those of a group
pub group-lanes : (e i group : ℕ) (m5 m4 m3 m2 m1 m0 : List ℕ) → bit_of e i m5 ≡ bit_at group 5 → bit_of e i m4 ≡ bit_at group 4 → bit_of e i m3 ≡ bit_at group 3
    → bit_of e i m2 ≡ bit_at group 2 → bit_of e i m1 ≡ bit_at group 1 → bit_of e i m0 ≡ bit_at group 0 → lane e i (m5 ∷ m4 ∷ m3 ∷ m2 ∷ m1 ∷ m0 ∷ []) ≡ bits 6 group
unfolding bits
group-lanes e i group m5 m4 m3 m2 m1 m0 h5 h4 h3 h2 h1 h0 = cc

-- ---- six places in a row

get-suc : {A : Type 0} (from : ℕ) (d x : A) (xs : List A) (n : ℕ) → pick d (numbers (suc from) n) (x ∷ xs) ≡ pick d (numbers from n) xs
get-suc from d x xs zero = refl
get-suc {A} from d x xs (suc n) = ap {B = List A} (λ ys. get_or xs from d ∷ ys) (get-suc (suc from) d x xs n)

pub pick-take : {A : Type 0} (d : A) (n : ℕ) (xs : List A) → n ≤ length xs → pick d (numbers 0 n) xs ≡ take n xs
pick-take d zero xs h = refl
pick-take d (suc n) [] h = absurd (omega arith)
pick-take {A} d (suc n) (x ∷ xs) h = ap {B = List A} (λ ys. x ∷ ys) (get-suc 0 d x xs n ∙ pick-take d n xs (omega arith))

-- ---- the six bits of a box

-- what a box gets of a right half and of words, at a place of the 48 bits
abbrev pub ins : ℕ → List (List ℕ) → List (List ℕ) → List (List ℕ)
ins n right masks = joined (taken [] (take 6 (drop n expansion)) right) masks

xor-nil : (xs : List ℕ) → xor xs [] ≡ []
unfolding xor
xor-nil [] = refl
xor-nil (x ∷ xs) = refl

drop-xor : (n : ℕ) (xs ys : List ℕ) → drop n (xor xs ys) ≡ xor (drop n xs) (drop n ys)
unfolding xor
drop-xor zero xs ys = refl
drop-xor (suc n) [] ys = refl
drop-xor (suc n) (x ∷ xs) [] = sym (xor-nil (drop n xs))
drop-xor (suc n) (x ∷ xs) (y ∷ ys) = drop-xor n xs ys

vectors-taken : (table : List ℕ) (vs : List (List ℕ)) → length vs ≡ 32 → AreVectors vs → are_numbers 32 table ≡ true → AreVectors (taken [] table vs)
vectors-taken [] vs e p t k h = absurd (omega arith)
vectors-taken (n ∷ ns) vs e p t zero h =
    let u = and_parts (nat_lt 0 n && nat_le n 32) (are_numbers 32 ns) t in
    let v = and_parts (nat_lt 0 n) (nat_le n 32) u.0 in
    let below : n - 1 < length vs = grind (arith, nat_tests, v.0, v.1, e) in
    p (n - 1) below
vectors-taken (n ∷ ns) vs e p t (suc k) h = vectors-taken ns vs e p (and_parts (nat_lt 0 n && nat_le n 32) (are_numbers 32 ns) t).1 k (omega arith)

twos-all : (vs : List (List ℕ)) → AreVectors vs → Twos vs
twos-all [] p = tt
twos-all (v ∷ vs) p = (p zero (omega arith), twos-all vs (λ k h. p (suc k) (omega arith)))

pub six-bits : (n e i group : ℕ) (right masks : List (List ℕ)) → e < 2 → length right ≡ 32 → AreVectors right → are_numbers 32 (take 6 (drop n expansion)) ≡ true → Twos masks
    → lane e i masks ≡ bits 6 group → lane e i (ins n right masks) ≡ xor (take 6 (drop n (places expansion (lane e i right)))) (bits 6 group)
six-bits n e i group right masks h whole vectors within twos is =
    let table = take 6 (drop n expansion) in
    lane-joined e i (taken [] table right) masks h (twos-all (taken [] table right) (vectors-taken table right whole vectors within)) twos
    ∙ ap (λ xs. xor xs (lane e i masks)) (lane-taken e i table right ∙ sym (take-places 6 (drop n expansion) (lane e i right)) ∙ ap (take 6) (sym (drop-places n expansion (lane e i right))))
    ∙ ap (xor (take 6 (drop n (places expansion (lane e i right))))) is

-- ---- f

lane-append : (e i : ℕ) (vs ws : List (List ℕ)) → lane e i (vs ++ ws) ≡ lane e i vs ++ lane e i ws
lane-append e i [] ws = refl
lane-append e i (v ∷ vs) ws = ap {B = List ℕ} (λ xs. bit_of e i v ∷ xs) (lane-append e i vs ws)

one-more : {a b c d : List ℕ} → a ≡ b → c ≡ d → a ++ c ≡ b ++ d
one-more {b = b} {c = c} p q = ap (λ xs. xs ++ c) p ∙ ap (λ xs. b ++ xs) q

-- the substitution from a place of the 48 bits on
looked_up : List Box → ℕ → List ℕ → List ℕ
looked_up [] n xs = []
looked_up (box ∷ rest) n xs = look_up box (take 6 (drop n xs)) ++ looked_up rest (n + 6) xs

substitute-from : (all : List Box) (n : ℕ) (xs : List ℕ) → looked_up all n xs ≡ substitute all (drop n xs)
unfolding substitute looked_up
substitute-from [] n xs = refl
substitute-from (box ∷ rest) n xs =
    ap (λ ys. look_up box (take 6 (drop n xs)) ++ ys) (substitute-from rest (n + 6) xs)
    ∙ ap (λ ys. look_up box (take 6 (drop n xs)) ++ substitute rest ys) (sym (drop-drop 6 n xs))

-- a group of the round key in its place
in-place : (box : Box) (n group : ℕ) (half key out : List ℕ) → take 6 (drop n key) ≡ bits 6 group → out ≡ look_up box (xor (take 6 (drop n half)) (bits 6 group)) → out ≡ look_up box (take 6 (drop n (xor half key)))
in-place box n group half key out is h =
    h ∙ ap (look_up box) (sym (ap (take 6) (drop-xor n half key) ∙ take-xor 6 (drop n half) (drop n key) ∙ ap (xor (take 6 (drop n half))) is))

-- what the eight boxes have for a half and the groups of a round key
pub record Entries (e i : ℕ) (half : List ℕ) (g1 g2 g3 g4 g5 g6 g7 g8 : ℕ) (y1 y2 y3 y4 y5 y6 y7 y8 : List (List ℕ)) : Type 0 where
  pub first : lane e i y1 ≡ look_up s1 (xor (take 6 (drop 0 (places expansion half))) (bits 6 g1))
  pub second : lane e i y2 ≡ look_up s2 (xor (take 6 (drop 6 (places expansion half))) (bits 6 g2))
  pub third : lane e i y3 ≡ look_up s3 (xor (take 6 (drop 12 (places expansion half))) (bits 6 g3))
  pub fourth : lane e i y4 ≡ look_up s4 (xor (take 6 (drop 18 (places expansion half))) (bits 6 g4))
  pub fifth : lane e i y5 ≡ look_up s5 (xor (take 6 (drop 24 (places expansion half))) (bits 6 g5))
  pub sixth : lane e i y6 ≡ look_up s6 (xor (take 6 (drop 30 (places expansion half))) (bits 6 g6))
  pub seventh : lane e i y7 ≡ look_up s7 (xor (take 6 (drop 36 (places expansion half))) (bits 6 g7))
  pub eighth : lane e i y8 ≡ look_up s8 (xor (take 6 (drop 42 (places expansion half))) (bits 6 g8))

function-is : (e i : ℕ) (half key : List ℕ) (g1 g2 g3 g4 g5 g6 g7 g8 : ℕ) (y1 y2 y3 y4 y5 y6 y7 y8 : List (List ℕ)) → key ≡ group_bits (g1 ∷ g2 ∷ g3 ∷ g4 ∷ g5 ∷ g6 ∷ g7 ∷ g8 ∷ [])
    → Entries e i half g1 g2 g3 g4 g5 g6 g7 g8 y1 y2 y3 y4 y5 y6 y7 y8
    → lane e i (taken [] permutation (y1 ++ (y2 ++ (y3 ++ (y4 ++ (y5 ++ (y6 ++ (y7 ++ (y8 ++ []))))))))) ≡ f half key
unfolding f looked_up group_bits bits
function-is e i half key g1 g2 g3 g4 g5 g6 g7 g8 y1 y2 y3 y4 y5 y6 y7 y8 of all =
    let whole = group_bits (g1 ∷ g2 ∷ g3 ∷ g4 ∷ g5 ∷ g6 ∷ g7 ∷ g8 ∷ []) in
    let spread = places expansion half in
    let p1 = in-place s1 0 g1 spread whole (lane e i y1) refl all.first in
    let p2 = in-place s2 6 g2 spread whole (lane e i y2) refl all.second in
    let p3 = in-place s3 12 g3 spread whole (lane e i y3) refl all.third in
    let p4 = in-place s4 18 g4 spread whole (lane e i y4) refl all.fourth in
    let p5 = in-place s5 24 g5 spread whole (lane e i y5) refl all.fifth in
    let p6 = in-place s6 30 g6 spread whole (lane e i y6) refl all.sixth in
    let p7 = in-place s7 36 g7 spread whole (lane e i y7) refl all.seventh in
    let p8 = in-place s8 42 g8 spread whole (lane e i y8) refl all.eighth in
    lane-taken e i permutation (y1 ++ (y2 ++ (y3 ++ (y4 ++ (y5 ++ (y6 ++ (y7 ++ (y8 ++ []))))))))
    ∙ ap (places permutation)
    (lane-append e i y1 _ ∙ one-more p1 (lane-append e i y2 _ ∙ one-more p2 (lane-append e i y3 _ ∙ one-more p3 (lane-append e i y4 _ ∙ one-more p4 (lane-append e i y5 _ ∙ one-more p5 (lane-append e i y6 _ ∙ one-more p6 (lane-append e i y7 _ ∙ one-more p7 (lane-append e i y8 [] ∙ one-more p8 refl)))))))
    ∙ substitute-from boxes 0 (xor spread whole))
    ∙ sym (ap (f half) of)

pub vectors-append : (vs ws : List (List ℕ)) → AreVectors vs → AreVectors ws → AreVectors (vs ++ ws)
vectors-append [] ws p q k h = q k h
vectors-append (v ∷ vs) ws p q zero h = p zero (omega arith)
vectors-append (v ∷ vs) ws p q (suc k) h = vectors-append vs ws (λ m g. p (suc m) (omega arith)) q k (omega arith)

vectors-none : AreVectors []
vectors-none k h = absurd (omega arith)

-- eight groups one by one
pub eight-in-row : (n : ℕ) (xs : List ℕ) → n + 8 ≤ length xs
    → take 8 (drop n xs) ≡ get_or xs n 0 ∷ get_or xs (n + 1) 0 ∷ get_or xs (n + 2) 0 ∷ get_or xs (n + 3) 0 ∷ get_or xs (n + 4) 0 ∷ get_or xs (n + 5) 0 ∷ get_or xs (n + 6) 0 ∷ get_or xs (n + 7) 0 ∷ []
eight-in-row n xs h =
    let same : n + 0 ≡ n = omega arith in
    let d = λ (k : ℕ). get_or-drop n xs k 0 in
    sym (pick-take 0 8 (drop n xs) (omega (arith, length-drop n xs)))
    ∙ cc (d 0, d 1, d 2, d 3, d 4, d 5, d 6, d 7, ap (λ m. get_or xs m 0) same)

-- ---- the left half

get_or-joined : (k : ℕ) (vs ws : List (List ℕ)) → length vs ≡ length ws → get_or (joined vs ws) k [] ≡ zip2 bit_xor (get_or vs k []) (get_or ws k [])
get_or-joined k [] [] e = refl
get_or-joined k [] (w ∷ ws) e = absurd (omega arith)
get_or-joined k (v ∷ vs) [] e = absurd (omega arith)
get_or-joined zero (v ∷ vs) (w ∷ ws) e = refl
get_or-joined (suc k) (v ∷ vs) (w ∷ ws) e = get_or-joined k vs ws (omega arith)

half-vectors : (old other left : List (List ℕ)) → length old ≡ length other → AreVectors old → AreVectors other → left ≡ joined old other → AreVectors left
half-vectors old other left e p q is k h =
    let size : length left ≡ length old = ap length is ∙ length-zip2 (zip2 bit_xor) old other e in
    ap length (ap (λ vs. get_or vs k []) is ∙ get_or-joined k old other e) ∙ length-zip2 bit_xor (get_or old k []) (get_or other k []) (p k (omega (arith, size)) ∙ sym (q k (omega (arith, size, e)))) ∙ p k (omega (arith, size))

-- the places to which P takes the bits of the boxes
abbrev order : List ℕ
order = 8 ∷ 16 ∷ 22 ∷ 30 ∷ 12 ∷ 27 ∷ 1 ∷ 17 ∷ 23 ∷ 15 ∷ 29 ∷ 5 ∷ 25 ∷ 19 ∷ 9 ∷ 0 ∷ 7 ∷ 13 ∷ 24 ∷ 2 ∷ 3 ∷ 28 ∷ 10 ∷ 18 ∷ 31 ∷ 11 ∷ 21 ∷ 6 ∷ 4 ∷ 26 ∷ 14 ∷ 20 ∷ []

-- written out
abbrev out : List (List ℕ) → List (List ℕ)
out vs = pick [] (numbers 0 32) vs

out-is : (vs : List (List ℕ)) → length vs ≡ 32 → out vs ≡ vs
out-is vs e = pick-take [] 32 vs (omega arith) ∙ take_all 32 vs (omega arith)

in-order : (vs ys : List (List ℕ)) → length vs ≡ 32 → length ys ≡ 32 → joined_at order ys vs ≡ joined vs (taken [] permutation ys)
in-order vs ys e g =
    let written : joined_at order (out ys) (out vs) ≡ joined (out vs) (taken [] permutation (out ys)) = refl in
    sym (ap (λ zs. joined_at order zs vs) (out-is ys g)) ∙ sym (ap (joined_at order (out ys)) (out-is vs e)) ∙ written
    ∙ ap (λ zs. joined zs (taken [] permutation (out ys))) (out-is vs e) ∙ ap (λ zs. joined vs (taken [] permutation zs)) (out-is ys g)

-- four vectors
pub record AreFour (ys : List (List ℕ)) : Type 0 where
  pub size : length ys ≡ 4
  pub vectors : AreVectors ys

-- those of eight boxes in a row
abbrev pub in-row : List (List ℕ) → List (List ℕ) → List (List ℕ) → List (List ℕ) → List (List ℕ) → List (List ℕ) → List (List ℕ) → List (List ℕ) → List (List ℕ)
in-row y1 y2 y3 y4 y5 y6 y7 y8 = y1 ++ (y2 ++ (y3 ++ (y4 ++ (y5 ++ (y6 ++ (y7 ++ (y8 ++ [])))))))

-- what is joined in place
pub record Joins (left new : List (List ℕ)) (y1 y2 y3 y4 y5 y6 y7 y8 : List (List ℕ)) : Type 0 where
  pub size : length left ≡ 32
  pub vectors : AreVectors left
  pub joins : new ≡ joined_at order (in-row y1 y2 y3 y4 y5 y6 y7 y8) left
  pub first : AreFour y1
  pub second : AreFour y2
  pub third : AreFour y3
  pub fourth : AreFour y4
  pub fifth : AreFour y5
  pub sixth : AreFour y6
  pub seventh : AreFour y7
  pub eighth : AreFour y8

row-size : (left new y1 y2 y3 y4 y5 y6 y7 y8 : List (List ℕ)) → Joins left new y1 y2 y3 y4 y5 y6 y7 y8 → length (in-row y1 y2 y3 y4 y5 y6 y7 y8) ≡ 32
row-size left new y1 y2 y3 y4 y5 y6 y7 y8 all =
    simp (length-append, all.first.size, all.second.size, all.third.size, all.fourth.size, all.fifth.size, all.sixth.size, all.seventh.size, all.eighth.size) (omega arith)

row-vectors : (left new y1 y2 y3 y4 y5 y6 y7 y8 : List (List ℕ)) → Joins left new y1 y2 y3 y4 y5 y6 y7 y8 → AreVectors (taken [] permutation (in-row y1 y2 y3 y4 y5 y6 y7 y8))
row-vectors left new y1 y2 y3 y4 y5 y6 y7 y8 all =
    vectors-taken permutation (in-row y1 y2 y3 y4 y5 y6 y7 y8) (row-size left new y1 y2 y3 y4 y5 y6 y7 y8 all)
    (vectors-append y1 _ all.first.vectors (vectors-append y2 _ all.second.vectors (vectors-append y3 _ all.third.vectors (vectors-append y4 _ all.fourth.vectors
    (vectors-append y5 _ all.fifth.vectors (vectors-append y6 _ all.sixth.vectors (vectors-append y7 _ all.seventh.vectors (vectors-append y8 [] all.eighth.vectors vectors-none))))))))
    refl

pub next-vectors : (left new y1 y2 y3 y4 y5 y6 y7 y8 : List (List ℕ)) → Joins left new y1 y2 y3 y4 y5 y6 y7 y8 → AreVectors new
next-vectors left new y1 y2 y3 y4 y5 y6 y7 y8 all =
    let row = in-row y1 y2 y3 y4 y5 y6 y7 y8 in
    half-vectors left (taken [] permutation row) new all.size all.vectors (row-vectors left new y1 y2 y3 y4 y5 y6 y7 y8 all)
    (all.joins ∙ in-order left row all.size (row-size left new y1 y2 y3 y4 y5 y6 y7 y8 all))

pub next-lanes : (e i : ℕ) (left right new : List (List ℕ)) (key : List ℕ) (g1 g2 g3 g4 g5 g6 g7 g8 : ℕ) (y1 y2 y3 y4 y5 y6 y7 y8 : List (List ℕ)) → e < 2
    → Joins left new y1 y2 y3 y4 y5 y6 y7 y8 → key ≡ group_bits (g1 ∷ g2 ∷ g3 ∷ g4 ∷ g5 ∷ g6 ∷ g7 ∷ g8 ∷ []) → Entries e i (lane e i right) g1 g2 g3 g4 g5 g6 g7 g8 y1 y2 y3 y4 y5 y6 y7 y8
    → lane e i new ≡ xor (lane e i left) (f (lane e i right) key)
next-lanes e i left right new key g1 g2 g3 g4 g5 g6 g7 g8 y1 y2 y3 y4 y5 y6 y7 y8 h all of entries =
    let row = in-row y1 y2 y3 y4 y5 y6 y7 y8 in
    ap (lane e i) (all.joins ∙ in-order left row all.size (row-size left new y1 y2 y3 y4 y5 y6 y7 y8 all))
    ∙ lane-joined e i left (taken [] permutation row) h (twos-all left all.vectors) (twos-all (taken [] permutation row) (row-vectors left new y1 y2 y3 y4 y5 y6 y7 y8 all))
    ∙ ap (xor (lane e i left)) (function-is e i (lane e i right) key g1 g2 g3 g4 g5 g6 g7 g8 y1 y2 y3 y4 y5 y6 y7 y8 of entries)
