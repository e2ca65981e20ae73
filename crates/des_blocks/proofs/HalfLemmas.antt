-- Halves in words: their groups, a half combined with another, a half from its groups, and both halves of a block from tables.
use Rattle.std.proofs.Common.{◌≡◌, ℕ, zero, suc, ◌+◌, ◌-◌, ◌*◌, ◌/◌, ◌%◌, ◌^◌, ◌<◌, true, List, [], ◌∷◌, ◌++◌, length, take, drop, get_or, bit_and, bit_xor, replicate, refl, sym, ap, ◌∙◌, arith, subst}
use Rattle.std.specs.Int.{w64, byte_at, bytes_high_first, to_be_bytes}
use Rattle.std.proofs.lemmas.List.{length-append, length-drop, length-take, take-append-drop, take_more, get_or-drop}
use Rattle.std.specs.Int.Bits.{xor_assoc}
use Rattle.std.proofs.lemmas.Nat.{and_mask, xor_comm}
use Rattle.des_blocks.specs.Bits.{bits, xor}
use Rattle.des_blocks.specs.Des.{places}
use Rattle.des_blocks.specs.Gathering.{gathered}
use Rattle.des_blocks.specs.Halves.{IsHalf, AreHalves, spread}
use Rattle.des_blocks.specs.Schedules.{group_bits}
use Rattle.des_blocks.specs.Tables.{expansion, initial_permutation, final_permutation}
use Rattle.des_blocks.specs.declared.final_tables.TheConstants.{FINAL_LEFT, FINAL_RIGHT}
use Rattle.des_blocks.specs.declared.initial_tables.TheConstants.{INITIAL_LEFT, INITIAL_RIGHT}
use Rattle.des_blocks.proofs.BitLemmas.{bits-xor, length-bits}
use Rattle.des_blocks.proofs.ByteLemmas.{byte_at-is}
use Rattle.des_blocks.proofs.GatherLemmas.{Reads, gathered-whole, row_holds, rows_hold, same}
use Rattle.des_blocks.proofs.GroupLemmas.{drop-group_bits, group_bits-single, length-group_bits, take-group_bits}
use Rattle.des_blocks.proofs.PlaceLemmas.{drop-places, length-places, take-places, places-all, places-places}
use Rattle.des_blocks.proofs.XorLemmas.{places-xor, spread-xor, xor-append, xor-zeros-right}
use Rattle.key_cells.proofs.ByteLemmas.{length-xor, xor-zeros}

-- ---- six bits of a word

get_or-high_first : (k n i : ℕ) → i < k → get_or (bytes_high_first k n) i 0 ≡ byte_at (k - 1 - i) n
get_or-high_first zero n i h = absurd (omega arith)
get_or-high_first (suc k) n zero h = let e : k ≡ suc k - 1 - 0 = omega arith in ap (λ m. byte_at m n) e
get_or-high_first (suc k) n (suc i) h =
    let e : k - 1 - i ≡ suc k - 1 - suc i = omega arith in
    get_or-high_first k n i (omega arith) ∙ ap (λ m. byte_at m n) e

group-at : (gs : List ℕ) (j : ℕ) → j < length gs → take 6 (drop (6 * j) (group_bits gs)) ≡ bits 6 (get_or gs j 0)
group-at gs j h =
    let within : 0 < length (drop j gs) = omega (arith, length-drop j gs) in
    let same_place : j + 0 ≡ j = omega arith in
    ap (take 6) (drop-group_bits j gs) ∙ take-group_bits 1 (drop j gs)
    ∙ ap group_bits (take_more (drop j gs) 0 0 within ∙ ap {B = List ℕ} (λ g. g ∷ []) (get_or-drop j gs 0 0 ∙ ap (λ m. get_or gs m 0) same_place))
    ∙ group_bits-single (get_or gs j 0)

-- the low six bits of the byte that the code takes of a word for an S-box are its group
pub six-of : (word j : ℕ) → j < 8 → bits 6 (bit_and (word / 2 ^ (56 - 8 * j)) 255) ≡ take 6 (drop (6 * j) (spread word))
six-of word j h =
    let shift : 56 - 8 * j ≡ 8 * (8 - 1 - j) = omega arith in
    ap (bits 6) (and_mask (word / 2 ^ (56 - 8 * j)) 8)
    ∙ ap (λ k. bits 6 (word / 2 ^ k % 2 ^ 8)) shift
    ∙ sym (ap (bits 6) (get_or-high_first 8 word j h ∙ byte_at-is (8 - 1 - j) word))
    ∙ sym (group-at (to_be_bytes w64 word) j h)

-- ---- ways to read words

length-spread : (word : ℕ) → length (spread word) ≡ 48
length-spread word = length-group_bits (to_be_bytes w64 word)

pub reads-bits : (w : ℕ) → Reads (bits w)
reads-bits w = record { sum = bits-xor w; size = λ a b. length-bits w a ∙ sym (length-bits w b) }

pub reads-spread : Reads spread
reads-spread = record { sum = spread-xor; size = λ a b. length-spread a ∙ sym (length-spread b) }

-- ---- halves

pub half-xor : (a b : ℕ) (l r : List ℕ) → IsHalf a l → IsHalf b r → IsHalf (bit_xor a b) (xor l r)
half-xor a b l r p q = record {
  size = length-xor l r (p.size ∙ sym q.size) ∙ p.size;
  groups = spread-xor a b ∙ ap (λ xs. xor xs (spread b)) p.groups ∙ ap (xor (places expansion l)) q.groups ∙ sym (places-xor expansion l r (p.size ∙ sym q.size));
}

-- a half combined with another one, the round key ahead
pub key-ahead : (left key out : ℕ) (k : List ℕ) → spread key ≡ k → spread (bit_xor (bit_xor left key) out) ≡ xor (spread (bit_xor left out)) k
key-ahead left key out k e =
    ap spread (xor_assoc left key out ∙ ap (bit_xor left) (xor_comm key out) ∙ sym (xor_assoc left out key))
    ∙ spread-xor (bit_xor left out) key ∙ ap (xor (spread (bit_xor left out))) e

-- where the bits of a half stand in its groups: the last four bits of each group are four of them
abbrev contraction : List ℕ
contraction =
    48 ∷ 3 ∷ 4 ∷ 5 ∷ 6 ∷ 9 ∷ 10 ∷ 11 ∷ 12 ∷ 15 ∷ 16 ∷ 17 ∷ 18 ∷ 21 ∷ 22 ∷ 23 ∷ 24 ∷ 27 ∷ 28 ∷ 29 ∷ 30 ∷ 33 ∷ 34 ∷ 35 ∷ 36 ∷ 39 ∷ 40 ∷ 41 ∷ 42 ∷ 45 ∷ 46 ∷ 47 ∷ []

-- the half that a word holds
half_in : ℕ → List ℕ
half_in word = places contraction (spread word)

contracted : (half : List ℕ) → length half ≡ 32 → places contraction (places expansion half) ≡ half
unfolding places
contracted half e = places-places contraction expansion half refl ∙ places-all 32 half e

half-in : (word : ℕ) (half : List ℕ) → IsHalf word half → half_in word ≡ half
unfolding half_in
half-in word half is = ap (places contraction) is.groups ∙ contracted half is.size

-- ---- IP

left_places : List ℕ
left_places = places expansion (take 32 initial_permutation)

right_places : List ℕ
right_places = places expansion (drop 32 initial_permutation)

entry-left-holds : rows_hold spread (bits 64) left_places 16 4 0 INITIAL_LEFT ≡ true
unfolding left_places rows_hold row_holds bits places group_bits same
entry-left-holds = refl

entry-right-holds : rows_hold spread (bits 64) right_places 16 4 0 INITIAL_RIGHT ≡ true
unfolding right_places rows_hold row_holds bits places group_bits same
entry-right-holds = refl

spread-left : (block : ℕ) → block < 2 ^ 64 → spread (gathered 16 4 INITIAL_LEFT block) ≡ places expansion (take 32 (places initial_permutation (bits 64 block)))
unfolding left_places
spread-left block h =
    gathered-whole spread (bits 64) reads-spread (reads-bits 64) left_places 16 4 (λ x. omega arith) INITIAL_LEFT block entry-left-holds h
    ∙ sym (ap (places expansion) (take-places 32 initial_permutation (bits 64 block)) ∙ places-places expansion (take 32 initial_permutation) (bits 64 block) refl)

spread-right : (block : ℕ) → block < 2 ^ 64 → spread (gathered 16 4 INITIAL_RIGHT block) ≡ places expansion (drop 32 (places initial_permutation (bits 64 block)))
unfolding right_places
spread-right block h =
    gathered-whole spread (bits 64) reads-spread (reads-bits 64) right_places 16 4 (λ x. omega arith) INITIAL_RIGHT block entry-right-holds h
    ∙ sym (ap (places expansion) (drop-places 32 initial_permutation (bits 64 block)) ∙ places-places expansion (drop 32 initial_permutation) (bits 64 block) refl)

pub entry-halves : (block : ℕ) → block < 2 ^ 64 → AreHalves (gathered 16 4 INITIAL_LEFT block) (gathered 16 4 INITIAL_RIGHT block) (places initial_permutation (bits 64 block))
entry-halves block h =
    let both = places initial_permutation (bits 64 block) in
    let long : length both ≡ 64 = length-places initial_permutation (bits 64 block) in
    record {
      left_half = record { size = omega (arith, length-take 32 both, long); groups = spread-left block h };
      right_half = record { size = omega (arith, length-drop 32 both, long); groups = spread-right block h };
    }

half-of-joined : (t x y : List ℕ) → length x ≡ length y → (a b : ℕ) (l r whole : List ℕ) → l ≡ places t x → r ≡ places t y → whole ≡ places t (xor x y)
    → IsHalf a l → IsHalf b r → IsHalf (bit_xor a b) whole
half-of-joined t x y e a b l r whole p q is left right =
    let path : xor l r ≡ whole = ap (λ u. xor u r) p ∙ ap (xor (places t x)) q ∙ sym (places-xor t x y e) ∙ sym is in
    subst (λ h. IsHalf (bit_xor a b) h) path (half-xor a b l r left right)

-- the halves of a block joined with another one
pub halves-joined : (a b c d : ℕ) (x y : List ℕ) → length x ≡ length y → AreHalves a b (places initial_permutation x) → AreHalves c d (places initial_permutation y)
    → AreHalves (bit_xor a c) (bit_xor b d) (places initial_permutation (xor x y))
halves-joined a b c d x y e p q = record {
  left_half = half-of-joined (take 32 initial_permutation) x y e a c _ _ _ (take-places 32 initial_permutation x) (take-places 32 initial_permutation y) (take-places 32 initial_permutation (xor x y)) p.left_half q.left_half;
  right_half = half-of-joined (drop 32 initial_permutation) x y e b d _ _ _ (drop-places 32 initial_permutation x) (drop-places 32 initial_permutation y) (drop-places 32 initial_permutation (xor x y)) p.right_half q.right_half;
}

-- ---- the inverse of IP

-- the left half that a word holds beside zeros, and the right one
beside_zeros : ℕ → List ℕ
beside_zeros word = half_in word ++ replicate 32 0

after_zeros : ℕ → List ℕ
after_zeros word = replicate 32 0 ++ half_in word

exit-left-holds : rows_hold (bits 64) beside_zeros final_permutation 16 8 0 FINAL_LEFT ≡ true
unfolding beside_zeros half_in rows_hold row_holds bits places group_bits same
exit-left-holds = refl

exit-right-holds : rows_hold (bits 64) after_zeros final_permutation 16 8 0 FINAL_RIGHT ≡ true
unfolding after_zeros half_in rows_hold row_holds bits places group_bits same
exit-right-holds = refl

length-half_in : (word : ℕ) → length (half_in word) ≡ 32
unfolding half_in
length-half_in word = length-places contraction (spread word)

half_in-xor : (a b : ℕ) → half_in (bit_xor a b) ≡ xor (half_in a) (half_in b)
unfolding half_in
half_in-xor a b = ap (places contraction) (spread-xor a b) ∙ places-xor contraction (spread a) (spread b) (length-spread a ∙ sym (length-spread b))

zeros : xor (replicate 32 0) (replicate 32 0) ≡ replicate 32 0
zeros = xor-zeros 32 (replicate 32 0) refl

reads-beside : Reads beside_zeros
unfolding beside_zeros
reads-beside = record {
  sum = λ a b. ap (λ xs. xs ++ replicate 32 0) (half_in-xor a b) ∙ ap (λ ys. xor (half_in a) (half_in b) ++ ys) (sym zeros)
      ∙ sym (xor-append (half_in a) (replicate 32 0) (half_in b) (replicate 32 0) (length-half_in a ∙ sym (length-half_in b)));
  size = λ a b. length-append (half_in a) (replicate 32 0) ∙ ap (λ n. n + 32) (length-half_in a ∙ sym (length-half_in b)) ∙ sym (length-append (half_in b) (replicate 32 0));
}

reads-after : Reads after_zeros
unfolding after_zeros
reads-after = record {
  sum = λ a b. ap (λ ys. replicate 32 0 ++ ys) (half_in-xor a b) ∙ ap (λ xs. xs ++ xor (half_in a) (half_in b)) (sym zeros)
      ∙ sym (xor-append (replicate 32 0) (half_in a) (replicate 32 0) (half_in b) refl);
  size = λ a b. length-append (replicate 32 0) (half_in a) ∙ ap (λ n. 32 + n) (length-half_in a ∙ sym (length-half_in b)) ∙ sym (length-append (replicate 32 0) (half_in b));
}

pub exit-block : (left right : ℕ) (both : List ℕ) → left < 2 ^ 64 → right < 2 ^ 64 → AreHalves left right both
    → bits 64 (bit_xor (gathered 16 8 FINAL_LEFT left) (gathered 16 8 FINAL_RIGHT right)) ≡ places final_permutation both
unfolding beside_zeros after_zeros
exit-block left right both h g are =
    let l = take 32 both in
    let r = drop 32 both in
    let first : bits 64 (gathered 16 8 FINAL_LEFT left) ≡ places final_permutation (l ++ replicate 32 0)
    = gathered-whole (bits 64) beside_zeros (reads-bits 64) reads-beside final_permutation 16 8 (λ x. omega arith) FINAL_LEFT left exit-left-holds h
    ∙ ap (λ xs. places final_permutation (xs ++ replicate 32 0)) (half-in left l are.left_half) in
    let second : bits 64 (gathered 16 8 FINAL_RIGHT right) ≡ places final_permutation (replicate 32 0 ++ r)
    = gathered-whole (bits 64) after_zeros (reads-bits 64) reads-after final_permutation 16 8 (λ x. omega arith) FINAL_RIGHT right exit-right-holds g
    ∙ ap (λ xs. places final_permutation (replicate 32 0 ++ xs)) (half-in right r are.right_half) in
    let long : length (l ++ replicate 32 0) ≡ length (replicate 32 0 ++ r)
    = length-append l (replicate 32 0) ∙ ap (λ n. n + 32) (are.left_half.size ∙ sym are.right_half.size) ∙ omega arith ∙ sym (length-append (replicate 32 0) r) in
    bits-xor 64 (gathered 16 8 FINAL_LEFT left) (gathered 16 8 FINAL_RIGHT right)
    ∙ ap (λ xs. xor xs (bits 64 (gathered 16 8 FINAL_RIGHT right))) first
    ∙ ap (xor (places final_permutation (l ++ replicate 32 0))) second
    ∙ sym (places-xor final_permutation (l ++ replicate 32 0) (replicate 32 0 ++ r) long)
    ∙ ap (places final_permutation) (xor-append l (replicate 32 0) (replicate 32 0) r are.left_half.size
    ∙ ap (λ xs. xs ++ xor (replicate 32 0) r) (xor-zeros-right 32 l are.left_half.size)
    ∙ ap (λ xs. l ++ xs) (xor-zeros 32 r are.right_half.size)
    ∙ take-append-drop 32 both)
