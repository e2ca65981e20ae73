-- Ciphers over lanes: IP and its inverse, the rounds one after another, three ciphers, and the words before and after.
use Rattle.std.proofs.Common.{◌≡◌, ℕ, zero, suc, ◌+◌, ◌-◌, ◌*◌, ◌^◌, ◌<◌, List, [], ◌∷◌, ◌++◌, length, map, take, drop, get_or, reverse, slice_index, refl, sym, ap, ◌∙◌, arith, Bool, true, ◌&&◌, nat_lt}
use Rattle.std.specs.Int.{bit_at}
use Rattle.std.proofs.lemmas.List.{drop_all, drop_at, drop_more, length-append, length-map, take_all, take_at}
use Rattle.std.proofs.lemmas.Bool.Decides.{nat_tests}
use Rattle.key_cells.specs.declared.schedules.Schedule.{Schedule}
use Rattle.des_blocks.specs.Bits.{bits, xor}
use Rattle.des_blocks.specs.Des.{crypt, decipher, f, places, rounds}
use Rattle.des_blocks.specs.Schedules.{ded_under, keys_of, schedule_at}
use Rattle.des_blocks.specs.Tables.{final_permutation, initial_permutation}
use Rattle.des_blocks.proofs.LawLemmas.{initial-final}
use Rattle.des_core.specs.Lanes.{AreVectors, bit_of, lane, word}
use Rattle.des_core.proofs.CircuitLemmas.{pick}
use Rattle.des_core.proofs.LaneHalfLemmas.{numbers, pick-take, vectors-append}
use Rattle.des_blocks.proofs.RoundLemmas.{none-left}
use Rattle.std.proofs.lemmas.Bool.{and_parts}

-- ---- rounds

-- one round more
pub round-more : (keys : List (List ℕ)) (l r next : List ℕ) (i : ℕ) → i < length keys → next ≡ xor l (f r (get_or keys i []))
    → rounds (drop i keys) l r ≡ rounds (drop (i + 1) keys) r next
unfolding rounds
round-more keys l r next i h is = ap (λ ks. rounds ks l r) (drop_more keys i [] h) ∙ ap (rounds (drop (i + 1) keys) r) (sym is)

-- two rounds more
pub rounds-more : (keys : List (List ℕ)) (l r next other out : List ℕ) (i : ℕ) → 2 * i + 1 < length keys
    → next ≡ xor l (f r (get_or keys (2 * i) [])) → other ≡ xor r (f next (get_or keys (2 * i + 1) []))
    → rounds (drop (2 * i) keys) l r ≡ out → rounds (drop (2 * (i + 1)) keys) next other ≡ out
rounds-more keys l r next other out i h one two before =
    let wider : 2 * (i + 1) ≡ 2 * i + 1 + 1 = omega arith in
    ap (λ n. rounds (drop n keys) next other) wider ∙ sym (round-more keys r next other (2 * i + 1) h two) ∙ sym (round-more keys l r next (2 * i) (omega arith) one) ∙ before

-- after the last one
pub rounds-done : (keys : List (List ℕ)) (l r out : List ℕ) (i : ℕ) → length keys ≡ 2 * i → rounds (drop (2 * i) keys) l r ≡ out → out ≡ r ++ l
rounds-done keys l r out i e last = sym last ∙ ap (λ ks. rounds ks l r) (drop_all (2 * i) keys (omega arith)) ∙ none-left l r

-- ---- ciphers in a row

cipher-first : (keys : List (List ℕ)) (block out : List ℕ) → rounds keys (take 32 (places initial_permutation block)) (drop 32 (places initial_permutation block)) ≡ out
    → crypt keys block ≡ places final_permutation out
unfolding crypt
cipher-first keys block out is = ap (places final_permutation) is

cipher-next : (keys : List (List ℕ)) (l r block out : List ℕ) → length l ≡ 32 → length r ≡ 32 → block ≡ places final_permutation (l ++ r) → rounds keys l r ≡ out
    → crypt keys block ≡ places final_permutation out
cipher-next keys l r block out p q of is =
    let both : places initial_permutation block ≡ l ++ r = ap (places initial_permutation) of ∙ initial-final (l ++ r) (length-append l r ∙ omega (arith, p, q)) in
    cipher-first keys block out
    (ap (λ xs. rounds keys (take 32 xs) (drop 32 xs)) both ∙ ap (λ xs. rounds keys xs (drop 32 (l ++ r))) (take_at l r 32 p) ∙ ap (rounds keys l) (drop_at l r 32 p) ∙ is)

-- one cipher over the round keys in reverse
pub one-cipher : (keys : Schedule) (block l0 r0 l1 r1 : List ℕ) → l0 ≡ take 32 (places initial_permutation block) → r0 ≡ drop 32 (places initial_permutation block)
    → rounds (reverse (keys_of keys)) l0 r0 ≡ r1 ++ l1 → places final_permutation (r1 ++ l1) ≡ decipher (keys_of keys) block
one-cipher keys block l0 r0 l1 r1 il ir one =
    let ks = reverse (keys_of keys) in
    sym (cipher-first ks block (r1 ++ l1) (ap (λ xs. rounds ks xs (drop 32 (places initial_permutation block))) (sym il) ∙ ap (rounds ks l0) (sym ir) ∙ one))

-- three ciphers, the halves of the second one exchanged
pub three-ciphers : (keys : List Schedule) (block l0 r0 l1 r1 l2 r2 l3 r3 : List ℕ) → l0 ≡ take 32 (places initial_permutation block) → r0 ≡ drop 32 (places initial_permutation block)
    → length l1 ≡ 32 → length r1 ≡ 32 → length l2 ≡ 32 → length r2 ≡ 32
    → rounds (reverse (keys_of (schedule_at keys 2))) l0 r0 ≡ r1 ++ l1 → rounds (keys_of (schedule_at keys 1)) r1 l1 ≡ l2 ++ r2 → rounds (reverse (keys_of (schedule_at keys 0))) l2 r2 ≡ r3 ++ l3
    → places final_permutation (r3 ++ l3) ≡ ded_under keys block
unfolding ded_under
three-ciphers keys block l0 r0 l1 r1 l2 r2 l3 r3 il ir hl1 hr1 hl2 hr2 one two three =
    let k2 = reverse (keys_of (schedule_at keys 2)) in
    let k1 = keys_of (schedule_at keys 1) in
    let k0 = reverse (keys_of (schedule_at keys 0)) in
    let a = cipher-first k2 block (r1 ++ l1) (ap (λ xs. rounds k2 xs (drop 32 (places initial_permutation block))) (sym il) ∙ ap (rounds k2 l0) (sym ir) ∙ one) in
    let b = cipher-next k1 r1 l1 (crypt k2 block) (l2 ++ r2) hr1 hl1 a two in
    sym (cipher-next k0 l2 r2 (crypt k1 (crypt k2 block)) (r3 ++ l3) hl2 hr2 b three)

-- the place of a group of a round key
pub group-within : (at n : ℕ) → at < 16 → n < 8 → 8 * at + n < 128
group-within at n h l = omega (arith, h, l)

pub group-fits : (at n : ℕ) → at < 16 → n < 8 → 8 * at + n < 2 ^ 64
group-fits at n h l = omega (arith, h, l)

-- a vector's place in memory, of 16 bytes each
pub place-fits : (place : ℕ) → place < 32 → place * 16 < 2 ^ 64
place-fits place h = omega (arith, h)

-- ---- IP and its inverse

unfoldable pub written : ℕ → List (List ℕ) → List (List ℕ)
written n ws = pick [] (numbers 0 n) ws

pub written-is : (n : ℕ) (ws : List (List ℕ)) → length ws ≡ n → written n ws ≡ ws
unfolding written
written-is n ws e = pick-take [] n ws (omega arith) ∙ take_all n ws (omega arith)

-- the places of the vectors from which the left halves come, and the right ones
unfoldable pub left_places : List ℕ
left_places = map (λ n. 64 - n) (take 32 initial_permutation)

unfoldable pub right_places : List ℕ
right_places = map (λ n. 64 - n) (drop 32 initial_permutation)

-- and those of the halves from which the words come
unfoldable pub word_places : List ℕ
word_places = reverse (map (λ n. n - 1) final_permutation)

pub initial-left : (e i : ℕ) (ws : List (List ℕ)) → lane e i (pick [] left_places ws) ≡ take 32 (places initial_permutation (reverse (lane e i (written 64 ws))))
unfolding places written left_places
initial-left e i ws = refl

pub initial-right : (e i : ℕ) (ws : List (List ℕ)) → lane e i (pick [] right_places ws) ≡ drop 32 (places initial_permutation (reverse (lane e i (written 64 ws))))
unfolding places written right_places
initial-right e i ws = refl

-- two halves written out
unfoldable pub halves : List (List ℕ) → List (List ℕ) → List (List ℕ)
halves left right = written 32 left ++ written 32 right

pub final-lanes : (e i : ℕ) (left right : List (List ℕ)) → reverse (lane e i (pick [] word_places (halves left right))) ≡ places final_permutation (lane e i (written 32 left) ++ lane e i (written 32 right))
unfolding places written halves word_places
final-lanes e i left right = refl

abbrev pub are_below : ℕ → List ℕ → Bool
are_below n [] = true
are_below n (k ∷ ks) = nat_lt k n && are_below n ks

pub vectors-pick : (table : List ℕ) (n : ℕ) (ws : List (List ℕ)) → length ws ≡ n → AreVectors ws → are_below n table ≡ true → AreVectors (pick [] table ws)
vectors-pick [] n ws e p t k h = absurd (omega arith)
vectors-pick (m ∷ ms) n ws e p t zero h = let u = (and_parts (nat_lt m n) (are_below n ms) t).0 in let below : m < length ws = grind (arith, nat_tests, u, e) in p m below
vectors-pick (m ∷ ms) n ws e p t (suc k) h = vectors-pick ms n ws e p (and_parts (nat_lt m n) (are_below n ms) t).1 k (omega arith)

pub below-each : (n : ℕ) (table : List ℕ) → are_below n table ≡ true → (k : ℕ) → k < length table → slice_index table k < n
below-each n [] t k h = absurd (omega arith)
below-each n (m ∷ ms) t zero h = let u = (and_parts (nat_lt m n) (are_below n ms) t).0 in grind (arith, nat_tests, u)
below-each n (m ∷ ms) t (suc k) h = below-each n ms (and_parts (nat_lt m n) (are_below n ms) t).1 k (omega arith)

pub record AreHalves (ws : List (List ℕ)) : Type 0 where
  pub size : length ws ≡ 64
  pub vectors : AreVectors ws

pub halves-vectors : (left right : List (List ℕ)) → length left ≡ 32 → length right ≡ 32 → AreVectors left → AreVectors right → AreHalves (halves left right)
unfolding halves
halves-vectors left right p q v w =
    let is : written 32 left ++ written 32 right ≡ left ++ right = ap (λ ws. ws ++ written 32 right) (written-is 32 left p) ∙ ap (λ ws. left ++ ws) (written-is 32 right q) in
    rw is (record { size = length-append left right ∙ omega (arith, p, q); vectors = vectors-append left right v w })

pub length-lane : (e i : ℕ) (ws : List (List ℕ)) → length (lane e i ws) ≡ length ws
length-lane e i ws = length-map ws (λ vector. bit_of e i vector)

-- ---- words and lanes

map-numbers : (f g : ℕ → ℕ) (from n : ℕ) → ((k : ℕ) → k < n → f (from + k) ≡ g (from + k)) → map f (numbers from n) ≡ map g (numbers from n)
map-numbers f g from zero h = refl
map-numbers f g from (suc n) h =
    let same : from + 0 ≡ from = omega arith in
    let first : f from ≡ g from = sym (ap f same) ∙ h 0 (omega arith) ∙ ap g same in
    let rest = λ (k : ℕ) (l : k < n). let e : suc from + k ≡ from + suc k = omega arith in ap f e ∙ h (suc k) (omega arith) ∙ ap g (sym e) in
    ap {B = List ℕ} (λ x. x ∷ map f (numbers (suc from) n)) first ∙ ap {B = List ℕ} (λ xs. g from ∷ xs) (map-numbers f g (suc from) n rest)

down : (n : ℕ) → reverse (map (bit_at n) (numbers 0 64)) ≡ bits 64 n
unfolding bits
down n = refl

lane-written : (e i : ℕ) (ws : List (List ℕ)) → lane e i (written 64 ws) ≡ map (λ c. bit_of e i (get_or ws c [])) (numbers 0 64)
unfolding written
lane-written e i ws = refl

-- where a lane has the bits of a word
pub lane-bits : (e i n : ℕ) (ws : List (List ℕ)) → length ws ≡ 64 → ((c : ℕ) → c < 64 → bit_of e i (get_or ws c []) ≡ bit_at n c) → reverse (lane e i ws) ≡ bits 64 n
lane-bits e i n ws long same =
    ap reverse (sym (ap (lane e i) (written-is 64 ws long)) ∙ lane-written e i ws
    ∙ map-numbers (λ c. bit_of e i (get_or ws c [])) (bit_at n) 0 64 (λ k h. let z : 0 + k ≡ k = omega arith in ap (λ m. bit_of e i (get_or ws m [])) z ∙ same k h ∙ ap (bit_at n) (sym z)))
    ∙ down n

-- words before and after: turned to lanes, deciphered, and turned back
pub words-lanes : (d : List ℕ → List ℕ) (old before after new : List (List ℕ)) → length before ≡ 64 → length after ≡ 64
    → ((e r c : ℕ) → e < 2 → r < 64 → c < 64 → bit_of e c (get_or before r []) ≡ bit_of e r (get_or old c []))
    → ((e i : ℕ) → e < 2 → i < 64 → reverse (lane e i after) ≡ d (reverse (lane e i before)))
    → ((e r c : ℕ) → e < 2 → r < 64 → c < 64 → bit_of e c (get_or new r []) ≡ bit_of e r (get_or after c []))
    → (k e : ℕ) → k < 64 → e < 2 → bits 64 (word e k new) ≡ d (bits 64 (word e k old))
words-lanes d old before after new long_before long_after turn lanes back k e h l =
    sym (lane-bits e k (word e k new) after long_after (λ c hc. sym (back e k c l h hc)))
    ∙ lanes e k l h
    ∙ ap d (lane-bits e k (word e k old) before long_before (λ c hc. turn e c k l hc h))
