-- The rounds over halves in words: two more, and all sixteen; and three ciphers in a row, between which IP and its inverse undo each other.
use Rattle.std.proofs.Common.{◌≡◌, ℕ, ◌+◌, ◌*◌, ◌<◌, List, [], ◌++◌, length, take, drop, get_or, bit_xor, reverse, refl, subst, sym, ap, ◌∙◌, arith}
use Rattle.std.proofs.lemmas.List.{drop_all, drop_at, drop_more, length-append, take_at, take-append-drop}
use Rattle.key_cells.specs.declared.schedules.Schedule.{Schedule}
use Rattle.des_blocks.specs.Bits.{xor}
use Rattle.des_blocks.specs.Des.{places, f, rounds, crypt}
use Rattle.des_blocks.specs.Halves.{AreHalves, IsHalf, rounded, spread}
use Rattle.des_blocks.specs.Schedules.{ded_under, ede_under, keys_of, schedule_at}
use Rattle.des_blocks.specs.Tables.{expansion, initial_permutation, final_permutation}
use Rattle.des_blocks.proofs.LawLemmas.{initial-final}
use Rattle.des_blocks.proofs.XorLemmas.{spread-xor}

-- ---- rounds

-- the words hold halves from which the rounds over some round keys give these bits
pub record Gives (keys : List (List ℕ)) (left right : ℕ) (out : List ℕ) : Type 0 where
  pub l : List ℕ
  pub r : List ℕ
  pub is_left : IsHalf left l
  pub is_right : IsHalf right r
  pub gives : rounds keys l r ≡ out

-- groups are those of a half combined with a round key, where there is one
abbrev pub Keyed : List (List ℕ) → ℕ → ℕ → ℕ → Type 0
Keyed keys half groups i = i < 16 → spread groups ≡ xor (spread half) (get_or keys i [])

-- one round, of groups
pub keyed-round : (keys : List (List ℕ)) (left right groups next i : ℕ) → i < 16 → Keyed keys right groups i
    → ((l r key : List ℕ) → IsHalf left l → spread groups ≡ xor (places expansion r) key → IsHalf next (xor l (f r key)))
    → (l r : List ℕ) → IsHalf left l → IsHalf right r → IsHalf next (xor l (f r (get_or keys i [])))
keyed-round keys left right groups next i h keyed made l r p q =
    made l r (get_or keys i []) p (keyed h ∙ ap (λ xs. xor xs (get_or keys i [])) q.groups)

-- before the first round, and two rounds on
pub keyed-begun : (keys : List (List ℕ)) (right key : ℕ) → spread key ≡ get_or keys 0 [] → Keyed keys right (bit_xor right key) (2 * 0)
keyed-begun keys right key e h = spread-xor right key ∙ ap (xor (spread right)) e

pub keyed-more : (keys : List (List ℕ)) (half groups i : ℕ) → Keyed keys half groups (2 * i + 1 + 1) → Keyed keys half groups (2 * (i + 1))
keyed-more keys half groups i keyed = let same : 2 * i + 1 + 1 ≡ 2 * (i + 1) = omega arith in subst (Keyed keys half groups) same keyed

-- before the first round
pub rounds-begun : (keys : List (List ℕ)) (left right : ℕ) (both : List ℕ) → AreHalves left right both
    → Gives (drop (2 * 0) keys) left right (rounds keys (take 32 both) (drop 32 both))
rounds-begun keys left right both are = record { l = take 32 both; r = drop 32 both; is_left = are.left_half; is_right = are.right_half; gives = refl }

-- one round more
round-more : (keys : List (List ℕ)) (l r : List ℕ) (i : ℕ) → i < length keys
    → rounds (drop i keys) l r ≡ rounds (drop (i + 1) keys) r (xor l (f r (get_or keys i [])))
unfolding rounds
round-more keys l r i h = ap (λ ks. rounds ks l r) (drop_more keys i [] h)

-- two rounds more
pub rounds-more : (keys : List (List ℕ)) (left right next other i : ℕ) (out : List ℕ) → 2 * i + 1 < length keys
    → ((l r : List ℕ) → IsHalf left l → IsHalf right r → IsHalf next (xor l (f r (get_or keys (2 * i) []))))
    → ((l r : List ℕ) → IsHalf right l → IsHalf next r → IsHalf other (xor l (f r (get_or keys (2 * i + 1) []))))
    → Gives (drop (2 * i) keys) left right out → Gives (drop (2 * (i + 1)) keys) next other out
rounds-more keys left right next other i out h one two before =
    let first = xor before.l (f before.r (get_or keys (2 * i) [])) in
    let second = xor before.r (f first (get_or keys (2 * i + 1) [])) in
    let is_first = one before.l before.r before.is_left before.is_right in
    let wider : 2 * (i + 1) ≡ 2 * i + 1 + 1 = omega arith in
    record {
      l = first;
      r = second;
      is_left = is_first;
      is_right = two before.r first before.is_right is_first;
      gives = ap (λ n. rounds (drop n keys) first second) wider
          ∙ sym (round-more keys before.r first (2 * i + 1) h)
          ∙ sym (round-more keys before.l before.r (2 * i) (omega arith))
          ∙ before.gives;
    }

-- two halves one after the other
halves-joined : (left right : ℕ) (l r : List ℕ) → IsHalf left l → IsHalf right r → AreHalves left right (l ++ r)
halves-joined left right l r p q =
    let e = take_at l r 32 p.size in
    let d = drop_at l r 32 p.size in
    record {
      left_half = record { size = ap length e ∙ p.size; groups = p.groups ∙ sym (ap (places _) e) };
      right_half = record { size = ap length d ∙ q.size; groups = q.groups ∙ sym (ap (places _) d) };
    }

pub none-left : (l r : List ℕ) → rounds [] l r ≡ r ++ l
unfolding rounds
none-left l r = refl

-- after the last round the halves come out in the order R, L
pub rounds-done : (keys : List (List ℕ)) (left right i : ℕ) (out : List ℕ) → length keys ≡ 2 * i → Gives (drop (2 * i) keys) left right out → AreHalves right left out
rounds-done keys left right i out e last =
    let whole : last.r ++ last.l ≡ out
    = sym (none-left last.l last.r) ∙ sym (ap (λ ks. rounds ks last.l last.r) (drop_all (2 * i) keys (omega arith))) ∙ last.gives in
    rw (← whole) (halves-joined right left last.r last.l last.is_right last.is_left)

-- ---- ciphers in a row

pub crypt-first : (keys : List (List ℕ)) (block both : List ℕ) → both ≡ places initial_permutation block
    → places final_permutation (rounds keys (take 32 both) (drop 32 both)) ≡ crypt keys block
unfolding crypt
crypt-first keys block both e = ap (λ xs. places final_permutation (rounds keys (take 32 xs) (drop 32 xs))) e

length-both : (left right : ℕ) (both : List ℕ) → AreHalves left right both → length both ≡ 64
length-both left right both are =
    sym (ap length (take-append-drop 32 both)) ∙ length-append (take 32 both) (drop 32 both) ∙ omega (arith, are.left_half.size, are.right_half.size)

-- the halves of what DES makes of a block, from those after its rounds
pub enciphered-halves : (keys : List (List ℕ)) (left right : ℕ) (block both : List ℕ) → both ≡ places initial_permutation block → AreHalves left right (rounded keys both)
    → AreHalves left right (places initial_permutation (crypt keys block))
enciphered-halves keys left right block both e are =
    let path : rounded keys both ≡ places initial_permutation (crypt keys block)
    = sym (initial-final (rounded keys both) (length-both left right (rounded keys both) are)) ∙ ap (places initial_permutation) (crypt-first keys block both e) in
    subst (λ b. AreHalves left right b) path are

pub crypt-next : (keys : List (List ℕ)) (left right : ℕ) (both : List ℕ) → AreHalves left right both
    → places final_permutation (rounds keys (take 32 both) (drop 32 both)) ≡ crypt keys (places final_permutation both)
crypt-next keys left right both are =
    crypt-first keys (places final_permutation both) both (sym (initial-final both (length-both left right both are)))

-- three ciphers: the last halves hold what the inverse of IP takes
pub three-ciphers : (a b c : List (List ℕ)) (block both : List ℕ) (l1 r1 l2 r2 : ℕ) → both ≡ places initial_permutation block
    → AreHalves l1 r1 (rounded a both) → AreHalves l2 r2 (rounded b (rounded a both))
    → places final_permutation (rounded c (rounded b (rounded a both))) ≡ crypt c (crypt b (crypt a block))
three-ciphers a b c block both l1 r1 l2 r2 e one two =
    crypt-next c l2 r2 (rounded b (rounded a both)) two
    ∙ ap (crypt c) (crypt-next b l1 r1 (rounded a both) one ∙ ap (crypt b) (crypt-first a block both e))

pub ede-words : (keys : List Schedule) (block both : List ℕ) (l1 r1 l2 r2 : ℕ) → both ≡ places initial_permutation block
    → AreHalves l1 r1 (rounded (keys_of (schedule_at keys 0)) both)
    → AreHalves l2 r2 (rounded (reverse (keys_of (schedule_at keys 1))) (rounded (keys_of (schedule_at keys 0)) both))
    → places final_permutation (rounded (keys_of (schedule_at keys 2)) (rounded (reverse (keys_of (schedule_at keys 1))) (rounded (keys_of (schedule_at keys 0)) both))) ≡ ede_under keys block
unfolding ede_under
ede-words keys block both l1 r1 l2 r2 e one two =
    three-ciphers (keys_of (schedule_at keys 0)) (reverse (keys_of (schedule_at keys 1))) (keys_of (schedule_at keys 2)) block both l1 r1 l2 r2 e one two

pub ded-words : (keys : List Schedule) (block both : List ℕ) (l1 r1 l2 r2 : ℕ) → both ≡ places initial_permutation block
    → AreHalves l1 r1 (rounded (reverse (keys_of (schedule_at keys 2))) both)
    → AreHalves l2 r2 (rounded (keys_of (schedule_at keys 1)) (rounded (reverse (keys_of (schedule_at keys 2))) both))
    → places final_permutation (rounded (reverse (keys_of (schedule_at keys 0))) (rounded (keys_of (schedule_at keys 1)) (rounded (reverse (keys_of (schedule_at keys 2))) both))) ≡ ded_under keys block
unfolding ded_under
ded-words keys block both l1 r1 l2 r2 e one two =
    three-ciphers (reverse (keys_of (schedule_at keys 2))) (keys_of (schedule_at keys 1)) (reverse (keys_of (schedule_at keys 0))) block both l1 r1 l2 r2 e one two
