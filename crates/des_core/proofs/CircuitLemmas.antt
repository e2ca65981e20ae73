-- Circuits as data: what one makes of words is, at each lane, what it makes of the bits there.
use Rattle.std.proofs.Common.{◌≡◌, ℕ, zero, suc, ◌+◌, ◌-◌, ◌%◌, ◌^◌, ◌<◌, Bool, true, ◌&&◌, List, [], ◌∷◌, length, map, get_or, bit_and, bit_or, bit_xor, min, max, refl, sym, ap, ◌∙◌, arith, inl, inr}
use Rattle.std.specs.Int.{bit_at, w64}
use Rattle.std.proofs.lemmas.Bool.{cases_lt, and_parts}
use Rattle.std.specs.Simd.Lanes.{zip2, Each1}
use mir.Val.{Fits}
use Rattle.std.proofs.lemmas.List.{get_or-map, length-map}
use Rattle.std.proofs.lemmas.Simd.{Each1-get_or, get_or-zip2, length-zip2}
use Rattle.std.proofs.lemmas.Nat.{and_le_l, or_lt, xor_lt}
use Rattle.std.proofs.lemmas.Nat.Bits.{bit_at-zero, bit_at_and, bit_at_or, bit_at_xor, bit_at_not, bit_at-lt}
use Rattle.des_blocks.specs.Des.{look_up}
use Rattle.des_blocks.specs.Tables.{Box}
use Rattle.des_blocks.proofs.GatherLemmas.{from-same, same}
use Rattle.des_core.specs.Lanes.{AreVectors, lane}

-- a gate over earlier words, which it names by how many stand between
pub data Gate : Type 0 where
  And : ℕ → ℕ → Gate
  Or : ℕ → ℕ → Gate
  Xor : ℕ → ℕ → Gate
  But : ℕ → ℕ → Gate
  Not : ℕ → Gate

-- the word with each bit turned
abbrev pub turned : ℕ → ℕ
turned n = 18446744073709551615 - n

-- a vector of zeros
abbrev pub none : List ℕ
none = 0 ∷ 0 ∷ []

-- what a gate makes of vectors
abbrev pub of_vectors : List (List ℕ) → Gate → List ℕ
of_vectors xs (And a b) = zip2 bit_and (get_or xs a none) (get_or xs b none)
of_vectors xs (Or a b) = zip2 bit_or (get_or xs a none) (get_or xs b none)
of_vectors xs (Xor a b) = zip2 bit_xor (get_or xs a none) (get_or xs b none)
of_vectors xs (But a b) = zip2 bit_and (get_or xs a none) (map turned (get_or xs b none))
of_vectors xs (Not a) = map turned (get_or xs a none)

-- what it makes of bits
abbrev pub of_bits : List ℕ → Gate → ℕ
of_bits xs (And a b) = min (get_or xs a 0) (get_or xs b 0)
of_bits xs (Or a b) = max (get_or xs a 0) (get_or xs b 0)
of_bits xs (Xor a b) = (get_or xs a 0 + get_or xs b 0) % 2
of_bits xs (But a b) = min (get_or xs a 0) (1 - get_or xs b 0)
of_bits xs (Not a) = 1 - get_or xs a 0

-- the values after the gates, the last one first
abbrev pub run : {A : Type 0} → (List A → Gate → A) → List Gate → List A → List A
run of [] xs = xs
run of (g ∷ gs) xs = run of gs (of xs g ∷ xs)

-- some of the values, by their places
abbrev pub pick : {A : Type 0} → A → List ℕ → List A → List A
pick d outs xs = map (λ k. get_or xs k d) outs

-- ---- one lane

-- a vector of two words of 64 bits has a bit at a place
pub record Holds (e i : ℕ) (w : List ℕ) (v : ℕ) : Type 0 where
  pub size : length w ≡ 2
  pub fits : get_or w e 0 < 2 ^ 64
  pub bit : bit_at (get_or w e 0) i ≡ v

-- the gates' operations on two vectors
joined : (f : ℕ → ℕ → ℕ) (g : ℕ → ℕ → ℕ) (e i : ℕ) (x y : List ℕ) (v w : ℕ) → e < 2 → ((a b : ℕ) → a < 2 ^ 64 → b < 2 ^ 64 → f a b < 2 ^ 64) → ((a b : ℕ) → bit_at (f a b) i ≡ g (bit_at a i) (bit_at b i))
    → Holds e i x v → Holds e i y w → Holds e i (zip2 f x y) (g v w)
joined f g e i x y v w h fits bits p q =
    let at : get_or (zip2 f x y) e 0 ≡ f (get_or x e 0) (get_or y e 0) = get_or-zip2 f x y e 0 0 0 (omega (arith, p.size)) (omega (arith, q.size)) in
    record {
      size = length-zip2 f x y (p.size ∙ sym q.size) ∙ p.size;
      fits = rw at (fits (get_or x e 0) (get_or y e 0) p.fits q.fits);
      bit = ap (λ n. bit_at n i) at ∙ bits (get_or x e 0) (get_or y e 0) ∙ ap (λ n. g n (bit_at (get_or y e 0) i)) p.bit ∙ ap (g v) q.bit;
    }

not-lane : (e i : ℕ) (x : List ℕ) (v : ℕ) → e < 2 → i < 64 → Holds e i x v → Holds e i (map turned x) (1 - v)
not-lane e i x v h k p =
    let at : get_or (map turned x) e 0 ≡ 18446744073709551615 - get_or x e 0 = get_or-map turned x e 0 0 (omega (arith, p.size)) in
    record {
      size = length-map x turned ∙ p.size;
      fits = omega (arith, at);
      bit = ap (λ n. bit_at n i) at ∙ bit_at_not w64 (get_or x e 0) i p.fits k ∙ ap (λ n. 1 - n) p.bit;
    }

and-lane : (e i : ℕ) (x y : List ℕ) (v w : ℕ) → e < 2 → Holds e i x v → Holds e i y w → Holds e i (zip2 bit_and x y) (min v w)
and-lane e i x y v w h p q = joined bit_and min e i x y v w h (λ a b f g. omega (arith, and_le_l a b)) (λ a b. bit_at_and a b i) p q

or-lane : (e i : ℕ) (x y : List ℕ) (v w : ℕ) → e < 2 → Holds e i x v → Holds e i y w → Holds e i (zip2 bit_or x y) (max v w)
or-lane e i x y v w h p q = joined bit_or max e i x y v w h (λ a b f g. or_lt 64 a b f g) (λ a b. bit_at_or a b i) p q

pub xor-lane : (e i : ℕ) (x y : List ℕ) (v w : ℕ) → e < 2 → Holds e i x v → Holds e i y w → Holds e i (zip2 bit_xor x y) ((v + w) % 2)
xor-lane e i x y v w h p q = joined bit_xor (λ m n. (m + n) % 2) e i x y v w h (λ a b f g. xor_lt 64 a b f g) (λ a b. bit_at_xor a b i) p q

-- the vectors have the bits, place by place
pub Lanes : ℕ → ℕ → List (List ℕ) → List ℕ → Type 0
Lanes e i ws vs = (k : ℕ) → Holds e i (get_or ws k none) (get_or vs k 0)

gate-lane : (e i : ℕ) (ws : List (List ℕ)) (vs : List ℕ) (g : Gate) → e < 2 → i < 64 → Lanes e i ws vs → Holds e i (of_vectors ws g) (of_bits vs g)
unfolding Lanes
gate-lane e i ws vs (And a b) h k p = and-lane e i _ _ _ _ h (p a) (p b)
gate-lane e i ws vs (Or a b) h k p = or-lane e i _ _ _ _ h (p a) (p b)
gate-lane e i ws vs (Xor a b) h k p = xor-lane e i _ _ _ _ h (p a) (p b)
gate-lane e i ws vs (But a b) h k p = and-lane e i _ _ _ _ h (p a) (not-lane e i _ _ h k (p b))
gate-lane e i ws vs (Not a) h k p = not-lane e i _ _ h k (p a)

lanes-more : (e i : ℕ) (w : List ℕ) (v : ℕ) (ws : List (List ℕ)) (vs : List ℕ) → Holds e i w v → Lanes e i ws vs → Lanes e i (w ∷ ws) (v ∷ vs)
unfolding Lanes
lanes-more e i w v ws vs h p zero = h
lanes-more e i w v ws vs h p (suc k) = p k

-- what gates make of vectors is at a lane what they make of its bits
run-lane : (e i : ℕ) (gates : List Gate) (ws : List (List ℕ)) (vs : List ℕ) → e < 2 → i < 64 → Lanes e i ws vs → Lanes e i (run of_vectors gates ws) (run of_bits gates vs)
run-lane e i [] ws vs h k p = p
run-lane e i (g ∷ gs) ws vs h k p = run-lane e i gs (of_vectors ws g ∷ ws) (of_bits vs g ∷ vs) h k (lanes-more e i (of_vectors ws g) (of_bits vs g) ws vs (gate-lane e i ws vs g h k p) p)

pick-lane : (e i : ℕ) (outs : List ℕ) (ws : List (List ℕ)) (vs : List ℕ) → Lanes e i ws vs → lane e i (pick none outs ws) ≡ pick 0 outs vs
unfolding Lanes
pick-lane e i [] ws vs p = refl
pick-lane e i (k ∷ ks) ws vs p = ap {B = List ℕ} (λ x. x ∷ lane e i (pick none ks ws)) (p k).bit ∙ ap {B = List ℕ} (λ xs. get_or vs k 0 ∷ xs) (pick-lane e i ks ws vs p)

pick-size : (outs : List ℕ) (ws : List (List ℕ)) (vs : List ℕ) → Lanes 0 0 ws vs → (k : ℕ) → k < length outs → length (get_or (pick none outs ws) k []) ≡ 2
unfolding Lanes
pick-size [] ws vs p k h = absurd (omega arith)
pick-size (o ∷ os) ws vs p zero h = (p o).size
pick-size (o ∷ os) ws vs p (suc k) h = pick-size os ws vs p k (omega arith)

-- ---- vectors as they come in

pub record IsVector (w : List ℕ) : Type 0 where
  pub size : length w ≡ 2
  pub fits : (e : ℕ) → e < 2 → get_or w e 0 < 2 ^ 64

pub is-vector : (w : List ℕ) → length w ≡ 2 → Each1 (Fits w64) w → IsVector w
is-vector w e fit = record { size = e; fits = λ k h. (Each1-get_or (Fits w64) w k 0 (omega (arith, e)) fit).fits }

abbrev pub Given : List (List ℕ) → Type 0
Given [] = Unit {0}
Given (w ∷ ws) = IsVector w × Given ws

pub six-given : (v0 v1 v2 v3 v4 v5 : List ℕ) → IsVector v0 → IsVector v1 → IsVector v2 → IsVector v3 → IsVector v4 → IsVector v5 → Given (v0 ∷ v1 ∷ v2 ∷ v3 ∷ v4 ∷ v5 ∷ [])
six-given v0 v1 v2 v3 v4 v5 h0 h1 h2 h3 h4 h5 = (h0, (h1, (h2, (h3, (h4, (h5, tt))))))

get-none : (e : ℕ) → get_or none e 0 ≡ 0
get-none zero = refl
get-none (suc zero) = refl
get-none (suc (suc e)) = refl

lanes-all : (e i : ℕ) (ws : List (List ℕ)) → e < 2 → Given ws → Lanes e i ws (lane e i ws)
unfolding Lanes
lanes-all e i [] h p k = record { size = refl; fits = let z : get_or none e 0 ≡ 0 = get-none e in omega (arith, z); bit = ap (λ n. bit_at n i) (get-none e) ∙ bit_at-zero i }
lanes-all e i (w ∷ ws) h p zero = record { size = p.0.size; fits = p.0.fits e h; bit = refl }
lanes-all e i (w ∷ ws) h p (suc k) = lanes-all e i ws h p.1 k

-- ---- a test of all lists of bits

abbrev all_bits : ℕ → (List ℕ → Bool) → Bool
all_bits zero test = test []
all_bits (suc n) test = all_bits n (λ bs. test (0 ∷ bs)) && all_bits n (λ bs. test (1 ∷ bs))

from-all_bits : (n : ℕ) (test : List ℕ → Bool) (e i : ℕ) (ws : List (List ℕ)) → length ws ≡ n → all_bits n test ≡ true → test (lane e i ws) ≡ true
from-all_bits zero test e i [] p h = h
from-all_bits zero test e i (w ∷ ws) p h = absurd (omega arith)
from-all_bits (suc n) test e i [] p h = absurd (omega arith)
from-all_bits (suc n) test e i (w ∷ ws) p h =
    let t = and_parts (all_bits n (λ bs. test (0 ∷ bs))) (all_bits n (λ bs. test (1 ∷ bs))) h in
    let long : length ws ≡ n = omega arith in
    let b = bit_at (get_or w e 0) i in
    elim (cases_lt b 1) [
      | inl below ↦ let zero_bit : b ≡ 0 = omega (arith, bit_at-lt (get_or w e 0) i) in ap (λ b. test (b ∷ lane e i ws)) zero_bit ∙ from-all_bits n (λ bs. test (0 ∷ bs)) e i ws long t.0
      | inr above ↦ let one_bit : b ≡ 1 = omega (arith, bit_at-lt (get_or w e 0) i) in ap (λ b. test (b ∷ lane e i ws)) one_bit ∙ from-all_bits n (λ bs. test (1 ∷ bs)) e i ws long t.1
    ]

-- ---- a box

-- the circuit gives what the box has for each six bits
unfoldable pub box_holds : Box → List Gate → List ℕ → Bool
box_holds box gates outs = all_bits 6 (λ six. same (pick 0 outs (run of_bits gates six)) (look_up box six))

-- and so for vectors at each lane
pub box-lanes : (box : Box) (gates : List Gate) (outs : List ℕ) (ws : List (List ℕ)) → box_holds box gates outs ≡ true → length ws ≡ 6 → Given ws
    → (e i : ℕ) → e < 2 → i < 64 → lane e i (pick none outs (run of_vectors gates ws)) ≡ look_up box (lane e i ws)
unfolding box_holds
box-lanes box gates outs ws holds six fit e i h k =
    pick-lane e i outs _ _ (run-lane e i gates ws (lane e i ws) h k (lanes-all e i ws h fit))
    ∙ from-same _ _ (from-all_bits 6 (λ bits. same (pick 0 outs (run of_bits gates bits)) (look_up box bits)) e i ws six holds)

-- what it gives are vectors
pub box-vectors : (gates : List Gate) (outs : List ℕ) (ws : List (List ℕ)) → Given ws → AreVectors (pick none outs (run of_vectors gates ws))
box-vectors gates outs ws fit k h = pick-size outs (run of_vectors gates ws) (run of_bits gates (lane 0 0 ws)) (run-lane 0 0 gates ws (lane 0 0 ws) (omega arith) (omega arith) (lanes-all 0 0 ws (omega arith) fit)) k (omega (arith, h, length-map outs (λ k. get_or (run of_vectors gates ws) k none)))
