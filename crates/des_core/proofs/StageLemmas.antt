-- A stage of the transposition, bit by bit.
use Rattle.std.proofs.Common.{◌≡◌, ℕ, zero, suc, ◌+◌, ◌-◌, ◌*◌, ◌%◌, ◌/◌, ◌^◌, ◌<◌, ◌≤◌, List, [], ◌∷◌, length, get_or, bit_and, bit_xor, min, refl, sym, ap, ◌∙◌, arith, ◌⊎◌, inl, inr, subst, cond, nat_eq, set, map}
use Rattle.std.specs.Int.{bit_at}
use Rattle.std.specs.Simd.Lanes.{zip2}
use Rattle.std.proofs.lemmas.Bool.{cases_lt}
use Rattle.std.proofs.lemmas.Nat.{pow_pos, shr-shr, shr_split}
use Rattle.std.proofs.lemmas.Nat.Bits.{bit_at-lt, bit_at-zero, bit_at_and, bit_at_cat_high, bit_at_cat_low, bit_at_xor}
use Rattle.std.proofs.lemmas.List.{length-set, take_all}
use Rattle.std.proofs.lemmas.Simd.{get_or-zip2, length-zip2}
use Rattle.des_core.specs.Lanes.{AreVectors, bit_of}
use Rattle.des_core.specs.Stages.{IsStage, first_row, second_row, turning, with_bit}
use Rattle.des_core.proofs.CircuitLemmas.{pick}
use Rattle.des_core.proofs.LaneHalfLemmas.{numbers, pick-take}

-- ---- shifts

shr-bit : (n j c : ℕ) → bit_at (n / 2 ^ j) c ≡ bit_at n (c + j)
shr-bit n j c = let e : j + c ≡ c + j = omega arith in ap (λ m. m % 2) (shr-shr n j c) ∙ ap (bit_at n) e

mod-bit : (n c : ℕ) → c < 64 → bit_at (n % 2 ^ 64) c ≡ bit_at n c
mod-bit n c h = sym (bit_at_cat_low (n / 2 ^ 64) 64 (n % 2 ^ 64) c h) ∙ ap (λ m. bit_at m c) (shr_split n 64)

shl-low : (t j c : ℕ) → c < 64 → c < j → bit_at (t * 2 ^ j % 2 ^ 64) c ≡ 0
shl-low t j c h g =
    let e : t * 2 ^ j ≡ t * 2 ^ j + 0 = omega arith in
    mod-bit (t * 2 ^ j) c h ∙ ap (λ n. bit_at n c) e ∙ bit_at_cat_low t j 0 c g ∙ bit_at-zero c

shl-high : (t j c : ℕ) → c < 64 → j ≤ c → bit_at (t * 2 ^ j % 2 ^ 64) c ≡ bit_at t (c - j)
shl-high t j c h g =
    let e : t * 2 ^ j ≡ t * 2 ^ j + 0 = omega arith in
    mod-bit (t * 2 ^ j) c h ∙ ap (λ n. bit_at n c) e ∙ bit_at_cat_high t j 0 c (pow_pos j) g

-- ---- columns

-- each masked column is a lower one, whose upper one stands some columns above it and isn't masked; each other one is an upper one
record Splits (apart mask : ℕ) : Type 0 where
  pub lower : (c : ℕ) → c < 64 → bit_at mask c ≡ 1 → (c + apart < 64) × (bit_at mask (c + apart) ≡ 0)
  pub upper : (c : ℕ) → c < 64 → bit_at mask c ≡ 0 → (apart ≤ c) × (bit_at mask (c - apart) ≡ 1)

-- the columns at a power of two
record Columns (apart : ℕ) : Type 0 where
  pub below : apart < 64
  pub lower : (c : ℕ) → c < 64 → c / apart % 2 ≡ 0 → (c + apart < 64) × ((c + apart) / apart % 2 ≡ 1)
  pub upper : (c : ℕ) → c < 64 → c / apart % 2 ≡ 1 → (apart ≤ c) × ((c - apart) / apart % 2 ≡ 0)

-- a power of two that is a row's number apart
abbrev at_powers : (ℕ → Type 0) → Type 0
at_powers P = P 1 × (P 2 × (P 4 × (P 8 × (P 16 × P 32))))

by-power : (P : ℕ → Type 0) (apart k : ℕ) → at_powers P → k < 6 → apart ≡ 2 ^ k → P apart
by-power P apart zero all h is = subst P (sym is) all.0
by-power P apart (suc zero) all h is = subst P (sym is) all.1.0
by-power P apart (suc (suc zero)) all h is = subst P (sym is) all.1.1.0
by-power P apart (suc (suc (suc zero))) all h is = subst P (sym is) all.1.1.1.0
by-power P apart (suc (suc (suc (suc zero)))) all h is = subst P (sym is) all.1.1.1.1.0
by-power P apart (suc (suc (suc (suc (suc zero))))) all h is = subst P (sym is) all.1.1.1.1.1
by-power P apart (suc (suc (suc (suc (suc (suc k)))))) all h is = absurd (omega arith)

columns-1 : Columns 1
columns-1 = record { below = omega arith; lower = λ c h p. (omega arith, omega arith); upper = λ c h p. (omega arith, omega arith) }

columns-2 : Columns 2
columns-2 = record { below = omega arith; lower = λ c h p. (omega arith, omega arith); upper = λ c h p. (omega arith, omega arith) }

columns-4 : Columns 4
columns-4 = record { below = omega arith; lower = λ c h p. (omega arith, omega arith); upper = λ c h p. (omega arith, omega arith) }

columns-8 : Columns 8
columns-8 = record { below = omega arith; lower = λ c h p. (omega arith, omega arith); upper = λ c h p. (omega arith, omega arith) }

columns-16 : Columns 16
columns-16 = record { below = omega arith; lower = λ c h p. (omega arith, omega arith); upper = λ c h p. (omega arith, omega arith) }

columns-32 : Columns 32
columns-32 = record { below = omega arith; lower = λ c h p. (omega arith, omega arith); upper = λ c h p. (omega arith, omega arith) }

columns : (apart mask : ℕ) → IsStage apart mask → Columns apart
columns apart mask stage = by-power Columns apart stage.power.0 (columns-1, (columns-2, (columns-4, (columns-8, (columns-16, columns-32))))) stage.power.1 stage.power.2

splits : (apart mask : ℕ) → IsStage apart mask → Splits apart mask
splits apart mask stage =
    let at = columns apart mask stage in
    record {
      lower = λ c h is.
          let low : c / apart % 2 ≡ 0 = omega (arith, stage.columns c h, is) in
          let above = at.lower c h low in
          (above.0, stage.columns (c + apart) above.0 ∙ omega (arith, above.1));
      upper = λ c h is.
          let high : c / apart % 2 ≡ 1 = omega (arith, stage.columns c h, is) in
          let below = at.upper c h high in
          (below.0, stage.columns (c - apart) (omega arith) ∙ omega (arith, below.1));
    }

-- ---- two words

-- the bits that two words exchange
abbrev swapped : ℕ → ℕ → ℕ → ℕ → ℕ
swapped j m a b = bit_and (bit_xor (a / 2 ^ j) b) m

turning-one : (j m a b c : ℕ) → bit_at m c ≡ 1 → bit_at (swapped j m a b) c ≡ (bit_at a (c + j) + bit_at b c) % 2
turning-one j m a b c h =
    bit_at_and (bit_xor (a / 2 ^ j) b) m c ∙ ap (min (bit_at (bit_xor (a / 2 ^ j) b) c)) h
    ∙ ap (λ n. min n 1) (bit_at_xor (a / 2 ^ j) b c ∙ ap (λ n. (n + bit_at b c) % 2) (shr-bit a j c)) ∙ omega arith

turning-zero : (j m a b c : ℕ) → bit_at m c ≡ 0 → bit_at (swapped j m a b) c ≡ 0
turning-zero j m a b c h = bit_at_and (bit_xor (a / 2 ^ j) b) m c ∙ ap (min (bit_at (bit_xor (a / 2 ^ j) b) c)) h ∙ omega arith

abbrev first_word : ℕ → ℕ → ℕ → ℕ → ℕ
first_word j m a b = bit_xor a (swapped j m a b * 2 ^ j % 2 ^ 64)

abbrev second_word : ℕ → ℕ → ℕ → ℕ → ℕ
second_word j m a b = bit_xor b (swapped j m a b)

first-lower : (j m a b c : ℕ) → Splits j m → c < 64 → bit_at m c ≡ 1 → bit_at (first_word j m a b) c ≡ bit_at a c
first-lower j m a b c stage h lower =
    let t = swapped j m a b in
    let none : bit_at (t * 2 ^ j % 2 ^ 64) c ≡ 0 = elim (cases_lt c j) [
      | inl below ↦ shl-low t j c h below
      | inr above ↦
          let whole : c - j + j ≡ c = omega arith in
          let other : bit_at m (c - j) ≡ 0 = elim (cases_lt (bit_at m (c - j)) 1) [
            | inl zero_bit ↦ omega arith
            | inr one ↦
                let is_one : bit_at m (c - j) ≡ 1 = omega (arith, bit_at-lt m (c - j)) in
                let off : bit_at m (c - j + j) ≡ 0 = (stage.lower (c - j) (omega arith) is_one).1 in
                absurd (omega (arith, off, ap (bit_at m) whole, lower))
          ] in
          shl-high t j c h above ∙ turning-zero j m a b (c - j) other
    ] in
    bit_at_xor a (t * 2 ^ j % 2 ^ 64) c ∙ ap (λ n. (bit_at a c + n) % 2) none ∙ omega (arith, bit_at-lt a c)

first-upper : (j m a b c : ℕ) → Splits j m → c < 64 → bit_at m c ≡ 0 → bit_at (first_word j m a b) c ≡ bit_at b (c - j)
first-upper j m a b c stage h upper =
    let t = swapped j m a b in
    let is = stage.upper c h upper in
    let whole : c - j + j ≡ c = omega (arith, is.0) in
    let turned : bit_at (t * 2 ^ j % 2 ^ 64) c ≡ (bit_at a c + bit_at b (c - j)) % 2
    = shl-high t j c h is.0 ∙ turning-one j m a b (c - j) is.1 ∙ ap (λ n. (bit_at a n + bit_at b (c - j)) % 2) whole in
    bit_at_xor a (t * 2 ^ j % 2 ^ 64) c ∙ ap (λ n. (bit_at a c + n) % 2) turned ∙ omega (arith, bit_at-lt a c, bit_at-lt b (c - j))

second-lower : (j m a b c : ℕ) → bit_at m c ≡ 1 → bit_at (second_word j m a b) c ≡ bit_at a (c + j)
second-lower j m a b c lower =
    bit_at_xor b (swapped j m a b) c ∙ ap (λ n. (bit_at b c + n) % 2) (turning-one j m a b c lower) ∙ omega (arith, bit_at-lt a (c + j), bit_at-lt b c)

second-upper : (j m a b c : ℕ) → bit_at m c ≡ 0 → bit_at (second_word j m a b) c ≡ bit_at b c
second-upper j m a b c upper =
    bit_at_xor b (swapped j m a b) c ∙ ap (λ n. (bit_at b c + n) % 2) (turning-zero j m a b c upper) ∙ omega (arith, bit_at-lt b c)

-- ---- two vectors

abbrev shl : ℕ → ℕ → ℕ
shl x k = x * 2 ^ k % 2 ^ 64

abbrev shr : ℕ → ℕ → ℕ
shr x k = x / 2 ^ k

abbrev both : ℕ → List ℕ
both x = x ∷ x ∷ []

both-at : (e x : ℕ) → e < 2 → get_or (both x) e 0 ≡ x
both-at zero x h = refl
both-at (suc zero) x h = refl
both-at (suc (suc e)) x h = absurd (omega arith)

at-zip : (f : ℕ → ℕ → ℕ) (x y : List ℕ) (e v w : ℕ) → e < 2 → length x ≡ 2 → length y ≡ 2 → get_or x e 0 ≡ v → get_or y e 0 ≡ w → get_or (zip2 f x y) e 0 ≡ f v w
at-zip f x y e v w h p q r s = get_or-zip2 f x y e 0 0 0 (omega (arith, p)) (omega (arith, q)) ∙ ap (λ n. f n (get_or y e 0)) r ∙ ap (f v) s

two-zip : (f : ℕ → ℕ → ℕ) (x y : List ℕ) → length x ≡ 2 → length y ≡ 2 → length (zip2 f x y) ≡ 2
two-zip f x y p q = length-zip2 f x y (p ∙ sym q) ∙ p

two-turning : (j m : ℕ) (a b : List ℕ) → length a ≡ 2 → length b ≡ 2 → length (turning j m a b) ≡ 2
two-turning j m a b p q = two-zip bit_and (zip2 bit_xor (zip2 shr a (both j)) b) (both m) (two-zip bit_xor (zip2 shr a (both j)) b (two-zip shr a (both j) p refl) q) refl

at-turning : (j m e : ℕ) (a b : List ℕ) → e < 2 → length a ≡ 2 → length b ≡ 2 → get_or (turning j m a b) e 0 ≡ swapped j m (get_or a e 0) (get_or b e 0)
at-turning j m e a b h p q =
    at-zip bit_and (zip2 bit_xor (zip2 shr a (both j)) b) (both m) e _ m h (two-zip bit_xor (zip2 shr a (both j)) b (two-zip shr a (both j) p refl) q) refl
    (at-zip bit_xor (zip2 shr a (both j)) b e _ _ h (two-zip shr a (both j) p refl) q (at-zip shr a (both j) e _ j h p refl refl (both-at e j h)) refl)
    (both-at e m h)

at-first : (j m e : ℕ) (a b : List ℕ) → e < 2 → length a ≡ 2 → length b ≡ 2 → get_or (first_row j m a b) e 0 ≡ first_word j m (get_or a e 0) (get_or b e 0)
at-first j m e a b h p q =
    at-zip bit_xor a (zip2 shl (turning j m a b) (both j)) e _ _ h p (two-zip shl (turning j m a b) (both j) (two-turning j m a b p q) refl) refl
    (at-zip shl (turning j m a b) (both j) e _ j h (two-turning j m a b p q) refl (at-turning j m e a b h p q) (both-at e j h))

at-second : (j m e : ℕ) (a b : List ℕ) → e < 2 → length a ≡ 2 → length b ≡ 2 → get_or (second_row j m a b) e 0 ≡ second_word j m (get_or a e 0) (get_or b e 0)
at-second j m e a b h p q = at-zip bit_xor b (turning j m a b) e _ _ h q (two-turning j m a b p q) refl (at-turning j m e a b h p q)

exchanged-lower : (j m e c : ℕ) (a b : List ℕ) → Splits j m → e < 2 → c < 64 → length a ≡ 2 → length b ≡ 2 → bit_at m c ≡ 1
    → (bit_at (get_or (first_row j m a b) e 0) c ≡ bit_at (get_or a e 0) c) × (bit_at (get_or (second_row j m a b) e 0) c ≡ bit_at (get_or a e 0) (c + j))
exchanged-lower j m e c a b stage h k p q lower = (
  ap (λ n. bit_at n c) (at-first j m e a b h p q) ∙ first-lower j m (get_or a e 0) (get_or b e 0) c stage k lower,
  ap (λ n. bit_at n c) (at-second j m e a b h p q) ∙ second-lower j m (get_or a e 0) (get_or b e 0) c lower,
)

exchanged-upper : (j m e c : ℕ) (a b : List ℕ) → Splits j m → e < 2 → c < 64 → length a ≡ 2 → length b ≡ 2 → bit_at m c ≡ 0
    → (bit_at (get_or (first_row j m a b) e 0) c ≡ bit_at (get_or b e 0) (c - j)) × (bit_at (get_or (second_row j m a b) e 0) c ≡ bit_at (get_or b e 0) c)
exchanged-upper j m e c a b stage h k p q upper = (
  ap (λ n. bit_at n c) (at-first j m e a b h p q) ∙ first-upper j m (get_or a e 0) (get_or b e 0) c stage k upper,
  ap (λ n. bit_at n c) (at-second j m e a b h p q) ∙ second-upper j m (get_or a e 0) (get_or b e 0) c upper,
)

-- ---- all pairs

-- the first of a pair of rows
abbrev pub first_at : ℕ → ℕ → ℕ
first_at apart pair = 2 * apart * (pair / apart) + pair % apart

-- the rows after the first pairs of rows have been put in place
abbrev pub paired : (List ℕ → List ℕ → List ℕ) → (List ℕ → List ℕ → List ℕ) → ℕ → ℕ → List (List ℕ) → List (List ℕ)
paired f g apart zero ws = ws
paired f g apart (suc n) ws =
    let vs = paired f g apart n ws in
    let k = first_at apart n in
    set (set vs k (f (get_or vs k []) (get_or vs (k + apart) []))) (k + apart) (g (get_or vs k []) (get_or vs (k + apart) []))

-- a row of all pairs
abbrev pair_row : (List ℕ → List ℕ → List ℕ) → (List ℕ → List ℕ → List ℕ) → ℕ → List (List ℕ) → ℕ → List ℕ
pair_row f g apart ws r =
    cond (nat_eq (r / apart % 2) 1) (g (get_or ws (r - apart) []) (get_or ws r [])) (f (get_or ws r []) (get_or ws (r + apart) []))

abbrev written : List (List ℕ) → List (List ℕ)
written ws = pick [] (numbers 0 64) ws

written-is : (ws : List (List ℕ)) → length ws ≡ 64 → written ws ≡ ws
written-is ws e = pick-take [] 64 ws (omega arith) ∙ take_all 64 ws (omega arith)

record Pairs (apart : ℕ) : Type 0 where
  pub rows : (f g : List ℕ → List ℕ → List ℕ) (ws : List (List ℕ)) → paired f g apart 32 (written ws) ≡ map (pair_row f g apart (written ws)) (numbers 0 64)

pairs-1 : Pairs 1
pairs-1 = record { rows = λ f g ws. refl }

pairs-2 : Pairs 2
pairs-2 = record { rows = λ f g ws. refl }

pairs-4 : Pairs 4
pairs-4 = record { rows = λ f g ws. refl }

pairs-8 : Pairs 8
pairs-8 = record { rows = λ f g ws. refl }

pairs-16 : Pairs 16
pairs-16 = record { rows = λ f g ws. refl }

pairs-32 : Pairs 32
pairs-32 = record { rows = λ f g ws. refl }

pairs : (apart mask : ℕ) → IsStage apart mask → Pairs apart
pairs apart mask stage = by-power Pairs apart stage.power.0 (pairs-1, (pairs-2, (pairs-4, (pairs-8, (pairs-16, pairs-32))))) stage.power.1 stage.power.2

get-numbers : (h : ℕ → List ℕ) (from n k : ℕ) → k < n → get_or (map h (numbers from n)) k [] ≡ h (from + k)
get-numbers h from zero k l = absurd (omega arith)
get-numbers h from (suc n) zero l = let same : from ≡ from + 0 = omega arith in ap h same
get-numbers h from (suc n) (suc k) l = let same : suc from + k ≡ from + suc k = omega arith in get-numbers h (suc from) n k (omega arith) ∙ ap h same

row-is : (f g : List ℕ → List ℕ → List ℕ) (apart mask r : ℕ) (ws new : List (List ℕ)) → IsStage apart mask → length ws ≡ 64 → new ≡ paired f g apart 32 ws → r < 64
    → get_or new r [] ≡ pair_row f g apart ws r
row-is f g apart mask r ws new stage e is h =
    ap (λ vs. get_or vs r []) (is ∙ sym (ap (paired f g apart 32) (written-is ws e)) ∙ (pairs apart mask stage).rows f g ws)
    ∙ get-numbers (pair_row f g apart (written ws)) 0 64 r h
    ∙ let same : 0 + r ≡ r = omega arith in ap (pair_row f g apart (written ws)) same
    ∙ ap (λ vs. pair_row f g apart vs r) (written-is ws e)

pub length-paired : (f g : List ℕ → List ℕ → List ℕ) (apart n : ℕ) (ws : List (List ℕ)) → length (paired f g apart n ws) ≡ length ws
length-paired f g apart zero ws = refl
length-paired f g apart (suc n) ws =
    let vs = paired f g apart n ws in
    let k = first_at apart n in
    length-set (set vs k (f (get_or vs k []) (get_or vs (k + apart) []))) (k + apart) (g (get_or vs k []) (get_or vs (k + apart) []))
    ∙ length-set vs k (f (get_or vs k []) (get_or vs (k + apart) [])) ∙ length-paired f g apart n ws

-- the rows of a stage are within
pub first-below : (apart mask pair : ℕ) → IsStage apart mask → pair < 32 → (0 < apart) × (first_at apart pair + apart < 64)
first-below apart mask pair stage h =
    let P : ℕ → Type 0 = λ n. (0 < n) × (first_at n pair + n < 64) in
    by-power P apart stage.power.0
    ((omega arith, omega arith), ((omega arith, omega arith), ((omega arith, omega arith), ((omega arith, omega arith), ((omega arith, omega arith), (omega arith, omega arith))))))
    stage.power.1 stage.power.2

-- the bit of a number at a power of two
bit-cases : (n : ℕ) → (n % 2 ≡ 0) ⊎ (n % 2 ≡ 1)
bit-cases n = elim (cases_lt (n % 2) 1) [ inl below ↦ inl (omega arith) | inr above ↦ inr (omega arith) ]

with-is : (apart n other a b m : ℕ) → n / apart % 2 ≡ a → other / apart % 2 ≡ b → n - apart * a + apart * b ≡ m → with_bit apart n other ≡ m
with-is apart n other a b m p q r = ap (λ k. n - apart * k + apart * (other / apart % 2)) p ∙ ap (λ k. n - apart * a + apart * k) q ∙ r

pub stage-bits : (apart mask : ℕ) (ws new : List (List ℕ)) → IsStage apart mask → length ws ≡ 64 → AreVectors ws → new ≡ paired (first_row apart mask) (second_row apart mask) apart 32 ws
    → (e r c : ℕ) → e < 2 → r < 64 → c < 64 → bit_of e c (get_or new r []) ≡ bit_of e (with_bit apart c r) (get_or ws (with_bit apart r c) [])
stage-bits apart mask ws new stage long vectors is e r c h hr hc =
    let at = columns apart mask stage in
    let split = splits apart mask stage in
    let row = row-is (first_row apart mask) (second_row apart mask) apart mask r ws new stage long is hr in
    elim (bit-cases (r / apart)) [
      | inl low ↦
          let other = (at.lower r hr low).0 in
          let a = get_or ws r [] in
          let b = get_or ws (r + apart) [] in
          let here : get_or new r [] ≡ first_row apart mask a b = row ∙ ap (λ n. cond (nat_eq n 1) (second_row apart mask (get_or ws (r - apart) []) a) (first_row apart mask a b)) low in
          elim (bit-cases (c / apart)) [
            | inl left ↦
                ap (bit_of e c) here ∙ (exchanged-lower apart mask e c a b split h hc (vectors r (omega arith)) (vectors (r + apart) (omega arith)) (stage.columns c hc ∙ ap (λ n. 1 - n) left)).0
                ∙ ap (λ n. bit_of e n a) (sym (with-is apart c r 0 0 c left low (omega arith))) ∙ ap (λ n. bit_of e (with_bit apart c r) (get_or ws n [])) (sym (with-is apart r c 0 0 r low left (omega arith)))
            | inr right ↦
                let below = (at.upper c hc right).0 in
                ap (bit_of e c) here ∙ (exchanged-upper apart mask e c a b split h hc (vectors r (omega arith)) (vectors (r + apart) (omega arith)) (stage.columns c hc ∙ ap (λ n. 1 - n) right)).0
                ∙ ap (λ n. bit_of e n b) (sym (with-is apart c r 1 0 (c - apart) right low (omega arith))) ∙ ap (λ n. bit_of e (with_bit apart c r) (get_or ws n [])) (sym (with-is apart r c 0 1 (r + apart) low right (omega arith)))
          ]
      | inr high ↦
          let other = (at.upper r hr high).0 in
          let a = get_or ws (r - apart) [] in
          let b = get_or ws r [] in
          let here : get_or new r [] ≡ second_row apart mask a b = row ∙ ap (λ n. cond (nat_eq n 1) (second_row apart mask a b) (first_row apart mask b (get_or ws (r + apart) []))) high in
          elim (bit-cases (c / apart)) [
            | inl left ↦
                ap (bit_of e c) here ∙ (exchanged-lower apart mask e c a b split h hc (vectors (r - apart) (omega arith)) (vectors r (omega arith)) (stage.columns c hc ∙ ap (λ n. 1 - n) left)).1
                ∙ ap (λ n. bit_of e n a) (sym (with-is apart c r 0 1 (c + apart) left high (omega arith))) ∙ ap (λ n. bit_of e (with_bit apart c r) (get_or ws n [])) (sym (with-is apart r c 1 0 (r - apart) high left (omega arith)))
            | inr right ↦
                let below = (at.upper c hc right).0 in
                ap (bit_of e c) here ∙ (exchanged-upper apart mask e c a b split h hc (vectors (r - apart) (omega arith)) (vectors r (omega arith)) (stage.columns c hc ∙ ap (λ n. 1 - n) right)).1
                ∙ ap (λ n. bit_of e n b) (sym (with-is apart c r 1 1 c right high (omega arith))) ∙ ap (λ n. bit_of e (with_bit apart c r) (get_or ws n [])) (sym (with-is apart r c 1 1 r high right (omega arith)))
          ]
    ]

two-first : (apart mask : ℕ) (a b : List ℕ) → length a ≡ 2 → length b ≡ 2 → length (first_row apart mask a b) ≡ 2
two-first apart mask a b p q = two-zip bit_xor a (zip2 shl (turning apart mask a b) (both apart)) p (two-zip shl (turning apart mask a b) (both apart) (two-turning apart mask a b p q) refl)

two-second : (apart mask : ℕ) (a b : List ℕ) → length a ≡ 2 → length b ≡ 2 → length (second_row apart mask a b) ≡ 2
two-second apart mask a b p q = two-zip bit_xor b (turning apart mask a b) q (two-turning apart mask a b p q)

pub stage-vectors : (apart mask : ℕ) (ws new : List (List ℕ)) → IsStage apart mask → length ws ≡ 64 → AreVectors ws → new ≡ paired (first_row apart mask) (second_row apart mask) apart 32 ws
    → AreVectors new
stage-vectors apart mask ws new stage long vectors is r h =
    let at = columns apart mask stage in
    let hr : r < 64 = omega (arith, ap length is, length-paired (first_row apart mask) (second_row apart mask) apart 32 ws) in
    let row = row-is (first_row apart mask) (second_row apart mask) apart mask r ws new stage long is hr in
    elim (bit-cases (r / apart)) [
      | inl low ↦
          let other = (at.lower r hr low).0 in
          let a = get_or ws r [] in
          let b = get_or ws (r + apart) [] in
          ap length (row ∙ ap (λ n. cond (nat_eq n 1) (second_row apart mask (get_or ws (r - apart) []) a) (first_row apart mask a b)) low)
          ∙ two-first apart mask a b (vectors r (omega arith)) (vectors (r + apart) (omega arith))
      | inr high ↦
          let other = (at.upper r hr high).0 in
          let a = get_or ws (r - apart) [] in
          let b = get_or ws r [] in
          ap length (row ∙ ap (λ n. cond (nat_eq n 1) (second_row apart mask a b) (first_row apart mask b (get_or ws (r + apart) []))) high)
          ∙ two-second apart mask a b (vectors (r - apart) (omega arith)) (vectors r (omega arith))
    ]

-- one pair more
pub paired-more : (apart mask pair : ℕ) (ws vs new : List (List ℕ)) (first second : List ℕ) → vs ≡ paired (first_row apart mask) (second_row apart mask) apart pair ws
    → first ≡ first_row apart mask (get_or vs (first_at apart pair) []) (get_or vs (first_at apart pair + apart) [])
    → second ≡ second_row apart mask (get_or vs (first_at apart pair) []) (get_or vs (first_at apart pair + apart) [])
    → new ≡ set (set vs (first_at apart pair) first) (first_at apart pair + apart) second
    → new ≡ paired (first_row apart mask) (second_row apart mask) apart (pair + 1) ws
paired-more apart mask pair ws vs new first second before p q is =
    let k = first_at apart pair in
    let f = first_row apart mask in
    let g = second_row apart mask in
    let more : suc pair ≡ pair + 1 = omega arith in
    is ∙ ap (λ x. set (set vs k x) (k + apart) second) p ∙ ap (λ y. set (set vs k (f (get_or vs k []) (get_or vs (k + apart) []))) (k + apart) y) q
    ∙ ap (λ us. set (set us k (f (get_or us k []) (get_or us (k + apart) []))) (k + apart) (g (get_or us k []) (get_or us (k + apart) []))) before
    ∙ ap (λ n. paired f g apart n ws) more
