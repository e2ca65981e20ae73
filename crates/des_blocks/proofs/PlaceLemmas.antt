-- Tables of places: over words, over one another, and one step more.
use Rattle.std.proofs.Common.{◌≡◌, ℕ, zero, suc, ◌+◌, ◌-◌, ◌<◌, ◌≤◌, Bool, true, false, ◌&&◌, IsTrue, List, [], ◌∷◌, ◌++◌, length, take, drop, map, get_or, slice_index, refl, sym, ap, ◌∙◌, arith}
use Rattle.std.proofs.lemmas.Bool.Decides.{nat_tests}
use Rattle.std.specs.List.{range_with_len}
use Rattle.std.proofs.lemmas.List.{take-map, map-append, length-map, get_or_default, same_lists}
use Rattle.std.proofs.lemmas.List.FromFn.{length-map-range_with_len, get_or-map-range_with_len}
use lib.ListN.{get_or-map}
use Rattle.des_blocks.specs.Bits.{bits}
use Rattle.des_blocks.specs.Des.{places}
use Rattle.des_blocks.proofs.Numbers.{are_numbers}

pub length-places : (table xs : List ℕ) → length (places table xs) ≡ length table
unfolding places
length-places table xs = length-map table _

pub places-append : (s t xs : List ℕ) → places (s ++ t) xs ≡ places s xs ++ places t xs
unfolding places
places-append s t xs = map-append _ s t

pub one-bit : (b : ℕ) → b < 2 → bits 1 b ≡ b ∷ []
unfolding bits
one-bit zero h = refl
one-bit (suc zero) h = refl
one-bit (suc (suc b)) h = absurd (omega arith)

second-true : (a b : Bool) → IsTrue (a && b) → IsTrue b
second-true true b h = h
second-true false b h = cc

-- each entry of a table of numbers is one
pub number-at : (w : ℕ) (table : List ℕ) (i : ℕ) → IsTrue (are_numbers w table) → i < length table → (0 < get_or table i 0) × (get_or table i 0 ≤ w)
number-at w [] i h l = absurd (omega arith)
number-at w (n ∷ ns) zero h l = grind (arith, nat_tests)
number-at w (n ∷ ns) (suc i) h l = number-at w ns i (second-true _ _ h) (omega arith)

-- ---- parts of tables

drop-map : (f : ℕ → ℕ) (n : ℕ) (xs : List ℕ) → drop n (map f xs) ≡ map f (drop n xs)
drop-map f zero xs = refl
drop-map f (suc n) [] = refl
drop-map f (suc n) (x ∷ xs) = drop-map f n xs

pub take-places : (n : ℕ) (t xs : List ℕ) → take n (places t xs) ≡ places (take n t) xs
unfolding places
take-places n t xs = take-map _ n t

pub drop-places : (n : ℕ) (t xs : List ℕ) → drop n (places t xs) ≡ places (drop n t) xs
unfolding places
drop-places n t xs = drop-map _ n t

-- ---- tables over tables

-- the places of a table over those of another are those of one table
pub places-places : (u t xs : List ℕ) → IsTrue (are_numbers (length t) u) → places u (places t xs) ≡ places (places u t) xs
unfolding places
places-places [] t xs h = refl
places-places (n ∷ ns) t xs h =
    let first = number-at (length t) (n ∷ ns) 0 h (omega arith) in
    let g : ℕ → ℕ = λ m. slice_index xs (m - 1) in
    let within : n - 1 < length (map g t) = omega (arith, first.0, first.1, length-map t g) in
    let head : get_or (map g t) (n - 1) 0 ≡ g (get_or t (n - 1) 0) = get_or_default (map g t) (n - 1) 0 (g 0) within ∙ get_or-map g t (n - 1) 0 in
    ap {B = List ℕ} (λ x. x ∷ places ns (places t xs)) head ∙ ap {B = List ℕ} (λ ys. g (get_or t (n - 1) 0) ∷ ys) (places-places ns t xs (second-true _ _ h))

-- the table 1, 2, .. up to the length
pub places-all : (n : ℕ) (xs : List ℕ) → length xs ≡ n → places (range_with_len 1 n) xs ≡ xs
unfolding places
places-all n xs e =
    let g : ℕ → ℕ = λ m. slice_index xs (m - 1) in
    let long : length (map g (range_with_len 1 n)) ≡ n = length-map-range_with_len g 1 n in
    same_lists (map g (range_with_len 1 n)) xs (long ∙ sym e) (λ k d h.
    let within : k < n = omega arith in
    let at : k < length xs = omega arith in
    let same : k + 1 - 1 ≡ k = omega arith in
    get_or-map-range_with_len g 1 n k (k + 1) d within (omega arith) ∙ ap (λ m. get_or xs m 0) same ∙ get_or_default xs k 0 d at)
