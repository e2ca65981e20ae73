-- The exclusive or of lists, and lists that are zero.
use Rattle.std.proofs.Common.{◌≡◌, ℕ, zero, suc, ◌+◌, ◌<◌, List, [], ◌∷◌, ◌++◌, length, get_or, take, drop, set, replicate, eqb, refl, sym, ap, subst, ⊎_elim, ◌∙◌, arith}
use Rattle.std.specs.Prelude.{All, bit_xor}
use Rattle.std.proofs.lemmas.Bool.{cases_eq}
use Rattle.std.proofs.lemmas.List.{append-nil, drop_all, take_all, length-drop, get_or-replicate, get_or-set_other, get_or-set_same, get_or_default, length-append, length-replicate, length-take}
use Rattle.std.proofs.lemmas.Grind.{same_number_lists}
use Rattle.std.proofs.lemmas.Nat.{xor_of_8}
use Rattle.std.specs.Bool.{Decides}
use Rattle.std.proofs.lemmas.Bool.Decides.{Decides-eqb, Decides-by_and, Decides-like}
use Rattle.key_cells.specs.Bytes.{AreBytes, IsZero, is_zero, xor}

-- ---- xor

pub length-xor : (xs ys : List ℕ) → length xs ≡ length ys → length (xor xs ys) ≡ length xs
unfolding xor
length-xor [] ys same = refl
length-xor (x ∷ xs) [] same = absurd (omega arith)
length-xor (x ∷ xs) (y ∷ ys) same = ap suc (length-xor xs ys (omega arith))

pub get_or-xor : (xs ys : List ℕ) (i : ℕ) → i < length xs → i < length ys → get_or (xor xs ys) i 0 ≡ bit_xor (get_or xs i 0) (get_or ys i 0)
unfolding xor
get_or-xor [] ys i hx hy = absurd (omega arith)
get_or-xor (x ∷ xs) [] i hx hy = absurd (omega arith)
get_or-xor (x ∷ xs) (y ∷ ys) zero hx hy = refl
get_or-xor (x ∷ xs) (y ∷ ys) (suc i) hx hy = get_or-xor xs ys i (omega arith) (omega arith)

pub xor-zeros : (n : ℕ) (xs : List ℕ) → length xs ≡ n → xor (replicate n 0) xs ≡ xs
unfolding xor
xor-zeros zero [] long = refl
xor-zeros zero (x ∷ xs) long = absurd (omega arith)
xor-zeros (suc n) [] long = absurd (omega arith)
xor-zeros (suc n) (x ∷ xs) long = ap (λ rest. x ∷ rest) (xor-zeros n xs (omega arith))

-- one more element combined in place
pub xor-more : (xs ys : List ℕ) (at : ℕ) → at < length xs → at < length ys
    → set (xor (take at xs) (take at ys) ++ drop at xs) at (bit_xor (get_or xs at 0) (get_or ys at 0)) ≡ xor (take (suc at) xs) (take (suc at) ys) ++ drop (suc at) xs
unfolding xor
xor-more [] ys at hx hy = absurd (omega arith)
xor-more (x ∷ xs) [] at hx hy = absurd (omega arith)
xor-more (x ∷ xs) (y ∷ ys) zero hx hy = refl
xor-more (x ∷ xs) (y ∷ ys) (suc at) hx hy = ap (λ rest. bit_xor x y ∷ rest) (xor-more xs ys at (omega arith) (omega arith))

-- the element that is combined next is still as it was
pub get_or-combined : (xs ys : List ℕ) (at : ℕ) → at < length xs → at < length ys → get_or (xor (take at xs) (take at ys) ++ drop at xs) at 0 ≡ get_or xs at 0
unfolding xor
get_or-combined [] ys at hx hy = absurd (omega arith)
get_or-combined (x ∷ xs) [] at hx hy = absurd (omega arith)
get_or-combined (x ∷ xs) (y ∷ ys) zero hx hy = refl
get_or-combined (x ∷ xs) (y ∷ ys) (suc at) hx hy = get_or-combined xs ys at (omega arith) (omega arith)

length-combined : (xs ys : List ℕ) (at : ℕ) → at < length xs → at < length ys → length (xor (take at xs) (take at ys) ++ drop at xs) ≡ length xs
length-combined xs ys at hx hy =
    let front : length (take at xs) ≡ at = simp length-take (omega arith) in
    let beside : length (take at ys) ≡ at = simp length-take (omega arith) in
    length-append (xor (take at xs) (take at ys)) (drop at xs)
    ∙ omega (arith, length-xor (take at xs) (take at ys) (front ∙ sym beside), length-drop at xs)

-- ---- zeros

pub zeros_of : (n : ℕ) (xs : List ℕ) → length xs ≡ n → IsZero xs → xs ≡ replicate n 0
zeros_of n xs long blank = blank ∙ ap (λ (k : ℕ). replicate k 0) long

pub IsZero-replicate : (n : ℕ) → IsZero (replicate n 0)
IsZero-replicate n = ap (λ (k : ℕ). replicate k 0) (sym (length-replicate n 0))

pub IsZero-element : (xs : List ℕ) (i d : ℕ) → IsZero xs → i < length xs → get_or xs i d ≡ 0
IsZero-element xs i d blank within = ap (λ l. get_or l i d) blank ∙ get_or-replicate (length xs) i 0 d within

-- the test and the fact
pub is_zero-Decides : (xs : List ℕ) → Decides (is_zero xs) (IsZero xs)
is_zero-Decides xs = Decides-like (is_zero xs) together apart (Decides-by_and (λ b. eqb b 0) (λ b. b ≡ 0) is_zero (λ b. Decides-eqb b 0) refl (λ _ _. refl) xs)
  where
    together : All (λ b. b ≡ 0) xs → IsZero xs
    together each =
        same_number_lists xs (replicate (length xs) 0) (sym (length-replicate (length xs) 0))
        (λ i within. each i 0 within ∙ sym (get_or-replicate (length xs) i 0 0 within))

    apart : IsZero xs → All (λ b. b ≡ 0) xs
    apart blank = λ i d within. IsZero-element xs i d blank within

-- ---- elements that are bytes

pub fits-set : (xs : List ℕ) (at b : ℕ) → at < length xs → b < 256 → ((k : ℕ) → get_or xs k 0 < 256) → (k : ℕ) → get_or (set xs at b) k 0 < 256
fits-set xs at b within low fits k =
    ⊎_elim (λ (same : k ≡ at). subst (λ n. n < 256) (sym (ap (λ i. get_or (set xs at b) i 0) same ∙ get_or-set_same xs at b 0 within)) low)
    (λ (other : k ≡ at → ⊥). subst (λ n. n < 256) (sym (get_or-set_other xs at k b 0 other)) (fits k))
    (cases_eq k at)

pub are_bytes : (xs : List ℕ) → ((k : ℕ) → get_or xs k 0 < 256) → All (λ b. b < 256) xs
are_bytes xs fits k d inside = subst (λ b. b < 256) (get_or_default xs k 0 d inside) (fits k)

-- ---- bytes combined in place: at each moment the front is combined, and the rest is as it was

pub record IsCombined (xs ys now : List ℕ) (at : ℕ) : Type 0 where
  pub front : now ≡ xor (take at xs) (take at ys) ++ drop at xs
  pub fits : (k : ℕ) → get_or now k 0 < 256

pub combined_none : (xs ys : List ℕ) → ((k : ℕ) → get_or xs k 0 < 256) → IsCombined xs ys xs 0
unfolding xor
combined_none xs ys fits = record { front = refl; fits = fits }

pub combined_more : (xs ys now : List ℕ) (at a b : ℕ) → IsCombined xs ys now at → at < length xs → at < length ys → a ≡ get_or now at 0 → b ≡ get_or ys at 0 → b < 256
    → IsCombined xs ys (set now at (bit_xor a b)) (at + 1)
combined_more xs ys now at a b so_far hx hy is_a is_b low =
    let before : get_or now at 0 ≡ get_or xs at 0 = ap (λ l. get_or l at 0) so_far.front ∙ get_or-combined xs ys at hx hy in
    let within : at < length now = subst (λ n. at < n) (sym (ap length so_far.front ∙ length-combined xs ys at hx hy)) hx in
    let next : suc at ≡ at + 1 = omega arith in
    record {
      front = ap (λ n. set now at (bit_xor n b)) (is_a ∙ before) ∙ ap (λ n. set now at (bit_xor (get_or xs at 0) n)) is_b
          ∙ ap (λ l. set l at (bit_xor (get_or xs at 0) (get_or ys at 0))) so_far.front
          ∙ xor-more xs ys at hx hy ∙ ap (λ n. xor (take n xs) (take n ys) ++ drop n xs) next;
      fits = fits-set now at (bit_xor a b) within (xor_of_8 a b (subst (λ n. n < 256) (sym is_a) (so_far.fits at)) low) so_far.fits;
    }

pub combined_all : (xs ys now : List ℕ) (n : ℕ) → IsCombined xs ys now n → length xs ≡ n → length ys ≡ n → now ≡ xor xs ys
combined_all xs ys now n so_far hx hy =
    so_far.front ∙ ap (λ l. xor l (take n ys) ++ drop n xs) (take_all n xs (omega arith)) ∙ ap (λ l. xor xs l ++ drop n xs) (take_all n ys (omega arith))
    ∙ ap (λ l. xor xs ys ++ l) (drop_all n xs (omega arith)) ∙ append-nil (xor xs ys)

pub combined_bytes : (xs ys now : List ℕ) (n at : ℕ) → IsCombined xs ys now at → length now ≡ n → AreBytes n now
combined_bytes xs ys now n at so_far long = record { size = long; each = are_bytes now so_far.fits }

pub take-xor : (n : ℕ) (xs ys : List ℕ) → take n (xor xs ys) ≡ xor (take n xs) (take n ys)
unfolding xor
take-xor zero xs ys = refl
take-xor (suc n) [] ys = refl
take-xor (suc n) (x ∷ xs) [] = refl
take-xor (suc n) (x ∷ xs) (y ∷ ys) = ap {B = List ℕ} (λ rest. bit_xor x y ∷ rest) (take-xor n xs ys)
