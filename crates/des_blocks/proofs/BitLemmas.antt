-- Lists of the bits of words: joined, cut, read at a place, combined.
use Rattle.std.proofs.Common.{◌≡◌, ℕ, zero, suc, ◌+◌, ◌-◌, ◌*◌, ◌/◌, ◌%◌, ◌^◌, ◌<◌, ◌≤◌, List, [], ◌∷◌, ◌++◌, length, take, drop, get_or, bit_or, bit_xor, refl, sym, ap, ◌∙◌, arith}
use Rattle.std.specs.Int.{bit_at}
use Rattle.std.proofs.lemmas.Nat.{xor_shr, xor_mod, or_shifted, shl_whole, pow-add, row_fits, shr-shr, shr_split, mod_below, pow_pos}
use Rattle.std.proofs.lemmas.Nat.Bits.{bit_at_cat_low, bit_at_cat_high}
use Rattle.std.proofs.lemmas.List.{drop-drop}
use Rattle.des_blocks.specs.Bits.{bits, pieces, xor}

-- ---- lengths and places

pub length-bits : (w n : ℕ) → length (bits w n) ≡ w
unfolding bits
length-bits zero n = refl
length-bits (suc w) n = ap suc (length-bits w n)

-- ---- joined words

bits-low : (k j a b : ℕ) → j ≤ k → bits j (a * 2 ^ k + b) ≡ bits j b
unfolding bits
bits-low k zero a b h = refl
bits-low k (suc j) a b h = ap {B = List ℕ} (λ x. x ∷ bits j (a * 2 ^ k + b)) (bit_at_cat_low a k b j (omega arith)) ∙ ap {B = List ℕ} (λ xs. bit_at b j ∷ xs) (bits-low k j a b (omega arith))

-- a word whose low k bits are those of b is a's bits and then b's
pub bits-append : (m k a b : ℕ) → b < 2 ^ k → bits (m + k) (a * 2 ^ k + b) ≡ bits m a ++ bits k b
unfolding bits
bits-append zero k a b h = let e : 0 + k ≡ k = omega arith in ap (λ w. bits w (a * 2 ^ k + b)) e ∙ bits-low k k a b (omega arith)
bits-append (suc m) k a b h =
    let e : suc m + k ≡ suc (m + k) = omega arith in
    let same : m + k - k ≡ m = omega arith in
    ap (λ w. bits w (a * 2 ^ k + b)) e
    ∙ ap {B = List ℕ} (λ x. x ∷ bits (m + k) (a * 2 ^ k + b)) (bit_at_cat_high a k b (m + k) h (omega arith) ∙ ap (bit_at a) same)
    ∙ ap {B = List ℕ} (λ xs. bit_at a m ∷ xs) (bits-append m k a b h)

-- the code's `out << k | b` at a u64
pub bits-shl_or : (m k a b : ℕ) → a < 2 ^ m → b < 2 ^ k → m + k ≤ 64 → bits (m + k) (bit_or (a * 2 ^ k % 2 ^ 64) b) ≡ bits m a ++ bits k b
bits-shl_or m k a b h g fits =
    ap (λ x. bits (m + k) (bit_or x b)) (shl_whole a m k 64 h fits) ∙ ap (bits (m + k)) (or_shifted a k b g) ∙ bits-append m k a b g

pub below_block : (m k a b x p : ℕ) → a < m → b < k → x ≡ a * k + b → p ≡ m * k → x < p
below_block m k a b x p h g e q = let whole : a * k + k ≤ m * k = row_fits a k m k h (omega arith) in omega arith

pub shl_or-lt : (m k a b : ℕ) → a < 2 ^ m → b < 2 ^ k → m + k ≤ 64 → bit_or (a * 2 ^ k % 2 ^ 64) b < 2 ^ (m + k)
shl_or-lt m k a b h g fits =
    let e : bit_or (a * 2 ^ k % 2 ^ 64) b ≡ a * 2 ^ k + b = ap (λ x. bit_or x b) (shl_whole a m k 64 h fits) ∙ or_shifted a k b g in
    below_block (2 ^ m) (2 ^ k) a b (bit_or (a * 2 ^ k % 2 ^ 64) b) (2 ^ (m + k)) h g e (pow-add 2 m k)

-- ---- xor

pub bit-xor : (a b i : ℕ) → bit_at (bit_xor a b) i ≡ bit_xor (bit_at a i) (bit_at b i)
bit-xor a b i = ap (λ x. x % 2) (xor_shr a b i) ∙ xor_mod (a / 2 ^ i) (b / 2 ^ i) 1

pub bits-xor : (w a b : ℕ) → bits w (bit_xor a b) ≡ xor (bits w a) (bits w b)
unfolding bits xor
bits-xor zero a b = refl
bits-xor (suc w) a b =
    ap {B = List ℕ} (λ x. x ∷ bits w (bit_xor a b)) (bit-xor a b w)
    ∙ ap {B = List ℕ} (λ xs. bit_xor (bit_at a w) (bit_at b w) ∷ xs) (bits-xor w a b)

-- ---- parts of a word

-- the bits above the lowest k
pub bits-shr : (m k n : ℕ) → bits m (n / 2 ^ k) ≡ take m (bits (m + k) n)
unfolding bits
bits-shr zero k n = refl
bits-shr (suc m) k n =
    let e : suc m + k ≡ suc (m + k) = omega arith in
    let turned : k + m ≡ m + k = omega arith in
    let head : bit_at (n / 2 ^ k) m ≡ bit_at n (m + k) = ap (λ x. x % 2) (shr-shr n k m) ∙ ap (bit_at n) turned in
    ap {B = List ℕ} (λ x. x ∷ bits m (n / 2 ^ k)) head ∙ ap {B = List ℕ} (λ xs. bit_at n (m + k) ∷ xs) (bits-shr m k n) ∙ sym (ap (λ w. take (suc m) (bits w n)) e)

pub drop-bits : (m k n : ℕ) → drop m (bits (m + k) n) ≡ bits k n
unfolding bits
drop-bits zero k n = let e : 0 + k ≡ k = omega arith in ap (λ w. bits w n) e
drop-bits (suc m) k n = let e : suc m + k ≡ suc (m + k) = omega arith in ap (λ w. drop (suc m) (bits w n)) e ∙ drop-bits m k n

-- the lowest k bits
pub bits-mod : (k n : ℕ) → bits k (n % 2 ^ k) ≡ bits k n
bits-mod k n = sym (ap (bits k) (sym (shr_split n k)) ∙ bits-low k k (n / 2 ^ k) (n % 2 ^ k) (omega arith))

-- a word is its upper bits and then its lowest k
pub bits-split : (m k n : ℕ) → bits (m + k) n ≡ bits m (n / 2 ^ k) ++ bits k n
bits-split m k n =
    ap (bits (m + k)) (sym (shr_split n k)) ∙ bits-append m k (n / 2 ^ k) (n % 2 ^ k) (mod_below n (2 ^ k) (pow_pos k)) ∙ ap (λ xs. bits m (n / 2 ^ k) ++ xs) (bits-mod k n)

-- ---- lists that are joined

pub take-nil : {A : Type 0} (n : ℕ) → take {A = A} n [] ≡ []
take-nil zero = refl
take-nil (suc n) = refl

pub drop-nil : {A : Type 0} (n : ℕ) → drop {A = A} n [] ≡ []
drop-nil zero = refl
drop-nil (suc n) = refl

pub take-add : {A : Type 0} (xs ys : List A) (n k : ℕ) → length xs ≡ n → take (n + k) (xs ++ ys) ≡ xs ++ take k ys
take-add [] ys n k e = let same : n + k ≡ k = omega arith in ap (λ m. take m ys) same
take-add {A} (x ∷ xs) ys n k e =
    let same : n + k ≡ suc (length xs + k) = omega arith in
    ap (λ m. take m (x ∷ (xs ++ ys))) same ∙ ap {B = List A} (λ zs. x ∷ zs) (take-add xs ys (length xs) k refl)

pub drop-add : {A : Type 0} (xs ys : List A) (n k : ℕ) → length xs ≡ n → drop (n + k) (xs ++ ys) ≡ drop k ys
drop-add [] ys n k e = let same : n + k ≡ k = omega arith in ap (λ m. drop m ys) same
drop-add (x ∷ xs) ys n k e =
    let same : n + k ≡ suc (length xs + k) = omega arith in
    ap (λ m. drop m (x ∷ (xs ++ ys))) same ∙ drop-add xs ys (length xs) k refl

pub take-split : {A : Type 0} (n k : ℕ) (xs : List A) → take (n + k) xs ≡ take n xs ++ take k (drop n xs)
take-split zero k xs = let same : 0 + k ≡ k = omega arith in ap (λ m. take m xs) same
take-split (suc n) k [] = take-nil (suc n + k) ∙ sym (take-nil k)
take-split (suc n) k (x ∷ xs) =
    let same : suc n + k ≡ suc (n + k) = omega arith in
    ap (λ m. take m (x ∷ xs)) same ∙ ap {B = List _} (λ ys. x ∷ ys) (take-split n k xs)

-- piece i of the pieces of a list
pub get_or-pieces : {A : Type 0} (count size i : ℕ) (xs : List A) → i < count → get_or (pieces count size xs) i [] ≡ take size (drop (size * i) xs)
unfolding pieces
get_or-pieces zero size i xs h = absurd (omega arith)
get_or-pieces (suc count) size zero xs h = let e : size * 0 ≡ 0 = omega arith in sym (ap (λ n. take size (drop n xs)) e)
get_or-pieces (suc count) size (suc i) xs h =
    let e : size * suc i ≡ size + size * i = omega arith in
    get_or-pieces count size i (drop size xs) (omega arith) ∙ ap (take size) (drop-drop (size * i) size xs ∙ sym (ap (λ n. drop n xs) e))

pub length-pieces : {A : Type 0} (count size : ℕ) (xs : List A) → length (pieces count size xs) ≡ count
unfolding pieces
length-pieces zero size xs = refl
length-pieces (suc count) size xs = ap suc (length-pieces count size (drop size xs))
