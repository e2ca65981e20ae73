-- Words gathered from small tables: where each entry is what a table of places makes of its bits, the whole word is.
use Rattle.std.proofs.Common.{◌≡◌, ℕ, zero, suc, ◌+◌, ◌-◌, ◌*◌, ◌/◌, ◌%◌, ◌^◌, ◌<◌, Bool, true, false, ◌&&◌, nat_eq, nat_lt, List, [], ◌∷◌, length, drop, get_or, slice_index, bit_xor, refl, sym, ap, ◌∙◌, arith, subst, inl, inr}
use Rattle.std.specs.Int.Bits.{xor_assoc, xor_zero_r}
use Rattle.std.proofs.lemmas.Bool.{cases_lt, and_parts}
use Rattle.std.proofs.lemmas.Bool.Decides.{nat_tests}
use Rattle.std.proofs.lemmas.List.{drop_all, drop_more, get_or_default}
use Rattle.std.proofs.lemmas.Nat.{xor_block, xor_comm, pow-add, pow_pos, mod_below, shr_split, div_below}
use Rattle.des_blocks.specs.Bits.{xor}
use Rattle.des_blocks.specs.Des.{places}
use Rattle.des_blocks.specs.Gathering.{gathered}
use Rattle.des_blocks.proofs.XorLemmas.{places-xor}

-- ---- the loop

pub gathered-more : (n s : ℕ) (rows : List (List ℕ)) (row : List ℕ) (out rest i whole : ℕ) → i < length rows → row ≡ get_or rows i row
    → bit_xor out (gathered n s (drop i rows) rest) ≡ whole
    → bit_xor (bit_xor out (slice_index row (rest % n))) (gathered n s (drop (i + 1) rows) (rest / 2 ^ s)) ≡ whole
unfolding gathered
gathered-more n s rows row out rest i whole h is before =
    xor_assoc out _ _ ∙ ap (λ xs. bit_xor out (bit_xor (slice_index xs (rest % n)) (gathered n s (drop (i + 1) rows) (rest / 2 ^ s)))) (is ∙ get_or_default rows i row [] h)
    ∙ sym (ap (λ rs. bit_xor out (gathered n s rs rest)) (drop_more rows i [] h)) ∙ before

pub gathered-all : (n s : ℕ) (rows : List (List ℕ)) (word : ℕ) → bit_xor 0 (gathered n s (drop 0 rows) word) ≡ gathered n s rows word
gathered-all n s rows word = xor_comm 0 (gathered n s rows word) ∙ xor_zero_r (gathered n s rows word)

pub gathered-done : (n s : ℕ) (rows : List (List ℕ)) (out rest i whole : ℕ) → length rows ≡ i → bit_xor out (gathered n s (drop i rows) rest) ≡ whole → out ≡ whole
unfolding gathered
gathered-done n s rows out rest i whole e before =
    let none : drop i rows ≡ [] = drop_all i rows (omega arith) in
    sym (xor_zero_r out) ∙ sym (ap (λ rs. bit_xor out (gathered n s rs rest)) none) ∙ before

-- ---- a word of one piece more

shl-xor : (k a b : ℕ) → bit_xor (a * 2 ^ k) (b * 2 ^ k) ≡ bit_xor a b * 2 ^ k
shl-xor k a b =
    let p : a * 2 ^ k ≡ a * 2 ^ k + 0 = omega arith in
    let q : b * 2 ^ k ≡ b * 2 ^ k + 0 = omega arith in
    let r : bit_xor a b * 2 ^ k + bit_xor 0 0 ≡ bit_xor a b * 2 ^ k = ap (λ n. bit_xor a b * 2 ^ k + n) (xor_zero_r 0) ∙ omega arith in
    ap (λ n. bit_xor n (b * 2 ^ k)) p ∙ ap (bit_xor (a * 2 ^ k + 0)) q ∙ xor_block k a b 0 0 (pow_pos k) (pow_pos k) ∙ r

piece-split : (s x : ℕ) → bit_xor (x % 2 ^ s) (x / 2 ^ s * 2 ^ s) ≡ x
piece-split s x =
    let p : x % 2 ^ s ≡ 0 * 2 ^ s + x % 2 ^ s = omega arith in
    let q : x / 2 ^ s * 2 ^ s ≡ x / 2 ^ s * 2 ^ s + 0 = omega arith in
    let high : bit_xor 0 (x / 2 ^ s) ≡ x / 2 ^ s = xor_comm 0 (x / 2 ^ s) ∙ xor_zero_r (x / 2 ^ s) in
    ap (λ n. bit_xor n (x / 2 ^ s * 2 ^ s)) p ∙ ap (bit_xor (0 * 2 ^ s + x % 2 ^ s)) q
    ∙ xor_block s 0 (x / 2 ^ s) (x % 2 ^ s) 0 (mod_below x (2 ^ s) (pow_pos s)) (pow_pos s)
    ∙ ap (λ n. n * 2 ^ s + bit_xor (x % 2 ^ s) 0) high ∙ ap (λ n. x / 2 ^ s * 2 ^ s + n) (xor_zero_r (x % 2 ^ s)) ∙ shr_split x s

word-split : (s k x : ℕ) → bit_xor (x % 2 ^ s * 2 ^ k) (x / 2 ^ s * 2 ^ (k + s)) ≡ x * 2 ^ k
word-split s k x =
    let high : x / 2 ^ s * 2 ^ (k + s) ≡ x / 2 ^ s * 2 ^ s * 2 ^ k = ap (λ n. x / 2 ^ s * n) (pow-add 2 k s) ∙ omega arith in
    ap (bit_xor (x % 2 ^ s * 2 ^ k)) high ∙ shl-xor k (x % 2 ^ s) (x / 2 ^ s * 2 ^ s) ∙ ap (λ n. n * 2 ^ k) (piece-split s x)

-- ---- tests by computation

unfoldable pub same : List ℕ → List ℕ → Bool
same [] [] = true
same [] (y ∷ ys) = false
same (x ∷ xs) [] = false
same (x ∷ xs) (y ∷ ys) = nat_eq x y && same xs ys

pub nat-same : (x y : ℕ) → nat_eq x y ≡ true → x ≡ y
nat-same x y h = grind (arith, nat_tests)

pub nat-below : (x n : ℕ) → nat_lt x n ≡ true → x < n
nat-below x n h = grind (arith, nat_tests)

pub from-same : (xs ys : List ℕ) → same xs ys ≡ true → xs ≡ ys
unfolding same
from-same [] [] h = refl
from-same [] (y ∷ ys) h = cc
from-same (x ∷ xs) [] h = cc
from-same (x ∷ xs) (y ∷ ys) h =
    let t = and_parts (nat_eq x y) (same xs ys) h in
    ap {B = List ℕ} (λ z. z ∷ xs) (nat-same x y t.0) ∙ ap {B = List ℕ} (λ zs. y ∷ zs) (from-same xs ys t.1)

-- a test of all numbers below a bound
abbrev pub all_below : (ℕ → Bool) → ℕ → Bool
all_below test zero = true
all_below test (suc n) = test n && all_below test n

pub from-all_below : (test : ℕ → Bool) (n i : ℕ) → all_below test n ≡ true → i < n → test i ≡ true
from-all_below test zero i h l = absurd (omega arith)
from-all_below test (suc n) i h l = elim (cases_lt i n) [
  | inl below ↦ from-all_below test n i (and_parts _ _ h).1 below
  | inr above ↦ let same : i ≡ n = omega arith in ap test same ∙ (and_parts _ _ h).0
]

-- ---- the rows

-- a way to read words as bits that exclusive or goes through
pub record Reads (read : ℕ → List ℕ) : Type 0 where
  pub sum : (a b : ℕ) → read (bit_xor a b) ≡ xor (read a) (read b)
  pub size : (a b : ℕ) → length (read a) ≡ length (read b)

-- Of each bit of a piece, and of none, the row's entry, read by `out`, is what a table of places makes of it, read by `inp`, at bit k of a
-- word. The entry of a value whose highest bit is s is the exclusive or of that bit's and the others'.
unfoldable pub row_holds : (ℕ → List ℕ) → (ℕ → List ℕ) → List ℕ → ℕ → ℕ → ℕ → List ℕ → Bool
row_holds out inp t n k zero row = same (out (slice_index row (0 % n))) (places t (inp (0 * 2 ^ k)))
row_holds out inp t n k (suc s) row =
    row_holds out inp t n k s row
    && (same (out (slice_index row (2 ^ s % n))) (places t (inp (2 ^ s * 2 ^ k)))
    && all_below (λ v. nat_eq (slice_index row ((v + 2 ^ s) % n)) (bit_xor (slice_index row (v % n)) (slice_index row (2 ^ s % n)))) (2 ^ s))

-- so it is of each row, one piece after another from bit k up
unfoldable pub rows_hold : (ℕ → List ℕ) → (ℕ → List ℕ) → List ℕ → ℕ → ℕ → ℕ → List (List ℕ) → Bool
rows_hold out inp t n s k [] = same (out 0) (places t (inp 0))
rows_hold out inp t n s k (row ∷ rows) = row_holds out inp t n k s row && rows_hold out inp t n s (k + s) rows

-- a power of two joined to a number below it
xor-above : (s w : ℕ) → w < 2 ^ s → bit_xor w (2 ^ s) ≡ w + 2 ^ s
xor-above s w h =
    let p : w ≡ 0 * 2 ^ s + w = omega arith in
    let q : 2 ^ s ≡ 1 * 2 ^ s + 0 = omega arith in
    let one : bit_xor 0 1 ≡ 1 = xor_comm 0 1 ∙ xor_zero_r 1 in
    ap (λ n. bit_xor n (2 ^ s)) p ∙ ap (bit_xor (0 * 2 ^ s + w)) q ∙ xor_block s 0 1 w 0 h (pow_pos s)
    ∙ ap (λ n. n * 2 ^ s + bit_xor w 0) one ∙ ap (λ n. 1 * 2 ^ s + n) (xor_zero_r w) ∙ omega arith

-- then each entry is what the table of places makes of the bits of its value
row-is : (out inp : ℕ → List ℕ) → Reads out → Reads inp → (t : List ℕ) (n k s : ℕ) (row : List ℕ) → row_holds out inp t n k s row ≡ true
    → (v : ℕ) → v < 2 ^ s → out (slice_index row (v % n)) ≡ places t (inp (v * 2 ^ k))
unfolding row_holds
row-is out inp o i t n k zero row h v small =
    let below : v < 1 = small in
    let none : v ≡ 0 = omega arith in
    ap (λ m. out (slice_index row (m % n))) none ∙ from-same (out (slice_index row (0 % n))) (places t (inp (0 * 2 ^ k))) h ∙ sym (ap (λ m. places t (inp (m * 2 ^ k))) none)
row-is out inp o i t n k (suc s) row h v small =
    let high = slice_index row (2 ^ s % n) in
    let joins = λ (w : ℕ). nat_eq (slice_index row ((w + 2 ^ s) % n)) (bit_xor (slice_index row (w % n)) high) in
    let tests = and_parts (row_holds out inp t n k s row) (same (out high) (places t (inp (2 ^ s * 2 ^ k))) && all_below joins (2 ^ s)) h in
    let bits = and_parts (same (out high) (places t (inp (2 ^ s * 2 ^ k)))) (all_below joins (2 ^ s)) tests.1 in
    let more : suc s ≡ s + 1 = omega arith in
    let double : 2 ^ suc s ≡ 2 ^ s + 2 ^ s = ap (λ m. 2 ^ m) more ∙ pow-add 2 s 1 ∙ omega arith in
    elim (cases_lt v (2 ^ s)) [
      | inl below ↦ row-is out inp o i t n k s row tests.0 v below
      | inr above ↦
          let back : v - 2 ^ s + 2 ^ s ≡ v = omega arith in
          let under : v - 2 ^ s < 2 ^ s = omega (arith, double) in
          let entry : slice_index row ((v - 2 ^ s + 2 ^ s) % n) ≡ bit_xor (slice_index row ((v - 2 ^ s) % n)) high
          = nat-same _ _ (from-all_below joins (2 ^ s) (v - 2 ^ s) bits.1 under) in
          sym (ap (λ m. out (slice_index row (m % n))) back) ∙ ap out entry ∙ o.sum (slice_index row ((v - 2 ^ s) % n)) high
          ∙ ap (λ xs. xor xs (out high)) (row-is out inp o i t n k s row tests.0 (v - 2 ^ s) under)
          ∙ ap (xor (places t (inp ((v - 2 ^ s) * 2 ^ k)))) (from-same (out high) (places t (inp (2 ^ s * 2 ^ k))) bits.0)
          ∙ sym (places-xor t (inp ((v - 2 ^ s) * 2 ^ k)) (inp (2 ^ s * 2 ^ k)) (i.size _ _))
          ∙ sym (ap (places t) (i.sum ((v - 2 ^ s) * 2 ^ k) (2 ^ s * 2 ^ k)))
          ∙ ap (λ m. places t (inp m)) (shl-xor k (v - 2 ^ s) (2 ^ s) ∙ ap (λ m. m * 2 ^ k) (xor-above s (v - 2 ^ s) under ∙ back))
    ]

gathered-is : (out inp : ℕ → List ℕ) → Reads out → Reads inp → (t : List ℕ) (n s k : ℕ) → ((x : ℕ) → x % 2 ^ s % n ≡ x % n)
    → (rows : List (List ℕ)) (x : ℕ) → rows_hold out inp t n s k rows ≡ true → x < 2 ^ (s * length rows)
    → out (gathered n s rows x) ≡ places t (inp (x * 2 ^ k))
unfolding gathered rows_hold
gathered-is out inp o i t n s k low [] x h small =
    let one : 2 ^ (s * 0) ≡ 1 = ap (λ n. 2 ^ n) (let none : s * 0 ≡ 0 = omega arith in none) in
    let below : x < 1 = subst (λ n. x < n) one small in
    let e : x ≡ 0 = omega arith in
    let none : 0 ≡ x * 2 ^ k = sym (ap (λ n. n * 2 ^ k) e ∙ omega arith) in
    from-same (out 0) (places t (inp 0)) h ∙ ap (λ n. places t (inp n)) none
gathered-is out inp o i t n s k low (row ∷ rows) x h small =
    let tests = and_parts (row_holds out inp t n k s row) (rows_hold out inp t n s (k + s) rows) h in
    let first : out (slice_index row (x % 2 ^ s % n)) ≡ places t (inp (x % 2 ^ s * 2 ^ k))
    = row-is out inp o i t n k s row tests.0 (x % 2 ^ s) (mod_below x (2 ^ s) (pow_pos s)) in
    let size : s * length (row ∷ rows) ≡ s * length rows + s = omega arith in
    let whole : 2 ^ (s * length (row ∷ rows)) ≡ 2 ^ (s * length rows) * 2 ^ s = ap (λ n. 2 ^ n) size ∙ pow-add 2 (s * length rows) s in
    let rest : x / 2 ^ s < 2 ^ (s * length rows) = div_below x (2 ^ s) (2 ^ (s * length rows)) (pow_pos s) (omega arith) in
    o.sum (slice_index row (x % n)) (gathered n s rows (x / 2 ^ s))
    ∙ ap (λ m. xor (out (slice_index row m)) (out (gathered n s rows (x / 2 ^ s)))) (sym (low x))
    ∙ ap (λ xs. xor xs (out (gathered n s rows (x / 2 ^ s)))) first
    ∙ ap (xor (places t (inp (x % 2 ^ s * 2 ^ k)))) (gathered-is out inp o i t n s (k + s) low rows (x / 2 ^ s) tests.1 rest)
    ∙ sym (places-xor t (inp (x % 2 ^ s * 2 ^ k)) (inp (x / 2 ^ s * 2 ^ (k + s))) (i.size _ _))
    ∙ sym (ap (places t) (i.sum (x % 2 ^ s * 2 ^ k) (x / 2 ^ s * 2 ^ (k + s))))
    ∙ ap (λ n. places t (inp n)) (word-split s k x)

-- from the lowest bit on
pub gathered-whole : (out inp : ℕ → List ℕ) → Reads out → Reads inp → (t : List ℕ) (n s : ℕ) → ((x : ℕ) → x % 2 ^ s % n ≡ x % n)
    → (rows : List (List ℕ)) (x : ℕ) → rows_hold out inp t n s 0 rows ≡ true → x < 2 ^ (s * length rows)
    → out (gathered n s rows x) ≡ places t (inp x)
gathered-whole out inp o i t n s low rows x h small =
    let e : x * 2 ^ 0 ≡ x = omega arith in
    gathered-is out inp o i t n s 0 low rows x h small ∙ ap (λ n. places t (inp n)) e
