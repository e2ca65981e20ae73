-- Exclusive or of lists of bits: through tables of places, joined lists and parts, zeros, and the groups of a word.
use Rattle.std.proofs.Common.{◌≡◌, ℕ, zero, suc, ◌-◌, ◌*◌, ◌/◌, ◌%◌, ◌^◌, List, [], ◌∷◌, ◌++◌, length, slice_index, bit_xor, replicate, refl, sym, ap, ◌∙◌, arith}
use Rattle.std.specs.Int.{byte_at, bytes_high_first}
use Rattle.std.specs.Int.Bits.{xor_zero_r}
use Rattle.std.proofs.lemmas.Nat.{xor_mod, xor_shr}
use Rattle.des_blocks.specs.Bits.{bits, byte_bits, xor}
use Rattle.des_blocks.specs.Des.{places}
use Rattle.des_blocks.specs.Halves.{spread}
use Rattle.des_blocks.specs.Schedules.{group_bits}
use Rattle.des_blocks.proofs.BitLemmas.{length-bits, bits-xor}
use Rattle.des_blocks.proofs.ByteLemmas.{byte_at-is}

-- ---- tables and parts

index-xor : (xs ys : List ℕ) (i : ℕ) → length xs ≡ length ys → slice_index (xor xs ys) i ≡ bit_xor (slice_index xs i) (slice_index ys i)
unfolding xor
index-xor [] [] i e = refl
index-xor [] (y ∷ ys) i e = absurd (omega arith)
index-xor (x ∷ xs) [] i e = absurd (omega arith)
index-xor (x ∷ xs) (y ∷ ys) zero e = refl
index-xor (x ∷ xs) (y ∷ ys) (suc i) e = index-xor xs ys i (omega arith)

pub places-xor : (t xs ys : List ℕ) → length xs ≡ length ys → places t (xor xs ys) ≡ xor (places t xs) (places t ys)
unfolding places xor
places-xor [] xs ys e = refl
places-xor (n ∷ t) xs ys e =
    ap {B = List ℕ} (λ x. x ∷ places t (xor xs ys)) (index-xor xs ys (n - 1) e)
    ∙ ap {B = List ℕ} (λ zs. bit_xor (slice_index xs (n - 1)) (slice_index ys (n - 1)) ∷ zs) (places-xor t xs ys e)

pub xor-append : (ps qs rs ss : List ℕ) → length ps ≡ length rs → xor (ps ++ qs) (rs ++ ss) ≡ xor ps rs ++ xor qs ss
unfolding xor
xor-append [] qs [] ss e = refl
xor-append [] qs (r ∷ rs) ss e = absurd (omega arith)
xor-append (p ∷ ps) qs [] ss e = absurd (omega arith)
xor-append (p ∷ ps) qs (r ∷ rs) ss e = ap {B = List ℕ} (λ zs. bit_xor p r ∷ zs) (xor-append ps qs rs ss (omega arith))

-- ---- zeros

pub xor-zeros-right : (n : ℕ) (xs : List ℕ) → length xs ≡ n → xor xs (replicate n 0) ≡ xs
unfolding xor
xor-zeros-right zero [] h = refl
xor-zeros-right zero (x ∷ xs) h = absurd (omega arith)
xor-zeros-right (suc n) [] h = absurd (omega arith)
xor-zeros-right (suc n) (x ∷ xs) h =
    ap {B = List ℕ} (λ y. y ∷ xor xs (replicate n 0)) (xor_zero_r x) ∙ ap {B = List ℕ} (λ ys. x ∷ ys) (xor-zeros-right n xs (omega arith))

-- ---- the groups of words

pub byte-xor : (k a b : ℕ) → byte_at k (bit_xor a b) ≡ bit_xor (byte_at k a) (byte_at k b)
byte-xor k a b =
    byte_at-is k (bit_xor a b) ∙ ap (λ n. n % 2 ^ 8) (xor_shr a b (8 * k)) ∙ xor_mod (a / 2 ^ (8 * k)) (b / 2 ^ (8 * k)) 8
    ∙ sym (ap (λ n. bit_xor n (byte_at k b)) (byte_at-is k a) ∙ ap (bit_xor (a / 2 ^ (8 * k) % 2 ^ 8)) (byte_at-is k b))

groups-xor : (k a b : ℕ) → group_bits (bytes_high_first k (bit_xor a b)) ≡ xor (group_bits (bytes_high_first k a)) (group_bits (bytes_high_first k b))
unfolding group_bits xor
groups-xor zero a b = refl
groups-xor (suc k) a b =
    ap (λ n. bits 6 n ++ group_bits (bytes_high_first k (bit_xor a b))) (byte-xor k a b)
    ∙ ap (λ xs. xs ++ group_bits (bytes_high_first k (bit_xor a b))) (bits-xor 6 (byte_at k a) (byte_at k b))
    ∙ ap (λ xs. xor (bits 6 (byte_at k a)) (bits 6 (byte_at k b)) ++ xs) (groups-xor k a b)
    ∙ sym (xor-append (bits 6 (byte_at k a)) (group_bits (bytes_high_first k a)) (bits 6 (byte_at k b)) (group_bits (bytes_high_first k b))
    (length-bits 6 (byte_at k a) ∙ sym (length-bits 6 (byte_at k b))))

pub spread-xor : (a b : ℕ) → spread (bit_xor a b) ≡ xor (spread a) (spread b)
spread-xor a b = groups-xor 8 a b

-- ---- the bits of bytes

pub byte_bits-xor : (xs ys : List ℕ) → length xs ≡ length ys → byte_bits (xor xs ys) ≡ xor (byte_bits xs) (byte_bits ys)
unfolding xor byte_bits
byte_bits-xor [] ys e = refl
byte_bits-xor (x ∷ xs) [] e = absurd (omega arith)
byte_bits-xor (x ∷ xs) (y ∷ ys) e =
    ap (λ zs. zs ++ byte_bits (xor xs ys)) (bits-xor 8 x y)
    ∙ ap (λ zs. xor (bits 8 x) (bits 8 y) ++ zs) (byte_bits-xor xs ys (omega arith))
    ∙ sym (xor-append (bits 8 x) (byte_bits xs) (bits 8 y) (byte_bits ys) (length-bits 8 x ∙ sym (length-bits 8 y)))
