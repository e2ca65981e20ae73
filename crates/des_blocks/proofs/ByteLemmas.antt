-- The bits of bytes: of a word's big-endian bytes, and back to the bytes.
use Rattle.std.proofs.Common.{◌≡◌, ℕ, zero, suc, ◌+◌, ◌-◌, ◌≤◌, ⊎_elim, ◌*◌, ◌/◌, ◌%◌, ◌^◌, ◌<◌, List, [], ◌∷◌, ◌++◌, length, take, drop, map, get_or, refl, sym, ap, ◌∙◌, arith}
use Rattle.std.specs.List.{All}
use Rattle.std.specs.Int.{w64, bit_at, byte_at, bytes_high_first, from_be_bytes, to_be_bytes}
use Rattle.std.proofs.Math.Nat.{pow-suc}
use Rattle.std.proofs.lemmas.Bool.{cases_lt}
use Rattle.std.proofs.lemmas.List.{append-nil, length-append, length-take, length-drop, get_or-take, get_or-drop, get_or_past}
use Rattle.std.proofs.lemmas.Nat.{be_bytes_8, mod-pow-add, pow-add}
use Rattle.des_blocks.specs.Bits.{bits, byte_bits, number, pieces, to_bytes}
use Rattle.des_blocks.proofs.BitLemmas.{length-bits, bits-mod, bits-split, take-add, drop-add}

-- ---- words

pow-256 : (k : ℕ) → 256 ^ k ≡ 2 ^ (8 * k)
pow-256 zero = refl
pow-256 (suc k) =
    let e : 8 * suc k ≡ 8 * k + 8 = omega arith in
    pow-suc 256 k ∙ ap (λ n. n * 256) (pow-256 k) ∙ sym (ap (λ n. 2 ^ n) e ∙ pow-add 2 (8 * k) 8)

pub byte_at-is : (k n : ℕ) → byte_at k n ≡ n / 2 ^ (8 * k) % 2 ^ 8
byte_at-is zero n = let e : n ≡ n / 2 ^ (8 * 0) = omega arith in ap (λ m. m % 256) e
byte_at-is (suc k) n = ap (λ d. n / d % 256) (pow-256 (suc k))

bits-none : (n : ℕ) → bits 0 n ≡ []
unfolding bits
bits-none n = refl

-- the bits of the lowest k bytes of a number
byte_bits-high_first : (k n : ℕ) → byte_bits (bytes_high_first k n) ≡ bits (8 * k) n
unfolding byte_bits
byte_bits-high_first zero n = sym (bits-none n)
byte_bits-high_first (suc k) n =
    let e : 8 + 8 * k ≡ 8 * suc k = omega arith in
    ap (λ b. bits 8 b ++ byte_bits (bytes_high_first k n)) (byte_at-is k n)
    ∙ ap (λ xs. xs ++ byte_bits (bytes_high_first k n)) (bits-mod 8 (n / 2 ^ (8 * k)))
    ∙ ap (λ xs. bits 8 (n / 2 ^ (8 * k)) ++ xs) (byte_bits-high_first k n)
    ∙ sym (bits-split 8 (8 * k) n) ∙ ap (λ w. bits w n) e

pub byte_bits-to_be_bytes : (n : ℕ) → byte_bits (to_be_bytes w64 n) ≡ bits 64 n
byte_bits-to_be_bytes n = byte_bits-high_first 8 n

pub bits-from_be_bytes : (bs : List ℕ) (n : ℕ) → length bs ≡ 8 → ((i : ℕ) → get_or bs i 0 < 256) → n ≡ from_be_bytes w64 bs → bits 64 n ≡ byte_bits bs
bits-from_be_bytes bs n long small is = sym (byte_bits-to_be_bytes n) ∙ ap byte_bits (be_bytes_8 bs n long small is)

small-high_first : (k n i d : ℕ) → i < k → get_or (bytes_high_first k n) i d < 256
small-high_first zero n i d h = absurd (omega arith)
small-high_first (suc k) n zero d h = omega (arith, byte_at-is k n)
small-high_first (suc k) n (suc i) d h = small-high_first k n i d (omega arith)

pub small-to_be_bytes : (n : ℕ) → All (λ b. b < 256) (to_be_bytes w64 n)
small-to_be_bytes n = λ i d h. small-high_first 8 n i d h

-- ---- numbers of bits

pub number-bits : (w n : ℕ) → number (bits w n) ≡ n % 2 ^ w
unfolding number bits
number-bits zero n = omega arith
number-bits (suc w) n =
    let e : suc w ≡ 1 + w = omega arith in
    ap (λ k. bit_at n w * 2 ^ k + number (bits w n)) (length-bits w n) ∙ ap (λ m. bit_at n w * 2 ^ w + m) (number-bits w n)
    ∙ sym (ap (λ k. n % 2 ^ k) e ∙ mod-pow-add n 1 w)

pub length-byte_bits : (bs : List ℕ) → length (byte_bits bs) ≡ length bs * 8
unfolding byte_bits
length-byte_bits [] = refl
length-byte_bits (b ∷ bs) = length-append (bits 8 b) (byte_bits bs) ∙ omega (arith, length-bits 8 b, length-byte_bits bs)

pieces-byte_bits : (bs : List ℕ) → All (λ b. b < 256) bs → map number (pieces (length bs) 8 (byte_bits bs)) ≡ bs
unfolding pieces byte_bits
pieces-byte_bits [] h = refl
pieces-byte_bits (b ∷ bs) h =
    let first : take 8 (bits 8 b ++ byte_bits bs) ≡ bits 8 b = take-add (bits 8 b) (byte_bits bs) 8 0 (length-bits 8 b) ∙ append-nil (bits 8 b) in
    let rest : drop 8 (bits 8 b ++ byte_bits bs) ≡ byte_bits bs = drop-add (bits 8 b) (byte_bits bs) 8 0 (length-bits 8 b) in
    let small : b % 2 ^ 8 ≡ b = omega (arith, h 0 0 (omega arith)) in
    ap {B = List ℕ} (λ xs. number xs ∷ map number (pieces (length bs) 8 (drop 8 (bits 8 b ++ byte_bits bs)))) first
    ∙ ap {B = List ℕ} (λ n. n ∷ map number (pieces (length bs) 8 (drop 8 (bits 8 b ++ byte_bits bs)))) (number-bits 8 b ∙ small)
    ∙ ap {B = List ℕ} (λ xs. b ∷ map number (pieces (length bs) 8 xs)) rest
    ∙ ap {B = List ℕ} (λ xs. b ∷ xs) (pieces-byte_bits bs (λ k d l. h (suc k) d (omega arith)))

-- bytes are the bytes of their bits
pub to_bytes-byte_bits : (bs : List ℕ) → All (λ b. b < 256) bs → to_bytes (byte_bits bs) ≡ bs
unfolding to_bytes
to_bytes-byte_bits bs h =
    let e : length (byte_bits bs) / 8 ≡ length bs = omega (arith, length-byte_bits bs) in
    ap (λ n. map number (pieces n 8 (byte_bits bs))) e ∙ pieces-byte_bits bs h

-- ---- the word of eight bytes of a text

byte-of-piece : (n at : ℕ) (text : List ℕ) → ((i : ℕ) → get_or text i 0 < 256) → (i : ℕ) → get_or (take n (drop at text)) i 0 < 256
byte-of-piece n at text small i =
    ⊎_elim (λ (within : i < n). rw (get_or-take, get_or-drop) (small (at + i)))
    (λ (past : n ≤ i). rw (get_or_past (take n (drop at text)) i 0 (simp length-take (omega arith))) (omega arith))
    (cases_lt i n)

pub word-of-piece : (at : ℕ) (text : List ℕ) (word : ℕ) (piece : List ℕ) → at + 8 ≤ length text → ((i : ℕ) → get_or text i 0 < 256)
    → piece ≡ take (at + 8 - at) (drop at text) → word ≡ from_be_bytes w64 piece → to_be_bytes w64 word ≡ take 8 (drop at text)
word-of-piece at text word piece within small is made =
    let eight : at + 8 - at ≡ 8 = omega arith in
    let cut : piece ≡ take 8 (drop at text) = is ∙ ap (λ n. take n (drop at text)) eight in
    let long : length (take 8 (drop at text)) ≡ 8 = simp (length-take, length-drop) (omega (arith, within)) in
    be_bytes_8 (take 8 (drop at text)) word long (byte-of-piece 8 at text small) (made ∙ ap (from_be_bytes w64) cut)
