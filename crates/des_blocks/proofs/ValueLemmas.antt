-- The cipher gives bits, and bits and bytes are one another: so the laws on bits are laws on bytes.
use Rattle.std.proofs.Common.{◌≡◌, ℕ, zero, suc, ◌+◌, ◌-◌, ◌*◌, ◌/◌, ◌^◌, ◌<◌, List, [], ◌∷◌, ◌++◌, length, take, drop, map, slice_index, reverse, bit_xor, refl, sym, ap, ◌∙◌, arith, subst}
use Rattle.std.specs.List.{All}
use Rattle.std.proofs.lemmas.List.{length-drop, length-map, length-take, nil_from_length, take-append-drop}
use Rattle.std.proofs.Math.Nat.{pow-suc}
use Rattle.std.proofs.lemmas.Nat.{xor_lt}
use Rattle.std.specs.Int.{bit_at}
use Rattle.std.proofs.lemmas.Nat.Bits.{bit_at-lt}
use Rattle.des_blocks.specs.Bits.{bits, byte_bits, number, pieces, to_bytes, xor, AreBytes}
use Rattle.des_blocks.specs.Des.{places, look_up, substitute, f, rounds, crypt, round_keys}
use Rattle.des_blocks.specs.Tables.{Box, boxes, initial_permutation}
use Rattle.des_blocks.specs.TripleDes.{enciphered, deciphered, ede, ded}
use Rattle.des_blocks.proofs.BitLemmas.{bits-append, below_block, length-pieces}
use Rattle.des_blocks.proofs.ByteLemmas.{length-byte_bits, to_bytes-byte_bits}
use Rattle.des_blocks.proofs.LawLemmas.{decipher-encipher, encipher-decipher, length-crypt}
use Rattle.des_blocks.proofs.PlaceLemmas.{one-bit}

-- ---- lists of bits: each element is 0 or 1, and so is what a place past the end reads as

abbrev pub Binary : List ℕ → Type 0
Binary xs = (i : ℕ) → slice_index xs i < 2

binary-none : Binary []
binary-none i = omega arith

binary-cons : (x : ℕ) (xs : List ℕ) → x < 2 → Binary xs → Binary (x ∷ xs)
binary-cons x xs h t zero = h
binary-cons x xs h t (suc i) = t i

binary-append : (xs ys : List ℕ) → Binary xs → Binary ys → Binary (xs ++ ys)
binary-append [] ys p q = q
binary-append (x ∷ xs) ys p q = binary-cons x (xs ++ ys) (p 0) (binary-append xs ys (λ i. p (suc i)) q)

pub binary-bits : (w n : ℕ) → Binary (bits w n)
unfolding bits
binary-bits zero n = binary-none
binary-bits (suc w) n = binary-cons (bit_at n w) (bits w n) (bit_at-lt n w) (binary-bits w n)

binary-byte_bits : (bs : List ℕ) → Binary (byte_bits bs)
unfolding byte_bits
binary-byte_bits [] = binary-none
binary-byte_bits (b ∷ bs) = binary-append (bits 8 b) (byte_bits bs) (binary-bits 8 b) (binary-byte_bits bs)

binary-places : (t xs : List ℕ) → Binary xs → Binary (places t xs)
unfolding places
binary-places [] xs h = binary-none
binary-places (n ∷ t) xs h = binary-cons (slice_index xs (n - 1)) (places t xs) (h (n - 1)) (binary-places t xs h)

binary-xor : (xs ys : List ℕ) → Binary xs → Binary ys → Binary (xor xs ys)
unfolding xor
binary-xor [] ys p q = binary-none
binary-xor (x ∷ xs) [] p q = binary-none
binary-xor (x ∷ xs) (y ∷ ys) p q = binary-cons (bit_xor x y) (xor xs ys) (xor_lt 1 x y (p 0) (q 0)) (binary-xor xs ys (λ i. p (suc i)) (λ i. q (suc i)))

binary-take : (n : ℕ) (xs : List ℕ) → Binary xs → Binary (take n xs)
binary-take zero xs h = binary-none
binary-take (suc n) [] h = binary-none
binary-take (suc n) (x ∷ xs) h = binary-cons x (take n xs) (h 0) (binary-take n xs (λ i. h (suc i)))

binary-drop : (n : ℕ) (xs : List ℕ) → Binary xs → Binary (drop n xs)
binary-drop zero xs h = h
binary-drop (suc n) [] h = h
binary-drop (suc n) (x ∷ xs) h = binary-drop n xs (λ i. h (suc i))

-- ---- the cipher gives bits

binary-look_up : (box : Box) (six : List ℕ) → Binary (look_up box six)
unfolding look_up
binary-look_up box six = binary-bits 4 _

binary-substitute : (all : List Box) (xs : List ℕ) → Binary (substitute all xs)
unfolding substitute
binary-substitute [] xs = binary-none
binary-substitute (box ∷ rest) xs = binary-append (look_up box (take 6 xs)) (substitute rest (drop 6 xs)) (binary-look_up box (take 6 xs)) (binary-substitute rest (drop 6 xs))

binary-f : (r k : List ℕ) → Binary (f r k)
unfolding f
binary-f r k = binary-places _ _ (binary-substitute boxes _)

binary-rounds : (ks : List (List ℕ)) (l r : List ℕ) → Binary l → Binary r → Binary (rounds ks l r)
unfolding rounds
binary-rounds [] l r p q = binary-append r l q p
binary-rounds (k ∷ ks) l r p q = binary-rounds ks r (xor l (f r k)) q (binary-xor l (f r k) p (binary-f r k))

pub binary-crypt : (keys : List (List ℕ)) (block : List ℕ) → Binary block → Binary (crypt keys block)
unfolding crypt
binary-crypt keys block h =
    let entered = binary-places initial_permutation block h in
    binary-places _ _ (binary-rounds keys (take 32 (places initial_permutation block)) (drop 32 (places initial_permutation block)) (binary-take 32 _ entered) (binary-drop 32 _ entered))

-- ---- bits and the number that they spell

nothing : bits 0 0 ≡ []
unfolding bits
nothing = refl

double : (n : ℕ) → 2 ^ suc n ≡ 2 * 2 ^ n
double n = pow-suc 2 n ∙ omega arith

number-lt : (xs : List ℕ) → Binary xs → number xs < 2 ^ length xs
unfolding number
number-lt [] h = omega arith
number-lt (x ∷ xs) h = below_block 2 (2 ^ length xs) x (number xs) _ _ (h 0) (number-lt xs (λ i. h (suc i))) refl (double (length xs))

pub bits-number : (xs : List ℕ) → Binary xs → bits (length xs) (number xs) ≡ xs
unfolding number
bits-number [] h = nothing
bits-number (x ∷ xs) h =
    let e : suc (length xs) ≡ 1 + length xs = omega arith in
    ap (λ w. bits w (x * 2 ^ length xs + number xs)) e ∙ bits-append 1 (length xs) x (number xs) (number-lt xs (λ i. h (suc i)))
    ∙ ap (λ ys. ys ++ bits (length xs) (number xs)) (one-bit x (h 0)) ∙ ap {B = List ℕ} (λ ys. x ∷ ys) (bits-number xs (λ i. h (suc i)))

pieces-number : (n : ℕ) (xs : List ℕ) → length xs ≡ 8 * n → Binary xs → byte_bits (map number (pieces n 8 xs)) ≡ xs
unfolding pieces byte_bits
pieces-number zero xs e h = sym (nil_from_length xs (omega arith))
pieces-number (suc n) xs e h =
    let eight : length (take 8 xs) ≡ 8 = omega (arith, length-take 8 xs) in
    let rest : length (drop 8 xs) ≡ 8 * n = omega (arith, length-drop 8 xs) in
    ap (λ w. bits w (number (take 8 xs)) ++ byte_bits (map number (pieces n 8 (drop 8 xs)))) (sym eight)
    ∙ ap (λ ys. ys ++ byte_bits (map number (pieces n 8 (drop 8 xs)))) (bits-number (take 8 xs) (binary-take 8 xs h))
    ∙ ap (λ ys. take 8 xs ++ ys) (pieces-number n (drop 8 xs) rest (binary-drop 8 xs h))
    ∙ take-append-drop 8 xs

-- the bits of the bytes that bits spell
pub byte_bits-to_bytes : (xs : List ℕ) → length xs ≡ 64 → Binary xs → byte_bits (to_bytes xs) ≡ xs
unfolding to_bytes
byte_bits-to_bytes xs e h =
    let n : length xs / 8 ≡ 8 = omega arith in
    ap (λ k. byte_bits (map number (pieces k 8 xs))) n ∙ pieces-number 8 xs e h

small-pieces : (n : ℕ) (xs : List ℕ) → length xs ≡ 8 * n → Binary xs → All (λ b. b < 256) (map number (pieces n 8 xs))
unfolding pieces
small-pieces zero xs e h k d l = absurd (omega arith)
small-pieces (suc n) xs e h zero d l =
    let eight : length (take 8 xs) ≡ 8 = omega (arith, length-take 8 xs) in
    subst (λ w. number (take 8 xs) < 2 ^ w) eight (number-lt (take 8 xs) (binary-take 8 xs h))
small-pieces (suc n) xs e h (suc k) d l = small-pieces n (drop 8 xs) (omega (arith, length-drop 8 xs)) (binary-drop 8 xs h) k d (omega arith)

pub bytes-to_bytes : (xs : List ℕ) → length xs ≡ 64 → Binary xs → AreBytes 8 (to_bytes xs)
unfolding to_bytes
bytes-to_bytes xs e h =
    let n : length xs / 8 ≡ 8 = omega arith in
    subst (λ k. AreBytes 8 (map number (pieces k 8 xs))) (sym n)
    (record { size = length-map (pieces 8 8 xs) number ∙ length-pieces 8 8 xs; each = small-pieces 8 xs e h })

-- ---- the laws on bytes

pub block-length : (block : List ℕ) → AreBytes 8 block → length (byte_bits block) ≡ 64
block-length block h = length-byte_bits block ∙ omega (arith, h.size)

-- a block of bytes through crypt
unfoldable pub crypted : List (List ℕ) → List ℕ → List ℕ
crypted keys block = to_bytes (crypt keys (byte_bits block))

pub crypted-bytes : (keys : List (List ℕ)) (block : List ℕ) → AreBytes 8 (crypted keys block)
unfolding crypted
crypted-bytes keys block = bytes-to_bytes _ (length-crypt keys (byte_bits block)) (binary-crypt keys (byte_bits block) (binary-byte_bits block))

pub crypted-bits : (keys : List (List ℕ)) (block : List ℕ) → byte_bits (crypted keys block) ≡ crypt keys (byte_bits block)
unfolding crypted
crypted-bits keys block = byte_bits-to_bytes _ (length-crypt keys (byte_bits block)) (binary-crypt keys (byte_bits block) (binary-byte_bits block))

pub bytes-enciphered : (key block : List ℕ) → AreBytes 8 (enciphered key block)
unfolding enciphered crypted
bytes-enciphered key block = crypted-bytes (round_keys (byte_bits key)) block

pub bytes-deciphered : (key block : List ℕ) → AreBytes 8 (deciphered key block)
unfolding deciphered crypted
bytes-deciphered key block = crypted-bytes (reverse (round_keys (byte_bits key))) block

pub deciphered-enciphered : (key block : List ℕ) → AreBytes 8 block → deciphered key (enciphered key block) ≡ block
unfolding enciphered deciphered crypted
deciphered-enciphered key block h =
    let keys = round_keys (byte_bits key) in
    ap (λ xs. to_bytes (crypt (reverse keys) xs)) (crypted-bits keys block)
    ∙ ap to_bytes (decipher-encipher keys (byte_bits block) (block-length block h))
    ∙ to_bytes-byte_bits block h.each

pub enciphered-deciphered : (key block : List ℕ) → AreBytes 8 block → enciphered key (deciphered key block) ≡ block
unfolding enciphered deciphered crypted
enciphered-deciphered key block h =
    let keys = round_keys (byte_bits key) in
    ap (λ xs. to_bytes (crypt keys xs)) (crypted-bits (reverse keys) block)
    ∙ ap to_bytes (encipher-decipher keys (byte_bits block) (block-length block h))
    ∙ to_bytes-byte_bits block h.each

pub bytes-ede : (a b c block : List ℕ) → AreBytes 8 (ede a b c block)
unfolding ede
bytes-ede a b c block = bytes-enciphered c (deciphered b (enciphered a block))

pub bytes-ded : (a b c block : List ℕ) → AreBytes 8 (ded a b c block)
unfolding ded
bytes-ded a b c block = bytes-deciphered a (enciphered b (deciphered c block))

pub ded-ede : (a b c block : List ℕ) → AreBytes 8 block → ded a b c (ede a b c block) ≡ block
unfolding ede ded
ded-ede a b c block h =
    ap (λ x. deciphered a (enciphered b x)) (deciphered-enciphered c (deciphered b (enciphered a block)) (bytes-deciphered b (enciphered a block)))
    ∙ ap (deciphered a) (enciphered-deciphered b (enciphered a block) (bytes-enciphered a block))
    ∙ deciphered-enciphered a block h

pub ede-ded : (a b c block : List ℕ) → AreBytes 8 block → ede a b c (ded a b c block) ≡ block
unfolding ede ded
ede-ded a b c block h =
    ap (λ x. enciphered c (deciphered b x)) (enciphered-deciphered a (enciphered b (deciphered c block)) (bytes-enciphered b (deciphered c block)))
    ∙ ap (enciphered c) (deciphered-enciphered b (deciphered c block) (bytes-deciphered c block))
    ∙ enciphered-deciphered c block h

-- three equal keys are one
pub ede-same : (key block : List ℕ) → AreBytes 8 block → ede key key key block ≡ enciphered key block
unfolding ede
ede-same key block h = ap (enciphered key) (deciphered-enciphered key block h)

pub ded-same : (key block : List ℕ) → AreBytes 8 block → ded key key key block ≡ deciphered key block
unfolding ded
ded-same key block h = ap (deciphered key) (enciphered-deciphered key block h)
