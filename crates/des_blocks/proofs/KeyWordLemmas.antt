-- The bytes of a key as a word.
use Rattle.std.proofs.Common.{◌≡◌, ℕ, ◌+◌, ◌*◌, ◌%◌, ◌^◌, ◌<◌, List, [], ◌∷◌, ◌++◌, length, take, get_or, bit_or, refl, sym, ap, ◌∙◌, arith}
use Rattle.std.proofs.lemmas.List.{append-nil, append_assoc, take_more}
use Rattle.des_blocks.specs.Bits.{bits, byte_bits}
use Rattle.des_blocks.proofs.BitLemmas.{bits-shl_or, shl_or-lt}

-- ---- bytes one after another

byte_bits-append : (xs ys : List ℕ) → byte_bits (xs ++ ys) ≡ byte_bits xs ++ byte_bits ys
unfolding byte_bits
byte_bits-append [] ys = refl
byte_bits-append (x ∷ xs) ys = ap (λ zs. bits 8 x ++ zs) (byte_bits-append xs ys) ∙ sym (append_assoc (bits 8 x) (byte_bits xs) (byte_bits ys))

byte_bits-one : (b : ℕ) → byte_bits (b ∷ []) ≡ bits 8 b
unfolding byte_bits
byte_bits-one b = append-nil (bits 8 b)

pub no-bytes : bits (8 * 0) 0 ≡ byte_bits []
unfolding bits byte_bits
no-bytes = refl

pub word-more : (bytes : List ℕ) (word i b : ℕ) → i < length bytes → length bytes ≡ 8 → b < 256 → b ≡ get_or bytes i 0 → word < 2 ^ (8 * i)
    → bits (8 * i) word ≡ byte_bits (take i bytes)
    → bits (8 * (i + 1)) (bit_or (word * 2 ^ 8 % 2 ^ 64) b) ≡ byte_bits (take (i + 1) bytes)
word-more bytes word i b h eight small is fits before =
    let wider : 8 * (i + 1) ≡ 8 * i + 8 = omega arith in
    let more : take (i + 1) bytes ≡ take i bytes ++ b ∷ [] = take_more bytes i 0 h ∙ ap {B = List ℕ} (λ x. take i bytes ++ x ∷ []) (sym is) in
    ap (λ w. bits w (bit_or (word * 2 ^ 8 % 2 ^ 64) b)) wider
    ∙ bits-shl_or (8 * i) 8 word b fits small (omega arith)
    ∙ ap (λ xs. xs ++ bits 8 b) before
    ∙ ap (λ xs. byte_bits (take i bytes) ++ xs) (sym (byte_bits-one b))
    ∙ sym (ap byte_bits more ∙ byte_bits-append (take i bytes) (b ∷ []))

pub word-small : (word i b : ℕ) → i < 8 → b < 256 → word < 2 ^ (8 * i) → bit_or (word * 2 ^ 8 % 2 ^ 64) b < 2 ^ (8 * (i + 1))
word-small word i b h small fits =
    let wider : 8 * i + 8 ≡ 8 * (i + 1) = omega arith in
    rw (← wider) (shl_or-lt (8 * i) 8 word b fits small (omega arith))
