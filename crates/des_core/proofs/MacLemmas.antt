-- The code over a filled text: one block more of the chain, and the last one; under a key.
use Rattle.std.proofs.Common.{◌≡◌, ℕ, zero, suc, ◌+◌, ◌-◌, ◌*◌, ◌/◌, ◌%◌, ◌<◌, ◌≤◌, List, [], ◌∷◌, ◌++◌, length, take, drop, get_or, replicate, refl, sym, ap, ◌∙◌, arith, inl, inr, lit<, subst}
use Rattle.std.specs.Int.{div_ceil, to_be_bytes, w64}
use Rattle.std.specs.List.{All}
use Rattle.std.proofs.lemmas.Bool.{cases_lt}
use Rattle.std.proofs.lemmas.List.{append-nil, drop-append-le, drop-drop, drop-replicate, length-append, length-drop, length-replicate, length-take, take-append-le, take_all}
use Rattle.key_cells.specs.declared.schedules.Schedule.{Schedule}
use Rattle.des_blocks.specs.Bits.{AreBytes, bits, byte_bits, pieces, to_bytes, xor}
use Rattle.des_blocks.specs.Des.{decipher, encipher, places}
use Rattle.des_blocks.specs.Halves.{AreHalves}
use Rattle.des_blocks.specs.Modes.{blocks, cbc, cbc_mac, fill, last_block, mac_x919, mac_x99, zero_block}
use Rattle.des_blocks.specs.Schedules.{IsOf, deciphered_under, enciphered_under, keys_of}
use Rattle.des_blocks.specs.Tables.{final_permutation, initial_permutation}
use Rattle.des_blocks.specs.Texts.{fill_block}
use Rattle.des_blocks.specs.TripleDes.{deciphered, enciphered}
use Rattle.des_blocks.proofs.ByteLemmas.{byte_bits-to_be_bytes, small-to_be_bytes, to_bytes-byte_bits}
use Rattle.des_blocks.proofs.ClearKeyLemmas.{cbc-same}
use Rattle.des_core.proofs.ChainLemmas.{bytes-of, cbc-step-as}
use Rattle.des_blocks.proofs.LawLemmas.{final-initial}
use Rattle.des_blocks.proofs.ValueLemmas.{block-length, crypted, crypted-bits, crypted-bytes}
use Rattle.des_blocks.proofs.XorLemmas.{byte_bits-xor}

-- ---- the filled text

pub fill-whole : (block : List ℕ) → length block ≡ 8 → fill_block block ≡ block
fill-whole block e = let none : 8 - length block ≡ 0 = omega arith in ap (λ n. block ++ replicate n 0) none ∙ append-nil block

pub fill-front : (bytes block : List ℕ) → length bytes < 8 → block ≡ bytes ++ drop (length bytes) (replicate 8 0) → block ≡ fill_block bytes
fill-front bytes block h is = is ∙ ap (λ xs. bytes ++ xs) (drop-replicate (length bytes) 8 0)

-- bytes and zeros are bytes
zeros-small : (n i : ℕ) → get_or (replicate n 0) i 0 < 256
zeros-small zero i = lit< tt
zeros-small (suc n) zero = lit< tt
zeros-small (suc n) (suc i) = zeros-small n i

filled-small : (bytes : List ℕ) (n : ℕ) → ((i : ℕ) → get_or bytes i 0 < 256) → (i : ℕ) → get_or (bytes ++ replicate n 0) i 0 < 256
filled-small [] n small i = zeros-small n i
filled-small (b ∷ bs) n small zero = small 0
filled-small (b ∷ bs) n small (suc i) = filled-small bs n (λ k. small (suc k)) i

pub front-small : (bytes block : List ℕ) → ((i : ℕ) → get_or bytes i 0 < 256) → block ≡ bytes ++ drop (length bytes) (replicate 8 0) → (i : ℕ) → get_or block i 0 < 256
front-small bytes block small is i = rw (is ∙ ap (λ xs. bytes ++ xs) (drop-replicate (length bytes) 8 0)) (filled-small bytes (8 - length bytes) small i)

length-fill : (text : List ℕ) → length (fill text) ≡ length text + (8 - length text % 8) % 8
length-fill text = length-append text (replicate ((8 - length text % 8) % 8) 0) ∙ ap (λ n. length text + n) (length-replicate {A = ℕ} ((8 - length text % 8) % 8) 0)

-- how many blocks
pub blocks-count : (text : List ℕ) (count : ℕ) → count ≡ div_ceil (length text) 8 → count ≡ length (fill text) / 8
blocks-count text count e = omega (arith, length-fill text)

pub blocks-within : (text : List ℕ) (i : ℕ) → i < length (fill text) / 8 → 8 * i < length text
blocks-within text i h = omega (arith, length-fill text)

-- each block of the filled text is a block of the text, filled
pub fill-at : (text : List ℕ) (i : ℕ) → 8 * i < length text → take 8 (drop (8 * i) (fill text)) ≡ fill_block (take 8 (drop (8 * i) text))
fill-at text i h =
    let added : ℕ = (8 - length text % 8) % 8 in
    let rest = drop (8 * i) text in
    let long : length rest ≡ length text - 8 * i = length-drop (8 * i) text in
    let moved : drop (8 * i) (fill text) ≡ rest ++ replicate added 0 = drop-append-le (8 * i) text (replicate added 0) (omega arith) in
    ap (take 8) moved ∙ elim (cases_lt (length rest) 8) [
      | inl short ↦
          let all : take 8 rest ≡ rest = take_all 8 rest (omega arith) in
          let missing : added ≡ 8 - length rest = omega (arith, long) in
          let size : length (rest ++ replicate added 0) ≤ 8 = omega (arith, length-append rest (replicate added 0), length-replicate {A = ℕ} added 0, missing) in
          take_all 8 (rest ++ replicate added 0) size ∙ ap (λ n. rest ++ replicate n 0) missing ∙ sym (ap fill_block all)
      | inr whole ↦
          take-append-le 8 rest (replicate added 0) whole ∙ sym (fill-whole (take 8 rest) (length-take 8 rest ∙ omega arith))
    ]

-- ---- the chain

pub bytes-of_enciphered : (keys : Schedule) (block : List ℕ) → AreBytes 8 (enciphered_under keys block)
unfolding crypted
bytes-of_enciphered keys block = crypted-bytes (keys_of keys) block

enciphered-bits : (keys : Schedule) (block : List ℕ) → byte_bits (enciphered_under keys block) ≡ encipher (keys_of keys) (byte_bits block)
unfolding crypted
enciphered-bits keys block = crypted-bits (keys_of keys) block

-- the bits of a block that is joined by XOR with the one before it and enciphered
pub next-bits : (keys : Schedule) (word : ℕ) (before : List ℕ) → AreBytes 8 before
    → encipher (keys_of keys) (xor (bits 64 word) (byte_bits before)) ≡ byte_bits (enciphered_under keys (xor (to_be_bytes w64 word) before))
next-bits keys word before bytes =
    let block = to_be_bytes w64 word in
    let size : length block ≡ length before = sym bytes.size in
    sym (enciphered-bits keys (xor block before) ∙ ap (encipher (keys_of keys)) (byte_bits-xor block before size ∙ ap (λ xs. xor xs (byte_bits before)) (byte_bits-to_be_bytes word)))

-- the block that two halves are of, as a word
pub word-of_halves : (left right out : ℕ) (block : List ℕ) → AreBytes 8 block → AreHalves left right (places initial_permutation (byte_bits block))
    → ((both : List ℕ) → AreHalves left right both → bits 64 out ≡ places final_permutation both) → to_be_bytes w64 out ≡ block
word-of_halves left right out block bytes are is =
    bytes-of out ∙ ap to_bytes (is _ are ∙ final-initial (byte_bits block) (block-length block bytes)) ∙ to_bytes-byte_bits block bytes.each

-- the last block of the chain over the blocks from block i on
abbrev pub mac_from : (List ℕ → List ℕ) → List ℕ → ℕ → List ℕ → List ℕ
mac_from e chain i text = last_block chain (cbc e chain (pieces (length (fill text) / 8 - i) 8 (drop (8 * i) (fill text))))

pub mac-begun : (e : List ℕ → List ℕ) (text : List ℕ) → mac_from e zero_block 0 text ≡ cbc_mac e text
unfolding cbc_mac
mac-begun e text =
    let same : length (fill text) / 8 - 0 ≡ length (fill text) / 8 = omega arith in
    ap (λ n. last_block zero_block (cbc e zero_block (pieces n 8 (fill text)))) same

pub mac-more : (e : List ℕ → List ℕ) (text chain bytes block : List ℕ) (i : ℕ) → i < length (fill text) / 8
    → block ≡ fill_block (take 8 (drop (8 * i) text)) → bytes ≡ e (xor block chain)
    → mac_from e chain i text ≡ cbc_mac e text → mac_from e bytes (i + 1) text ≡ cbc_mac e text
unfolding pieces
mac-more e text chain bytes block i h block_is bytes_is before =
    let n = length (fill text) / 8 in
    let filled = fill text in
    let one : n - i ≡ suc (n - (i + 1)) = omega arith in
    let wider : 8 * (i + 1) ≡ 8 * i + 8 = omega arith in
    let p : take 8 (drop (8 * i) filled) ≡ block = fill-at text i (blocks-within text i h) ∙ sym block_is in
    let rest : drop (8 * (i + 1)) filled ≡ drop 8 (drop (8 * i) filled) = ap (λ k. drop k filled) wider ∙ sym (drop-drop 8 (8 * i) filled) in
    let qs = pieces (n - (i + 1)) 8 (drop 8 (drop (8 * i) filled)) in
    ap (λ xs. last_block bytes (cbc e bytes (pieces (n - (i + 1)) 8 xs))) rest
    ∙ sym (ap (λ k. last_block chain (cbc e chain (pieces k 8 (drop (8 * i) filled)))) one
    ∙ ap (λ b. last_block chain (cbc e chain (b ∷ qs))) p
    ∙ ap (last_block chain) (cbc-step-as e chain block bytes bytes_is qs))
    ∙ before

pub mac-done : (e : List ℕ → List ℕ) (text chain : List ℕ) (i : ℕ) → i ≡ length (fill text) / 8 → mac_from e chain i text ≡ cbc_mac e text → chain ≡ cbc_mac e text
unfolding pieces cbc
mac-done e text chain i h before =
    let none : length (fill text) / 8 - i ≡ 0 = omega arith in
    sym (ap (λ k. last_block chain (cbc e chain (pieces k 8 (drop (8 * i) (fill text))))) none) ∙ before

-- ---- the halves of the chain

-- two words hold what IP makes of the last block so far, and the chain goes on from it to the code
pub record Coding (e : List ℕ → List ℕ) (left right i : ℕ) (text : List ℕ) : Type 0 where
  pub last : List ℕ
  pub bytes : AreBytes 8 last
  pub halves : AreHalves left right (places initial_permutation (byte_bits last))
  pub value : mac_from e last i text ≡ cbc_mac e text

pub coding-begun : (e : List ℕ → List ℕ) (left right : ℕ) (text : List ℕ) → AreHalves left right (places initial_permutation (bits 64 0)) → Coding e left right 0 text
coding-begun e left right text are = record {
  last = zero_block;
  bytes = record { size = refl; each = small-to_be_bytes 0 };
  halves = subst (λ xs. AreHalves left right (places initial_permutation xs)) (sym (byte_bits-to_be_bytes 0)) are;
  value = mac-begun e text;
}

pub coding-more : (keys : Schedule) (left right next_left next_right word i : ℕ) (text : List ℕ) → i < length (fill text) / 8 → to_be_bytes w64 word ≡ fill_block (take 8 (drop (8 * i) text))
    → ((before : List ℕ) → length before ≡ 64 → AreHalves left right (places initial_permutation before) → AreHalves next_left next_right (places initial_permutation (encipher (keys_of keys) (xor (bits 64 word) before))))
    → Coding (enciphered_under keys) left right i text → Coding (enciphered_under keys) next_left next_right (i + 1) text
coding-more keys left right next_left next_right word i text h is step before =
    let block = to_be_bytes w64 word in
    let last = before.last in
    let next = enciphered_under keys (xor block last) in
    let bits_are = next-bits keys word last before.bytes in
    record {
      last = next;
      bytes = bytes-of_enciphered keys (xor block last);
      halves = subst (λ xs. AreHalves next_left next_right (places initial_permutation xs)) bits_are (step (byte_bits last) (block-length last before.bytes) before.halves);
      value = mac-more (enciphered_under keys) text last next block i h is refl before.value;
    }

pub coding-done : (e : List ℕ → List ℕ) (left right out i : ℕ) (text : List ℕ) → i ≡ length (fill text) / 8
    → ((both : List ℕ) → AreHalves left right both → bits 64 out ≡ places final_permutation both) → Coding e left right i text → to_be_bytes w64 out ≡ cbc_mac e text
coding-done e left right out i text h is coding =
    word-of_halves left right out coding.last coding.bytes coding.halves is ∙ mac-done e text coding.last i h coding.value

-- ---- under a key

pub enciphered-key : (schedule : Schedule) (key block : List ℕ) → IsOf schedule key → enciphered_under schedule block ≡ enciphered key block
unfolding enciphered
enciphered-key schedule key block of = ap (λ keys. to_bytes (encipher keys (byte_bits block))) of

pub deciphered-key : (schedule : Schedule) (key block : List ℕ) → IsOf schedule key → deciphered_under schedule block ≡ deciphered key block
unfolding deciphered
deciphered-key schedule key block of = ap (λ keys. to_bytes (decipher keys (byte_bits block))) of

pub mac-key : (schedule : Schedule) (key text : List ℕ) → IsOf schedule key → cbc_mac (enciphered_under schedule) text ≡ mac_x99 key text
unfolding cbc_mac
mac-key schedule key text of =
    ap (last_block zero_block) (cbc-same (enciphered_under schedule) (enciphered key) (λ x. enciphered-key schedule key x of) zero_block (blocks (fill text)))

pub x919-key : (left right : Schedule) (key text : List ℕ) → IsOf left (take 8 key) → IsOf right (drop 8 key)
    → enciphered_under left (deciphered_under right (cbc_mac (enciphered_under left) text)) ≡ mac_x919 key text
x919-key left right key text p q =
    enciphered-key left (take 8 key) _ p
    ∙ ap (enciphered (take 8 key)) (deciphered-key right (drop 8 key) _ q ∙ ap (deciphered (drop 8 key)) (mac-key left (take 8 key) text p))

-- ---- from the bits of a block to its bytes

pub bytes-from-bits : (result bits : List ℕ) → All (λ b. b < 256) result → byte_bits result ≡ bits → result ≡ to_bytes bits
bytes-from-bits result bits small is = sym (to_bytes-byte_bits result small) ∙ ap to_bytes is
