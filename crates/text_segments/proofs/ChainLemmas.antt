-- The 16 bytes of a chain, and the chain that they are.
use Rattle.std.proofs.Common.{◌≡◌, ◌∙◌, ℕ, zero, suc, ◌+◌, ◌-◌, ◌<◌, ◌≤◌, true, ◌&&◌, nat_le, List, [], ◌∷◌, ◌++◌, length, take, drop, replicate, set, slice_index, refl, sym, ap, arith}
use Rattle.std.proofs.lemmas.Bool.{le-leb}
use Rattle.std.proofs.lemmas.List.{append_assoc, append-nil, drop-drop, drop_at, get_or-append-add, length-append, length-drop, length-take-le, nil_from_length, take-append-drop, take_at}
use Rattle.std.proofs.Math.Seq.{set-append_seam}
use Rattle.key_cells.specs.Bytes.{IsZero, is_zero}
use Rattle.des_blocks.proofs.BitLemmas.{drop-add}
use Rattle.text_segments.specs.Chains.{chain_bytes, chain_of, is_chain}
use Rattle.text_segments.specs.declared.chains.Chain.{Chain}
use Rattle.text_segments.proofs.BlockLemmas.{take-past}

-- ---- written

pub spelled : (block zeros filled : List ℕ) (count : ℕ) → length block ≡ 8 → length zeros ≡ 7
    → take 9 (set (block ++ 0 ∷ zeros) 8 count) ++ (filled ++ drop 7 (drop 9 (set (block ++ 0 ∷ zeros) 8 count))) ≡ block ++ (count ∷ filled)
spelled block zeros filled count eight seven =
    let xs = block ++ (count ∷ zeros) in
    let put : set (block ++ 0 ∷ zeros) 8 count ≡ xs = ap (λ n. set (block ++ 0 ∷ zeros) n count) (sym eight) ∙ set-append_seam block 0 zeros count in
    let at : 9 ≡ length block + 1 = omega (arith, eight) in
    let front : take 9 xs ≡ block ++ count ∷ [] = ap (λ n. take n xs) at ∙ take-past block (count ∷ zeros) 1 in
    let back : drop 7 (drop 9 xs) ≡ [] = nil_from_length (drop 7 (drop 9 xs)) (omega (arith, length-drop 7 (drop 9 xs), length-drop 9 xs, length-append block (count ∷ zeros), eight, seven)) in
    ap (λ ys. take 9 ys ++ (filled ++ drop 7 (drop 9 ys))) put
    ∙ ap (λ ys. ys ++ (filled ++ drop 7 (drop 9 xs))) front
    ∙ ap (λ ys. (block ++ count ∷ []) ++ (filled ++ ys)) back
    ∙ ap (λ ys. (block ++ count ∷ []) ++ ys) (append-nil filled)
    ∙ append_assoc block (count ∷ []) filled

-- ---- read back

abbrev bytes_of : List ℕ → List ℕ → List ℕ
bytes_of block carried = block ++ (length carried ∷ carried ++ replicate (7 - length carried) 0)

-- what stands after the chaining block
after : (block rest : List ℕ) (n count : ℕ) → length block ≡ 8 → drop (9 + n) (block ++ (count ∷ rest)) ≡ drop n rest
after block rest n count eight =
    let at : 9 + n ≡ 8 + suc n = omega arith in
    ap (λ k. drop k (block ++ (count ∷ rest))) at ∙ drop-add block (count ∷ rest) 8 (suc n) eight

count_in : (block rest : List ℕ) (count : ℕ) → length block ≡ 8 → slice_index (block ++ (count ∷ rest)) 8 ≡ count
count_in block rest count eight =
    let at : 8 ≡ length block + 0 = omega (arith, eight) in
    ap (λ k. slice_index (block ++ (count ∷ rest)) k) at ∙ get_or-append-add block (count ∷ rest) 0 0

zeros_are : (n : ℕ) → is_zero (replicate n 0) ≡ true
zeros_are zero = refl
zeros_are (suc n) = zeros_are n

pub valid : (block carried : List ℕ) → length block ≡ 8 → length carried ≤ 7 → is_chain (bytes_of block carried) ≡ true
valid block carried eight few =
    let n = length carried in
    let zeros = replicate (7 - n) 0 in
    let bytes = bytes_of block carried in
    ap (λ k. nat_le k 7 && is_zero (drop (9 + k) bytes)) (count_in block (carried ++ zeros) n eight)
    ∙ ap (λ b. b && is_zero (drop (9 + n) bytes)) (le-leb n 7 few)
    ∙ ap is_zero (after block (carried ++ zeros) n n eight ∙ drop_at carried zeros n refl)
    ∙ zeros_are (7 - n)

abbrev made : List ℕ → List ℕ → Chain
made block carried = record { block = block; carried = carried }

pub again : (block carried : List ℕ) → length block ≡ 8 → length carried ≤ 7 → chain_of (bytes_of block carried) ≡ record { block = block; carried = carried }
again block carried eight few =
    let n = length carried in
    let zeros = replicate (7 - n) 0 in
    let bytes = bytes_of block carried in
    ap (λ b. made b (take (slice_index bytes 8) (drop 9 bytes))) (take_at block (n ∷ carried ++ zeros) 8 eight)
    ∙ ap (λ k. made block (take k (drop 9 bytes))) (count_in block (carried ++ zeros) n eight)
    ∙ ap (λ xs. made block (take n xs)) (after block (carried ++ zeros) 0 n eight)
    ∙ ap (made block) (take_at carried zeros n refl)

drop_next : (xs : List ℕ) (n : ℕ) → n < length xs → drop n xs ≡ slice_index xs n ∷ drop (suc n) xs
drop_next [] n within = absurd (omega arith)
drop_next (x ∷ xs) zero within = refl
drop_next (x ∷ xs) (suc n) within = drop_next xs n (omega arith)

-- ---- what is read is what was written

pub same : (bytes : List ℕ) → length bytes ≡ 16 → slice_index bytes 8 ≤ 7 → IsZero (drop (9 + slice_index bytes 8) bytes) → chain_bytes (chain_of bytes) ≡ bytes
same bytes size few zeros =
    let n = slice_index bytes 8 in
    let rest = drop 9 bytes in
    let t = take n rest in
    let rest_long : length rest ≡ 7 = omega (arith, length-drop 9 bytes, size) in
    let long : length t ≡ n = length-take-le n rest (omega (arith, rest_long, few)) in
    let end : drop n rest ≡ replicate (7 - n) 0
    = drop-drop n 9 bytes ∙ zeros ∙ ap (λ k. replicate k 0) (let count : length (drop (9 + n) bytes) ≡ 7 - n = omega (arith, length-drop (9 + n) bytes, size) in count) in
    let tail : t ++ replicate (7 - n) 0 ≡ rest = ap (λ zs. t ++ zs) (sym end) ∙ take-append-drop n rest in
    ap (λ k. take 8 bytes ++ (k ∷ t ++ replicate (7 - k) 0)) long
    ∙ ap (λ ys. take 8 bytes ++ (n ∷ ys)) tail
    ∙ ap (λ ys. take 8 bytes ++ ys) (sym (drop_next bytes 8 (omega (arith, size))))
    ∙ take-append-drop 8 bytes
