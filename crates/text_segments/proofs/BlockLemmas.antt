-- Whole blocks at the front of a text: what chains over them make, one after another.
use Rattle.std.proofs.Common.{◌≡◌, ◌∙◌, ℕ, zero, suc, ◌+◌, ◌-◌, ◌*◌, ◌/◌, ◌%◌, ◌<◌, ◌≤◌, List, [], ◌∷◌, ◌++◌, length, take, drop, replicate, refl, sym, ap, take_at, drop_at, arith}
use Rattle.std.proofs.lemmas.List.{append_assoc, append-nil, length-append, length-drop, length-replicate, length-take, take_all, take-append-drop, take-take, drop-take}
use Rattle.std.proofs.lemmas.Grind.{flat_map-append}
use Rattle.des_blocks.specs.Bits.{pieces, xor}
use Rattle.des_blocks.specs.Modes.{added, blocks, cbc, fill, joined, last_block, pad, uncbc, zero_block}
use Rattle.des_blocks.specs.Texts.{cbc_text, uncbc_text}
use Rattle.des_blocks.proofs.BitLemmas.{drop-add}
use Rattle.des_core.proofs.ChainLemmas.{joined-pieces, pieces-append}
use Rattle.des_blocks.proofs.XorLemmas.{xor-zeros-right}
use Rattle.text_segments.specs.Segments.{rest_part, whole_part}
use Rattle.key_cells.proofs.ByteLemmas.{length-xor}

-- ---- the whole blocks and the rest

pub take-past : (xs ys : List ℕ) (n : ℕ) → take (length xs + n) (xs ++ ys) ≡ xs ++ take n ys
take-past [] ys n = let same : 0 + n ≡ n = omega arith in ap (λ k. take k ys) same
take-past (x ∷ xs) ys n =
    let more : suc (length xs) + n ≡ suc (length xs + n) = omega arith in
    ap (λ k. take k (x ∷ (xs ++ ys))) more ∙ ap {B = List ℕ} (λ zs. x ∷ zs) (take-past xs ys n)

pub whole_length : (xs : List ℕ) → length (whole_part xs) ≡ length xs / 8 * 8
whole_length xs = length-take (length xs / 8 * 8) xs ∙ omega arith

pub whole_blocks : (xs : List ℕ) → length (whole_part xs) % 8 ≡ 0
whole_blocks xs = omega (arith, whole_length xs)

pub rest_length : (xs : List ℕ) → length (rest_part xs) < 8
rest_length xs = omega (arith, length-drop (length xs / 8 * 8) xs)

pub whole-rest : (xs : List ℕ) → whole_part xs ++ rest_part xs ≡ xs
whole-rest xs = take-append-drop (length xs / 8 * 8) xs

-- ---- blocks

pub blocks-append : (xs ys : List ℕ) → length xs % 8 ≡ 0 → blocks (xs ++ ys) ≡ blocks xs ++ blocks ys
blocks-append xs ys e =
    let count : length (xs ++ ys) / 8 ≡ length xs / 8 + length ys / 8 = omega (arith, length-append xs ys) in
    ap (λ n. pieces n 8 (xs ++ ys)) count ∙ pieces-append (length xs / 8) (length ys / 8) xs ys (omega arith)

-- each block has eight bytes
abbrev pub AreBlocks : List (List ℕ) → Type 0
AreBlocks [] = Unit {0}
AreBlocks (b ∷ bs) = (length b ≡ 8) × AreBlocks bs

pieces-eight : (n : ℕ) (xs : List ℕ) → 8 * n ≤ length xs → AreBlocks (pieces n 8 xs)
unfolding pieces
pieces-eight zero xs h = tt
pieces-eight (suc n) xs h =
    (length-take 8 xs ∙ omega arith, pieces-eight n (drop 8 xs) (omega (arith, length-drop 8 xs)))

pub blocks-eight : (xs : List ℕ) → AreBlocks (blocks xs)
blocks-eight xs = pieces-eight (length xs / 8) xs (omega arith)

pub joined_length : (bs : List (List ℕ)) → AreBlocks bs → length (joined bs) ≡ 8 * length bs
joined_length [] are = refl
joined_length (b ∷ bs) are = omega (arith, length-append b (joined bs), joined_length bs are.1, are.0)

pieces-joined : (bs : List (List ℕ)) → AreBlocks bs → pieces (length bs) 8 (joined bs) ≡ bs
unfolding pieces
pieces-joined [] are = refl
pieces-joined (b ∷ bs) are =
    ap {B = List (List ℕ)} (λ p. p ∷ pieces (length bs) 8 (drop 8 (b ++ joined bs))) (take_at b (joined bs) 8 are.0)
    ∙ ap {B = List (List ℕ)} (λ rest. b ∷ pieces (length bs) 8 rest) (drop_at b (joined bs) 8 are.0)
    ∙ ap {B = List (List ℕ)} (λ ps. b ∷ ps) (pieces-joined bs are.1)

-- blocks joined to a text are its blocks
pub blocks-joined : (bs : List (List ℕ)) → AreBlocks bs → blocks (joined bs) ≡ bs
blocks-joined bs are =
    let count : length (joined bs) / 8 ≡ length bs = omega (arith, joined_length bs are) in
    ap (λ n. pieces n 8 (joined bs)) count ∙ pieces-joined bs are

-- a text of whole blocks is its blocks joined
pub joined-blocks : (xs : List ℕ) → length xs % 8 ≡ 0 → joined (blocks xs) ≡ xs
joined-blocks xs e = joined-pieces (length xs / 8) xs (omega arith)

-- ---- the last block

pub last_block-append : (start : List ℕ) (bs cs : List (List ℕ)) → last_block start (bs ++ cs) ≡ last_block (last_block start bs) cs
last_block-append start [] cs = refl
last_block-append start (b ∷ bs) cs = last_block-append b bs cs

pub last_block_length : (start : List ℕ) (bs : List (List ℕ)) → length start ≡ 8 → AreBlocks bs → length (last_block start bs) ≡ 8
last_block_length start [] e are = e
last_block_length start (b ∷ bs) e are = last_block_length b bs are.0 are.1

pub last-none : (start text : List ℕ) → length text ≡ 0 → last_block start (blocks text) ≡ start
unfolding pieces
last-none start [] e = refl
last-none start (x ∷ xs) e = absurd (omega arith)

-- where there is a block, the last eight bytes of the text are the last block
last-joined : (start : List ℕ) (b : List ℕ) (bs : List (List ℕ)) → AreBlocks (b ∷ bs) → drop (length (joined (b ∷ bs)) - 8) (joined (b ∷ bs)) ≡ last_block start (b ∷ bs)
last-joined start b [] are =
    let none : length (b ++ []) - 8 ≡ 0 = omega (arith, length-append {A = ℕ} b [], are.0) in
    ap (λ n. drop n (b ++ [])) none ∙ append-nil b
last-joined start b (c ∷ cs) are =
    let rest = joined (c ∷ cs) in
    let long : length rest ≡ 8 * length (c ∷ cs) = joined_length (c ∷ cs) are.1 in
    let at : length (b ++ rest) - 8 ≡ length b + (length rest - 8) = omega (arith, length-append b rest, long) in
    ap (λ n. drop n (b ++ rest)) at ∙ drop-add b rest (length b) (length rest - 8) refl ∙ last-joined b c cs are.1

pub last-of : (start xs : List ℕ) → length xs % 8 ≡ 0 → 0 < length xs → drop (length xs - 8) xs ≡ last_block start (blocks xs)
last-of start xs whole some = from (blocks xs) (joined-blocks xs whole) (blocks-eight xs) where
  from : (bs : List (List ℕ)) → joined bs ≡ xs → AreBlocks bs → drop (length xs - 8) xs ≡ last_block start bs
  from [] is are = absurd (let long : length xs ≡ 0 = sym (ap (λ (ys : List ℕ). length ys) is) in omega (arith, some))
  from (b ∷ bs) is are = sym (ap (λ (ys : List ℕ). drop (length ys - 8) ys) is) ∙ last-joined start b bs are

-- ---- chains over joined lists of blocks

pub cbc-append : (e : List ℕ → List ℕ) (start : List ℕ) (bs cs : List (List ℕ)) → cbc e start (bs ++ cs) ≡ cbc e start bs ++ cbc e (last_block start (cbc e start bs)) cs
unfolding cbc
cbc-append e start [] cs = refl
cbc-append e start (b ∷ bs) cs = ap {B = List (List ℕ)} (λ out. e (xor b start) ∷ out) (cbc-append e (e (xor b start)) bs cs)

pub uncbc-append : (d : List ℕ → List ℕ) (start : List ℕ) (bs cs : List (List ℕ)) → uncbc d start (bs ++ cs) ≡ uncbc d start bs ++ uncbc d (last_block start bs) cs
unfolding uncbc
uncbc-append d start [] cs = refl
uncbc-append d start (b ∷ bs) cs = ap {B = List (List ℕ)} (λ out. xor (d b) start ∷ out) (uncbc-append d b bs cs)

pub joined-append : (bs cs : List (List ℕ)) → joined (bs ++ cs) ≡ joined bs ++ joined cs
joined-append bs cs = flat_map-append (λ b. b) bs cs

pub cbc_text-append : (e : List ℕ → List ℕ) (start xs ys : List ℕ) → length xs % 8 ≡ 0
    → cbc_text e start (xs ++ ys) ≡ cbc_text e start xs ++ cbc_text e (last_block start (cbc e start (blocks xs))) ys
cbc_text-append e start xs ys whole =
    ap (λ bs. joined (cbc e start bs)) (blocks-append xs ys whole)
    ∙ ap joined (cbc-append e start (blocks xs) (blocks ys))
    ∙ joined-append (cbc e start (blocks xs)) (cbc e (last_block start (cbc e start (blocks xs))) (blocks ys))

pub uncbc_text-append : (d : List ℕ → List ℕ) (start xs ys : List ℕ) → length xs % 8 ≡ 0
    → uncbc_text d start (xs ++ ys) ≡ uncbc_text d start xs ++ uncbc_text d (last_block start (blocks xs)) ys
uncbc_text-append d start xs ys whole =
    ap (λ bs. joined (uncbc d start bs)) (blocks-append xs ys whole)
    ∙ ap joined (uncbc-append d start (blocks xs) (blocks ys))
    ∙ joined-append (uncbc d start (blocks xs)) (uncbc d (last_block start (blocks xs)) (blocks ys))

-- the last block of a chain over joined texts
pub last-cbc : (e : List ℕ → List ℕ) (start xs ys : List ℕ) → length xs % 8 ≡ 0
    → last_block start (cbc e start (blocks (xs ++ ys)))
    ≡ last_block (last_block start (cbc e start (blocks xs))) (cbc e (last_block start (cbc e start (blocks xs))) (blocks ys))
last-cbc e start xs ys whole =
    ap (λ bs. last_block start (cbc e start bs)) (blocks-append xs ys whole)
    ∙ ap (last_block start) (cbc-append e start (blocks xs) (blocks ys))
    ∙ last_block-append start (cbc e start (blocks xs)) (cbc e (last_block start (cbc e start (blocks xs))) (blocks ys))

-- each block that a chain gives has eight bytes
pub cbc-eight : (e : List ℕ → List ℕ) → ((block : List ℕ) → length (e block) ≡ 8) → (start : List ℕ) (bs : List (List ℕ)) → AreBlocks (cbc e start bs)
unfolding cbc
cbc-eight e eight start [] = tt
cbc-eight e eight start (b ∷ bs) = (eight (xor b start), cbc-eight e eight (e (xor b start)) bs)

pub uncbc-eight : (d : List ℕ → List ℕ) → ((block : List ℕ) → length (d block) ≡ 8) → (start : List ℕ) (bs : List (List ℕ)) → length start ≡ 8 → AreBlocks bs → AreBlocks (uncbc d start bs)
unfolding uncbc
uncbc-eight d eight start [] e are = tt
uncbc-eight d eight start (b ∷ bs) e are =
    (length-xor (d b) start (eight b ∙ sym e) ∙ eight b, uncbc-eight d eight b bs are.0 are.1)

uncbc-count : (d : List ℕ → List ℕ) (start : List ℕ) (bs : List (List ℕ)) → length (uncbc d start bs) ≡ length bs
unfolding uncbc
uncbc-count d start [] = refl
uncbc-count d start (b ∷ bs) = ap suc (uncbc-count d b bs)

pieces-count : (n : ℕ) (xs : List ℕ) → length (pieces n 8 xs) ≡ n
unfolding pieces
pieces-count zero xs = refl
pieces-count (suc n) xs = ap suc (pieces-count n (drop 8 xs))

pub uncbc_text_length : (d : List ℕ → List ℕ) → ((block : List ℕ) → length (d block) ≡ 8) → (start xs : List ℕ) → length start ≡ 8 → length (uncbc_text d start xs) ≡ length xs / 8 * 8
uncbc_text_length d eight start xs e =
    omega (arith, joined_length (uncbc d start (blocks xs)) (uncbc-eight d eight start (blocks xs) e (blocks-eight xs)), uncbc-count d start (blocks xs), pieces-count (length xs / 8) xs)

-- ---- filled and padded texts

-- what is put at the end of a text hangs on its bytes after whole blocks alone
pub fill-append : (xs ys : List ℕ) → length xs % 8 ≡ 0 → fill (xs ++ ys) ≡ xs ++ fill ys
fill-append xs ys whole =
    let same : (8 - length (xs ++ ys) % 8) % 8 ≡ (8 - length ys % 8) % 8 = omega (arith, length-append xs ys) in
    ap (λ n. (xs ++ ys) ++ replicate n 0) same ∙ append_assoc xs ys (replicate ((8 - length ys % 8) % 8) 0)

pub pad-append : (xs ys : List ℕ) → length xs % 8 ≡ 0 → pad (xs ++ ys) ≡ xs ++ pad ys
unfolding pad
pad-append xs ys whole =
    let same : added (xs ++ ys) ≡ added ys = omega (arith, length-append xs ys) in
    ap (λ n. ((xs ++ ys) ++ replicate (n - 1) 0) ++ n ∷ []) same
    ∙ ap (λ zs. zs ++ added ys ∷ []) (append_assoc xs ys (replicate (added ys - 1) 0))
    ∙ append_assoc xs (ys ++ replicate (added ys - 1) 0) (added ys ∷ [])

fill-none : (xs : List ℕ) → length xs % 8 ≡ 0 → fill xs ≡ xs
fill-none xs whole =
    let none : (8 - length xs % 8) % 8 ≡ 0 = omega arith in
    ap (λ n. xs ++ replicate n 0) none ∙ append-nil xs

pub fill_length : (xs : List ℕ) → length (fill xs) ≡ (length xs + 7) / 8 * 8
fill_length xs =
    omega (arith, length-append xs (replicate ((8 - length xs % 8) % 8) 0), length-replicate {A = ℕ} ((8 - length xs % 8) % 8) 0)

-- ---- a chain from zeros over a text whose first block is combined with a start

first_block : (x rest : List ℕ) → length x ≡ 8 → blocks (x ++ rest) ≡ x ∷ blocks rest
unfolding pieces
first_block x rest e =
    let one : length x / 8 ≡ 1 = omega arith in
    blocks-append x rest (omega arith)
    ∙ ap (λ bs. bs ++ blocks rest) (ap (λ n. pieces n 8 x) one ∙ ap {B = List (List ℕ)} (λ b. b ∷ []) (take_all 8 x (omega arith)))

begin-zeros : (e : List ℕ → List ℕ) (start p : List ℕ) (ps : List (List ℕ)) → length (xor p start) ≡ 8
    → last_block zero_block (cbc e zero_block (xor p start ∷ ps)) ≡ last_block start (cbc e start (p ∷ ps))
unfolding cbc
begin-zeros e start p ps eight =
    ap (λ x. last_block (e x) (cbc e (e x) ps)) (xor-zeros-right 8 (xor p start) eight)

pub combined : (e : List ℕ → List ℕ) (start text : List ℕ) → length start ≡ 8 → length text % 8 ≡ 0 → 8 ≤ length text
    → last_block zero_block (cbc e zero_block (blocks (fill (xor (take 8 text) start ++ drop 8 text)))) ≡ last_block start (cbc e start (blocks text))
combined e start text eight whole some =
    let p = take 8 text in
    let rest = drop 8 text in
    let p_long : length p ≡ 8 = length-take 8 text ∙ omega arith in
    let x_long : length (xor p start) ≡ 8 = length-xor p start (p_long ∙ sym eight) ∙ p_long in
    let all_whole : length (xor p start ++ rest) % 8 ≡ 0 = omega (arith, length-append (xor p start) rest, length-drop 8 text) in
    ap (λ xs. last_block zero_block (cbc e zero_block (blocks xs))) (fill-none (xor p start ++ rest) all_whole)
    ∙ ap (λ bs. last_block zero_block (cbc e zero_block bs)) (first_block (xor p start) rest x_long)
    ∙ begin-zeros e start p (blocks rest) x_long
    ∙ ap (λ bs. last_block start (cbc e start bs)) (sym (first_block p rest p_long) ∙ ap blocks (take-append-drop 8 text))

-- the same for the first bytes of a text
pub combined-front : (text start : List ℕ) (n : ℕ) → 8 ≤ n → n ≤ length text → length start ≡ 8
    → take n (xor (take 8 text) start ++ drop 8 text) ≡ xor (take 8 (take n text)) start ++ drop 8 (take n text)
combined-front text start n some within eight =
    let x = xor (take 8 text) start in
    let p_long : length (take 8 text) ≡ 8 = length-take 8 text ∙ omega arith in
    let x_long : length x ≡ 8 = length-xor (take 8 text) start (p_long ∙ sym eight) ∙ p_long in
    let at : n ≡ length x + (n - 8) = omega (arith, x_long) in
    let eights : n ≡ 8 + (n - 8) = omega arith in
    ap (λ k. take k (x ++ drop 8 text)) at
    ∙ take-past x (drop 8 text) (n - 8)
    ∙ sym (ap (λ p. xor p start ++ drop 8 (take n text)) (take-take 8 n text some)
    ∙ ap (λ rest. x ++ rest) (ap (λ k. drop 8 (take k text)) eights ∙ drop-take 8 (n - 8) text))

pub chain-none : (e : List ℕ → List ℕ) (start text : List ℕ) → length text ≡ 0 → last_block start (cbc e start (blocks text)) ≡ start
unfolding pieces cbc
chain-none e start [] none = refl
chain-none e start (x ∷ xs) none = absurd (omega arith)
