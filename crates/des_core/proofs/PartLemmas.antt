-- Texts deciphered in a chain from a place on, part by part.
use Rattle.std.proofs.Common.{◌≡◌, ℕ, zero, suc, ◌+◌, ◌-◌, ◌*◌, ◌/◌, ◌%◌, ◌<◌, ◌≤◌, List, [], ◌∷◌, ◌++◌, length, take, drop, refl, sym, ap, ◌∙◌, arith}
use borrow.Rule.Slice.PartMut.{put_mid}
use Rattle.std.proofs.lemmas.List.{append_assoc, append-nil, drop_at, drop-drop, length-append, length-drop, length-take, nil_from_length, take-append-drop, take_at}
use Rattle.key_cells.specs.declared.schedules.Schedule.{Schedule}
use Rattle.des_blocks.specs.Bits.{bits, pieces, xor}
use Rattle.des_core.specs.Chains.{Hold, part_at, with_part}
use Rattle.des_core.specs.Ciphers.{undone, undone_bytes}
use Rattle.des_core.specs.declared.ciphers.Cipher.{Cipher}
use Rattle.des_core.specs.Lanes.{word}
use Rattle.des_blocks.specs.Modes.{blocks, joined, last_block, uncbc}
use Rattle.des_blocks.specs.Texts.{uncbc_from, uncbc_text}
use Rattle.des_blocks.proofs.BitLemmas.{length-pieces}
use Rattle.des_core.proofs.ChainLemmas.{joined-pieces, length-undone_bytes, pieces-append, pieces-take}
use Rattle.des_core.proofs.LaneChainLemmas.{hold-deciphered, part-last}
use Rattle.key_cells.proofs.ByteLemmas.{length-xor}

-- ---- blocks of eight bytes

last-pieces : (k : ℕ) (start xs : List ℕ) → last_block start (pieces (suc k) 8 xs) ≡ take 8 (drop (8 * k) xs)
unfolding pieces
last-pieces zero start xs = refl
last-pieces (suc k) start xs =
    let e : 8 + 8 * k ≡ 8 * suc k = omega arith in
    last-pieces k (take 8 xs) (drop 8 xs) ∙ ap (take 8) (drop-drop (8 * k) 8 xs ∙ ap (λ n. drop n xs) e)

abbrev AreBlocks : List (List ℕ) → Type 0
AreBlocks [] = Unit {0}
AreBlocks (p ∷ ps) = (length p ≡ 8) × AreBlocks ps

blocks-pieces : (k : ℕ) (xs : List ℕ) → 8 * k ≤ length xs → AreBlocks (pieces k 8 xs)
unfolding pieces
blocks-pieces zero xs h = tt
blocks-pieces (suc k) xs h = (length-take 8 xs ∙ omega arith, blocks-pieces k (drop 8 xs) (omega (arith, length-drop 8 xs)))

length-joined : (ps : List (List ℕ)) → AreBlocks ps → length (joined ps) ≡ 8 * length ps
length-joined [] all = refl
length-joined (p ∷ ps) all = length-append p (joined ps) ∙ omega (arith, all.0, length-joined ps all.1)

-- ---- the chain

uncbc-append : (d : List ℕ → List ℕ) (chain : List ℕ) (ps qs : List (List ℕ)) → uncbc d chain (ps ++ qs) ≡ uncbc d chain ps ++ uncbc d (last_block chain ps) qs
unfolding uncbc
uncbc-append d chain [] qs = refl
uncbc-append d chain (p ∷ ps) qs = ap {B = List (List ℕ)} (λ xs. xor (d p) chain ∷ xs) (uncbc-append d p ps qs)

blocks-uncbc : (d : List ℕ → List ℕ) → ((x : List ℕ) → length (d x) ≡ 8) → (chain : List ℕ) (ps : List (List ℕ)) → length chain ≡ 8 → AreBlocks ps → AreBlocks (uncbc d chain ps)
unfolding uncbc
blocks-uncbc d eight chain [] e all = tt
blocks-uncbc d eight chain (p ∷ ps) e all = (length-xor (d p) chain (eight p ∙ sym e) ∙ eight p, blocks-uncbc d eight p ps all.0 all.1)

length-uncbc : (d : List ℕ → List ℕ) (chain : List ℕ) (ps : List (List ℕ)) → length (uncbc d chain ps) ≡ length ps
unfolding uncbc
length-uncbc d chain [] = refl
length-uncbc d chain (p ∷ ps) = ap suc (length-uncbc d p ps)

blocks-of : (k : ℕ) (part : List ℕ) → length part ≡ 8 * k → blocks part ≡ pieces k 8 part
blocks-of k part e = let count : length part / 8 ≡ k = omega (arith, e) in ap (λ m. pieces m 8 part) count

blocks-append : (k : ℕ) (part rest : List ℕ) → length part ≡ 8 * k → blocks (part ++ rest) ≡ pieces k 8 part ++ blocks rest
blocks-append k part rest e =
    let count : length (part ++ rest) / 8 ≡ k + length rest / 8 = omega (arith, length-append part rest, e) in
    ap (λ m. pieces m 8 (part ++ rest)) count ∙ pieces-append k (length rest / 8) part rest e

joined-append : (ps qs : List (List ℕ)) → joined (ps ++ qs) ≡ joined ps ++ joined qs
joined-append [] qs = refl
joined-append (p ∷ ps) qs = ap {B = List ℕ} (λ xs. p ++ xs) (joined-append ps qs) ∙ sym (append_assoc p (joined ps) (joined qs))

-- ---- a text in two parts

uncbc_text-append : (d : List ℕ → List ℕ) (chain : List ℕ) (k : ℕ) (part rest : List ℕ) → length part ≡ 8 * k
    → uncbc_text d chain (part ++ rest) ≡ uncbc_text d chain part ++ uncbc_text d (last_block chain (pieces k 8 part)) rest
uncbc_text-append d chain k part rest e =
    let ps = pieces k 8 part in
    let next = last_block chain ps in
    ap (λ bs. joined (uncbc d chain bs)) (blocks-append k part rest e)
    ∙ ap joined (uncbc-append d chain ps (blocks rest))
    ∙ joined-append (uncbc d chain ps) (uncbc d next (blocks rest))
    ∙ ap (λ bs. joined (uncbc d chain bs) ++ uncbc_text d next rest) (sym (blocks-of k part e))

length-uncbc_text : (d : List ℕ → List ℕ) → ((x : List ℕ) → length (d x) ≡ 8) → (chain : List ℕ) (k : ℕ) (part : List ℕ) → length chain ≡ 8 → length part ≡ 8 * k
    → length (uncbc_text d chain part) ≡ 8 * k
length-uncbc_text d eight chain k part size e =
    let ps = pieces k 8 part in
    ap (λ bs. length (joined (uncbc d chain bs))) (blocks-of k part e)
    ∙ length-joined (uncbc d chain ps) (blocks-uncbc d eight chain ps size (blocks-pieces k part (omega (arith, e))))
    ∙ ap (λ m. 8 * m) (length-uncbc d chain ps ∙ length-pieces k 8 part)

-- 128 blocks more
pub from-more : (d : List ℕ → List ℕ) → ((x : List ℕ) → length (d x) ≡ 8) → (text chain next new : List ℕ) (at : ℕ) → at + 1024 ≤ length text → length chain ≡ 8
    → next ≡ take 8 (drop (at + 1016) text) → new ≡ with_part text at (uncbc_text d chain (part_at text at))
    → uncbc_from d next (at + 1024) new ≡ uncbc_from d chain at text
from-more d eight text chain next new at h size is put =
    let front = take at text in
    let part = part_at text at in
    let rest = drop (at + 1024) text in
    let out = uncbc_text d chain part in
    let front_long : length front ≡ at = length-take at text ∙ omega arith in
    let part_long : length part ≡ 8 * 128 = length-take 1024 (drop at text) ∙ omega (arith, length-drop at text) in
    let whole : part ++ rest ≡ drop at text = sym (ap (λ xs. part ++ xs) (drop-drop 1024 at text)) ∙ take-append-drop 1024 (drop at text) in
    let out_long : length out ≡ 8 * 128 = length-uncbc_text d eight chain 128 part size part_long in
    let mid_long : length (front ++ out) ≡ at + 1024 = length-append front out ∙ omega (arith, front_long, out_long) in
    let new_is : new ≡ (front ++ out) ++ rest = put ∙ sym (append_assoc front out rest) in
    let done : take (at + 1024) new ≡ front ++ out = ap (take (at + 1024)) new_is ∙ take_at (front ++ out) rest (at + 1024) mid_long in
    let left : drop (at + 1024) new ≡ rest = ap (drop (at + 1024)) new_is ∙ drop_at (front ++ out) rest (at + 1024) mid_long in
    let last : next ≡ last_block chain (pieces 128 8 part) = is ∙ sym (part-last text text at 1024 refl refl) ∙ sym (last-pieces 127 chain part) in
    ap (λ xs. xs ++ uncbc_text d next (drop (at + 1024) new)) done
    ∙ ap (λ xs. (front ++ out) ++ uncbc_text d next xs) left
    ∙ append_assoc front out (uncbc_text d next rest)
    ∙ ap (λ xs. front ++ xs) (ap (λ c. out ++ uncbc_text d c rest) last ∙ sym (uncbc_text-append d chain 128 part rest part_long) ∙ ap (uncbc_text d chain) whole)

pub length-part : (d : List ℕ → List ℕ) → ((x : List ℕ) → length (d x) ≡ 8) → (text chain : List ℕ) (at : ℕ) → at + 1024 ≤ length text → length chain ≡ 8
    → length (with_part text at (uncbc_text d chain (part_at text at))) ≡ length text
length-part d eight text chain at h size =
    let part = part_at text at in
    let part_long : length part ≡ 8 * 128 = length-take 1024 (drop at text) ∙ omega (arith, length-drop at text) in
    let out = uncbc_text d chain part in
    let out_long : length out ≡ 8 * 128 = length-uncbc_text d eight chain 128 part size part_long in
    length-append (take at text) (out ++ drop (at + 1024) text)
    ∙ omega (arith, length-take at text, length-append out (drop (at + 1024) text), out_long, length-drop (at + 1024) text)

-- ---- the end of a text, filled to 128 blocks

-- what stands first of a text that was filled
pub filled-front : (d : List ℕ → List ℕ) → ((x : List ℕ) → length (d x) ≡ 8) → (chain end fill : List ℕ) → length chain ≡ 8 → length end % 8 ≡ 0
    → take (length end) (uncbc_text d chain (end ++ fill)) ≡ uncbc_text d chain end
filled-front d eight chain end fill size whole =
    let k = length end / 8 in
    let long : length end ≡ 8 * k = omega arith in
    let out_long : length (uncbc_text d chain end) ≡ length end = length-uncbc_text d eight chain k end size long ∙ sym long in
    ap (take (length end)) (uncbc_text-append d chain k end fill long)
    ∙ take_at (uncbc_text d chain end) (uncbc_text d (last_block chain (pieces k 8 end)) fill) (length end) out_long

-- what is deciphered of it
pub end-deciphered : (c : Cipher) (keys given : List Schedule) (old new : List (List ℕ)) (chain end fill part filled : List ℕ) (n : ℕ) → n ≡ length end → length chain ≡ 8 → length end % 8 ≡ 0 → given ≡ keys → filled ≡ end ++ fill
    → Hold (λ block. block) old filled → ((k e : ℕ) → k < 64 → e < 2 → bits 64 (word e k new) ≡ undone c given (bits 64 (word e k old)))
    → ((d : List ℕ → List ℕ) → Hold d new filled → part ≡ uncbc_text d chain filled) → take n part ≡ uncbc_text (undone_bytes c keys) chain end
end-deciphered c keys given old new chain end fill part filled n count size whole same is holds words bytes =
    let d = undone_bytes c keys in
    let done = hold-deciphered c keys old new filled holds (λ k e h l. words k e h l ∙ ap (λ ks. undone c ks (bits 64 (word e k old))) same) in
    ap (λ m. take m part) count ∙ ap (take (length end)) (bytes d done ∙ ap (uncbc_text d chain) is) ∙ filled-front d (length-undone_bytes c keys) chain end fill size whole

-- the text with it put back
pub end-put : (text now part out : List ℕ) (at n : ℕ) → n ≡ length now - at → now ≡ text → part ≡ out → put_mid at n now part ≡ take at text ++ out
end-put text now part out at n size is same =
    let none : drop n (drop at now) ≡ [] = nil_from_length (drop n (drop at now)) (length-drop n (drop at now) ∙ omega (arith, size, length-drop at now)) in
    ap (λ xs. take at now ++ (part ++ xs)) none ∙ ap (λ xs. take at now ++ xs) (append-nil part ∙ same) ∙ ap (λ t. take at t ++ out) is

-- ---- pair by pair from a place on

pub pairs-begun : (d : List ℕ → List ℕ) (chain : List ℕ) (n f at : ℕ) (text : List ℕ) → 16 * f ≡ at → length text ≡ 8 * n
    → pieces (2 * f) 8 text ++ uncbc d chain (pieces (n - 2 * f) 8 (drop (8 * (2 * f)) text)) ≡ pieces (2 * f) 8 text ++ uncbc d chain (blocks (drop at text))
pairs-begun d chain n f at text e long =
    let here : 8 * (2 * f) ≡ at = omega arith in
    let left : n - 2 * f ≡ length (drop at text) / 8 = omega (arith, long, length-drop at text) in
    ap (λ k. pieces (2 * f) 8 text ++ uncbc d chain (pieces (n - 2 * f) 8 (drop k text))) here
    ∙ ap (λ k. pieces (2 * f) 8 text ++ uncbc d chain (pieces k 8 (drop at text))) left

pub pairs-done : (f at : ℕ) (text : List ℕ) (ps : List (List ℕ)) → 16 * f ≡ at → at ≤ length text → joined (pieces (2 * f) 8 text ++ ps) ≡ take at text ++ joined ps
pairs-done f at text ps e h =
    let here : 8 * (2 * f) ≡ at = omega arith in
    let size : length (take (8 * (2 * f)) text) ≡ 8 * (2 * f) = length-take (8 * (2 * f)) text ∙ omega arith in
    let front : joined (pieces (2 * f) 8 text) ≡ take at text
    = sym (ap joined (pieces-take (2 * f) text (omega arith))) ∙ joined-pieces (2 * f) (take (8 * (2 * f)) text) size ∙ ap (λ k. take k text) here in
    joined-append (pieces (2 * f) 8 text) ps ∙ ap (λ xs. xs ++ joined ps) front
