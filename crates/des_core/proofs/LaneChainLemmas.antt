-- 128 blocks of a text deciphered in a chain, in place, pair by pair.
use Rattle.std.proofs.Common.{◌≡◌, ℕ, zero, suc, ◌+◌, ◌-◌, ◌*◌, ◌/◌, ◌<◌, ◌≤◌, List, [], ◌∷◌, ◌++◌, length, take, drop, get_or, set, replicate, refl, sym, ap, ◌∙◌, arith, inl, inr, subst}
use Rattle.std.specs.Int.{w64, to_be_bytes}
use Rattle.std.proofs.lemmas.List.{drop_at, drop-drop, drop-take, get_or-set_other, get_or-set_same, length-drop, length-replicate, length-set, length-take, take-take}
use Rattle.std.proofs.lemmas.Bool.{cases_lt}
use borrow.Rule.Slice.PartMut.{put_mid}
use Rattle.key_cells.specs.declared.schedules.Schedule.{Schedule}
use Rattle.des_blocks.specs.Bits.{bits, byte_bits, pieces, to_bytes, xor}
use Rattle.des_blocks.specs.Modes.{blocks, uncbc}
use Rattle.des_blocks.specs.Texts.{put_at, uncbc_text}
use Rattle.des_blocks.proofs.BitLemmas.{drop-add}
use Rattle.des_blocks.proofs.ByteLemmas.{byte_bits-to_be_bytes}
use Rattle.des_core.proofs.ChainLemmas.{bytes-of, length-put, two-more, uncbc-done}
use Rattle.des_core.specs.Chains.{Hold, part_at, with_part}
use Rattle.des_core.specs.Ciphers.{undone, undone_bytes}
use Rattle.des_core.specs.declared.ciphers.Cipher.{Cipher}
use Rattle.des_core.specs.Lanes.{AreVectors, word}
use Rattle.key_cells.proofs.ByteLemmas.{length-xor}

-- deciphered words hold the deciphered blocks
pub hold-deciphered : (c : Cipher) (keys : List Schedule) (old new : List (List ℕ)) (part : List ℕ) → Hold (λ block. block) old part
    → ((k e : ℕ) → k < 64 → e < 2 → bits 64 (word e k new) ≡ undone c keys (bits 64 (word e k old))) → Hold (undone_bytes c keys) new part
hold-deciphered c keys old new part holds is k e h l =
    let block = take 8 (drop (16 * k + 8 * e) part) in
    bytes-of (word e k new) ∙ ap to_bytes (is k e h l ∙ ap (undone c keys) (sym (byte_bits-to_be_bytes (word e k old)) ∙ ap byte_bits (holds k e h l)))

-- ---- the words of a text

-- the pairs of blocks that have been taken
pub record Taking (part : List ℕ) (words : List (List ℕ)) (pair : ℕ) : Type 0 where
  pub size : length words ≡ 64
  pub vectors : AreVectors words
  pub hold : (k e : ℕ) → k < pair → e < 2 → to_be_bytes w64 (word e k words) ≡ take 8 (drop (16 * k + 8 * e) part)

replicate-vectors : (n : ℕ) (v : List ℕ) → length v ≡ 2 → AreVectors (replicate n v)
replicate-vectors zero v e k h = absurd (omega arith)
replicate-vectors (suc n) v e zero h = e
replicate-vectors (suc n) v e (suc k) h = replicate-vectors n v e k (omega arith)

pub taking-begun : (part v : List ℕ) → length v ≡ 2 → Taking part (replicate 64 v) 0
taking-begun part v e = record { size = length-replicate 64 v; vectors = replicate-vectors 64 v e; hold = λ k e h l. absurd (omega arith) }

set-vectors : (ws : List (List ℕ)) (i : ℕ) (v : List ℕ) → length v ≡ 2 → AreVectors ws → AreVectors (set ws i v)
set-vectors [] i v e p k h = absurd (omega arith)
set-vectors (w ∷ ws) zero v e p zero h = e
set-vectors (w ∷ ws) zero v e p (suc k) h = p (suc k) (omega arith)
set-vectors (w ∷ ws) (suc i) v e p zero h = p zero (omega arith)
set-vectors (w ∷ ws) (suc i) v e p (suc k) h = set-vectors ws i v e (λ m g. p (suc m) (omega arith)) k (omega arith)

taken-here : (part : List ℕ) (pair first second e : ℕ) → e < 2 → to_be_bytes w64 first ≡ take 8 (drop (16 * pair) part) → to_be_bytes w64 second ≡ take 8 (drop (16 * pair + 8) part)
    → to_be_bytes w64 (get_or (first ∷ second ∷ []) e 0) ≡ take 8 (drop (16 * pair + 8 * e) part)
taken-here part pair first second zero h p q = let at : 16 * pair ≡ 16 * pair + 8 * 0 = omega arith in p ∙ ap (λ n. take 8 (drop n part)) at
taken-here part pair first second (suc zero) h p q = let at : 16 * pair + 8 ≡ 16 * pair + 8 * 1 = omega arith in q ∙ ap (λ n. take 8 (drop n part)) at
taken-here part pair first second (suc (suc e)) h p q = absurd (omega arith)

pub taking-more : (part : List ℕ) (words : List (List ℕ)) (pair first second : ℕ) → pair < 64 → to_be_bytes w64 first ≡ take 8 (drop (16 * pair) part) → to_be_bytes w64 second ≡ take 8 (drop (16 * pair + 8) part)
    → Taking part words pair → Taking part (set words pair (first ∷ second ∷ [])) (pair + 1)
taking-more part words pair first second h p q before =
    let new : List ℕ = first ∷ second ∷ [] in
    record {
      size = length-set words pair new ∙ before.size;
      vectors = set-vectors words pair new refl before.vectors;
      hold = λ k e g l. elim (cases_lt k pair) [
        | inl below ↦ ap (λ v. to_be_bytes w64 (get_or v e 0)) (get_or-set_other words pair k new [] (λ s. absurd (omega (arith, s)))) ∙ before.hold k e below l
        | inr above ↦
            let s : k ≡ pair = omega arith in
            ap (λ m. to_be_bytes w64 (word e m (set words pair new))) s ∙ ap (λ v. to_be_bytes w64 (get_or v e 0)) (get_or-set_same words pair new [] (omega (arith, before.size)))
            ∙ taken-here part pair first second e l p q ∙ ap (λ m. take 8 (drop (16 * m + 8 * e) part)) (sym s)
      ];
    }

-- ---- pair by pair

-- the pairs that are done, and the chain over those that are left
pub record Chaining (words : List (List ℕ)) (start chain : List ℕ) (old part : List ℕ) (pair : ℕ) : Type 0 where
  pub size : length part ≡ 1024
  pub kept : drop (16 * pair) part ≡ drop (16 * pair) old
  pub last : 0 < pair → chain ≡ take 8 (drop (16 * pair - 8) old)
  pub value : (d : List ℕ → List ℕ) → Hold d words old
      → pieces (2 * pair) 8 part ++ uncbc d chain (pieces (128 - 2 * pair) 8 (drop (8 * (2 * pair)) part)) ≡ uncbc d start (blocks old)

none-done : (xs : List (List ℕ)) (part : List ℕ) → pieces 0 8 part ++ xs ≡ xs
unfolding pieces
none-done xs part = refl

pub chaining-begun : (words : List (List ℕ)) (start old : List ℕ) → length old ≡ 1024 → Chaining words start start old old 0
chaining-begun words start old e = record {
  size = e;
  kept = refl;
  last = λ h. absurd (omega arith);
  value = λ d holds.
      let n : 128 - 2 * 0 ≡ length old / 8 = omega (arith, e) in
      none-done (uncbc d start (pieces (128 - 2 * 0) 8 (drop (8 * (2 * 0)) old))) old ∙ ap (λ k. uncbc d start (pieces k 8 old)) n;
}

drop-put-two : (text x y : List ℕ) (at : ℕ) → at + 16 ≤ length text → length x ≡ 8 → length y ≡ 8 → drop (at + 16) (put_at (put_at text at x) (at + 8) y) ≡ drop (at + 16) text
drop-put-two text x y at h p q =
    let mid = put_at text at x in
    let long = length-put text x at (omega arith) p in
    let front : length (take (at + 8) mid) ≡ at + 8 = length-take (at + 8) mid ∙ omega (arith, long) in
    let first : length (take at text) ≡ at = length-take at text ∙ omega arith in
    let wide : at + 16 ≡ at + 8 + 8 = omega arith in
    let sixteen : at + 8 + 8 ≡ at + 16 = omega arith in
    ap (λ n. drop n (put_at mid (at + 8) y)) wide
    ∙ drop-add (take (at + 8) mid) (y ++ drop (at + 8 + 8) mid) (at + 8) 8 front ∙ drop_at y (drop (at + 8 + 8) mid) 8 q
    ∙ sym (drop-drop 8 (at + 8) mid)
    ∙ ap (drop 8) (drop-add (take at text) (x ++ drop (at + 8) text) at 8 first ∙ drop_at x (drop (at + 8) text) 8 p)
    ∙ drop-drop 8 (at + 8) text ∙ ap (λ n. drop n text) sixteen

pub chaining-more : (words : List (List ℕ)) (start chain old part new next : List ℕ) (pair : ℕ) → pair < 64 → length chain ≡ 8
    → next ≡ take 8 (drop (16 * pair + 8) part)
    → new ≡ put_at (put_at part (16 * pair) (xor (to_be_bytes w64 (word 0 pair words)) chain)) (16 * pair + 8) (xor (to_be_bytes w64 (word 1 pair words)) (take 8 (drop (16 * pair) part)))
    → length old ≡ 1024 → Chaining words start chain old part pair → Chaining words start next old new (pair + 1)
chaining-more words start chain old part new next pair h eight is put long before =
    let at = 16 * pair in
    let a = to_be_bytes w64 (word 0 pair words) in
    let b = to_be_bytes w64 (word 1 pair words) in
    let p = take 8 (drop at part) in
    let q = take 8 (drop (at + 8) part) in
    let p_long : length p ≡ 8 = length-take 8 (drop at part) ∙ omega (arith, length-drop at part, before.size) in
    let x_long : length (xor a chain) ≡ 8 = length-xor a chain (sym eight) in
    let y_long : length (xor b p) ≡ 8 = length-xor b p (sym p_long) in
    let zero_more : 16 * pair + 8 * 0 ≡ at = omega arith in
    let one_more : 16 * pair + 8 * 1 ≡ at + 8 = omega arith in
    let then_at : at + 16 ≡ 16 * (pair + 1) = omega arith in
    let before_last : at + 8 ≡ 16 * (pair + 1) - 8 = omega arith in
    let q_old : q ≡ take 8 (drop (at + 8) old) = ap (take 8) (sym (drop-drop 8 at part) ∙ ap (drop 8) before.kept ∙ drop-drop 8 at old) in
    let size1 : length (put_at part at (xor a chain)) ≡ 1024 = length-put part (xor a chain) at (omega (arith, before.size)) x_long ∙ before.size in
    record {
      size = ap length put ∙ length-put (put_at part at (xor a chain)) (xor b p) (at + 8) (omega (arith, size1)) y_long ∙ size1;
      kept = ap (λ n. drop n new) (sym then_at) ∙ ap (drop (at + 16)) put ∙ drop-put-two part (xor a chain) (xor b p) at (omega (arith, before.size)) x_long y_long
          ∙ sym (drop-drop 16 at part) ∙ ap (drop 16) before.kept ∙ drop-drop 16 at old ∙ ap (λ n. drop n old) then_at;
      last = λ l. is ∙ q_old ∙ ap (λ n. take 8 (drop n old)) before_last;
      value = λ d holds.
          let da : d p ≡ a = ap d (ap (take 8) before.kept) ∙ sym (holds pair 0 h (omega arith) ∙ ap (λ n. d (take 8 (drop n old))) zero_more) in
          let db : d q ≡ b = ap d q_old ∙ sym (holds pair 1 h (omega arith) ∙ ap (λ n. d (take 8 (drop n old))) one_more) in
          two-more d 128 pair part chain next new (uncbc d start (blocks old)) (omega arith) before.size
          (ap (λ m. length (xor m chain)) da ∙ x_long) (ap (λ m. length (xor m p)) db ∙ y_long) is
          (put ∙ sym (ap (λ m. put_at (put_at part at (xor m chain)) (at + 8) (xor b p)) da) ∙ sym (ap (λ m. put_at (put_at part at (xor (d p) chain)) (at + 8) (xor m p)) db))
          (before.value d holds);
    }

pub chaining-done : (words : List (List ℕ)) (start chain old part : List ℕ) (pair : ℕ) → pair ≡ 64 → Chaining words start chain old part pair
    → (d : List ℕ → List ℕ) → Hold d words old → part ≡ uncbc_text d start old
chaining-done words start chain old part pair e last d holds =
    let all : 2 * pair ≡ 128 = omega arith in
    uncbc-done d chain 128 (2 * pair) part (uncbc d start (blocks old)) all last.size (last.value d holds)

-- ---- a part of a text

-- what is deciphered in a part of a text
pub part-deciphered : (c : Cipher) (keys given : List Schedule) (text first then_text : List ℕ) (at n : ℕ) (old new : List (List ℕ)) (chain part : List ℕ) → n ≡ 1024 → given ≡ keys → first ≡ text → then_text ≡ text
    → Hold (λ block. block) old (take n (drop at first))
    → ((k e : ℕ) → k < 64 → e < 2 → bits 64 (word e k new) ≡ undone c given (bits 64 (word e k old)))
    → ((d : List ℕ → List ℕ) → Hold d new (take n (drop at then_text)) → part ≡ uncbc_text d chain (take n (drop at then_text)))
    → part ≡ uncbc_text (undone_bytes c keys) chain (part_at text at)
part-deciphered c keys given text first then_text at n old new chain part size same p q holds words bytes =
    let here : take n (drop at first) ≡ part_at text at = ap (λ m. take m (drop at first)) size ∙ ap (λ t. take 1024 (drop at t)) p in
    let later : take n (drop at then_text) ≡ part_at text at = ap (λ m. take m (drop at then_text)) size ∙ ap (λ t. take 1024 (drop at t)) q in
    let Blocks : List ℕ → Type 0 = λ bytes. Hold (λ block. block) old bytes in
    let Done : List ℕ → Type 0 = λ bytes. Hold (undone_bytes c keys) new bytes in
    let done : Hold (undone_bytes c keys) new (part_at text at)
    = hold-deciphered c keys old new (part_at text at) (subst Blocks here holds) (λ k e h l. words k e h l ∙ ap (λ ks. undone c ks (bits 64 (word e k old))) same) in
    bytes (undone_bytes c keys) (subst Done (sym later) done) ∙ ap (uncbc_text (undone_bytes c keys) chain) later

-- the text with the part put back
pub part-put : (text now part out : List ℕ) (at n : ℕ) → n ≡ 1024 → now ≡ text → part ≡ out → put_mid at n now part ≡ with_part text at out
part-put text now part out at n size is same =
    ap (λ t. put_mid at n t part) is ∙ ap (λ m. take at text ++ (part ++ drop m (drop at text))) size
    ∙ ap (λ p. take at text ++ (p ++ drop 1024 (drop at text))) same ∙ ap (λ t. take at text ++ (out ++ t)) (drop-drop 1024 at text)

-- its last block
pub part-last : (text now : List ℕ) (at n : ℕ) → n ≡ 1024 → now ≡ text → take 8 (drop 1016 (take n (drop at now))) ≡ take 8 (drop (at + 1016) text)
part-last text now at n size is =
    ap (λ t. take 8 (drop 1016 (take n (drop at t)))) is ∙ ap (λ m. take 8 (drop 1016 (take m (drop at text)))) size
    ∙ ap (take 8) (drop-take 1016 8 (drop at text)) ∙ take-take 8 8 (drop 1016 (drop at text)) (omega arith) ∙ ap (take 8) (drop-drop 1016 at text)
