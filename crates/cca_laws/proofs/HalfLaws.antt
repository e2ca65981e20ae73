-- Generated keys with unique halves.
use Rattle.std.proofs.Common.{◌≡◌, ℕ, zero, suc, ◌+◌, ◌-◌, ◌*◌, ◌/◌, ◌≤◌, Bool, true, false, ◌&&◌, List, [], ◌∷◌, ◌++◌, length, map, take, drop, Option, None, Some, refl, sym, ap, ap₂, ◌∙◌, codes, arith}
use Rattle.std.specs.Prelude.{if◌then◌else◌, nat_le}
use Rattle.std.specs.List.{list_all}
use Rattle.std.specs.Str.{bytes_eq}
use Rattle.std.proofs.lemmas.Bool.{cond-false, cond-true, false_from_ne_true}
use Rattle.std.proofs.lemmas.List.{drop-drop, drop_at, length-append, length-drop, length-map, length-take-le, map-append, take_all, take_at}
use Rattle.cca_vectors.specs.Vectors.{form_of, left_of, left_of_unique, right_of, right_of_unique}
use Rattle.cca_vectors.specs.declared.key_length.Length.{Length}
use Rattle.cca_vectors.specs.declared.key_length.Length.TheVariants.{Unique}
use Rattle.cca_vectors.specs.declared.key_type.KeyType.{KeyType}
use Rattle.cca_vectors.specs.declared.key_type.KeyType.TheVariants.{Data, Datac, Datam, Datamv, Cipher, Encipher, Decipher, Mac, Macver, Exporter, Importer, Okeyxlat, Ikeyxlat}
use Rattle.verb_rules.specs.Parity.{odd_byte}
use Rattle.key_transport.specs.Generated.{HasKeyLength, generated_vector}
use Rattle.key_transport.specs.UniqueHalves.{halves_drawn, is_same_half, key_drawn, key_taken, pieces, repeats}
use Rattle.verb_script.specs.Grammar.{Request}
use Rattle.verb_script.specs.declared.rows.RequestName.{RequestName}
use Rattle.verb_script.specs.declared.rows.RequestName.TheVariants.{CsnbkgnOp, CsnbkgnPair, CsnbkgnOut}
use Rattle.cca_machine.specs.Draws.{KeyBytes, draw_of, length_in}
use Rattle.cca_machine.specs.Verdict.{Refusal, draw_verdict, or_last, refusal}
use Rattle.cca_laws.specs.UniqueKeys.{HasUniqueHalves, generates}

-- ---- the right halves that are drawn

pub some_half : (n : ℕ) (left ahead : List ℕ) → 1 ≤ halves_drawn (suc n) left ahead
some_half n left ahead = by_test (is_same_half left (take 8 ahead)) refl
  where
    by_test : (t : Bool) → is_same_half left (take 8 ahead) ≡ t → 1 ≤ halves_drawn (suc n) left ahead
    by_test true same = omega (arith, cond-true (is_same_half left (take 8 ahead)) (1 + halves_drawn n left (drop 8 ahead)) 1 same)
    by_test false apart = omega (arith, cond-false (is_same_half left (take 8 ahead)) (1 + halves_drawn n left (drop 8 ahead)) 1 apart)

-- each of n pieces is the same as the left half, and so many right halves are drawn
abbrev AreAllSame : ℕ → List ℕ → List ℕ → Type 0
AreAllSame n left ahead = (list_all (is_same_half left) (pieces n ahead) ≡ true) × (halves_drawn n left ahead ≡ n)

-- a right half that differs is the last one
apart_last : (n : ℕ) (left ahead : List ℕ) → is_same_half left (take 8 ahead) ≡ false → length ahead ≡ 8 * halves_drawn (suc n) left ahead
    → is_same_half left (drop (length ahead - 8) ahead) ≡ false
apart_last n left ahead apart long =
    let one : halves_drawn (suc n) left ahead ≡ 1 = cond-false (is_same_half left (take 8 ahead)) (1 + halves_drawn n left (drop 8 ahead)) 1 apart in
    let none : length ahead - 8 ≡ 0 = omega (arith, long, one) in
    ap (λ k. is_same_half left (drop k ahead)) none
    ∙ (ap (is_same_half left) (sym (take_all 8 ahead (omega (arith, long, one)))) ∙ apart)

-- where the last right half is the same, all of them are
same_last : (n : ℕ) (left ahead : List ℕ) → length ahead ≡ 8 * halves_drawn (suc n) left ahead → is_same_half left (drop (length ahead - 8) ahead) ≡ true
    → AreAllSame (suc n) left ahead
same_last zero left ahead long last = by_test (is_same_half left (take 8 ahead)) refl
  where
    by_test : (t : Bool) → is_same_half left (take 8 ahead) ≡ t → AreAllSame 1 left ahead
    by_test false apart = let differs = apart_last 0 left ahead apart long in cc
    by_test true same = (
      ap (λ b. b && true) same,
      cond-true (is_same_half left (take 8 ahead)) (1 + halves_drawn 0 left (drop 8 ahead)) 1 same,
    )
same_last (suc n) left ahead long last = by_test (is_same_half left (take 8 ahead)) refl (same_last n left (drop 8 ahead))
  where
    by_test : (t : Bool) → is_same_half left (take 8 ahead) ≡ t
        → (length (drop 8 ahead) ≡ 8 * halves_drawn (suc n) left (drop 8 ahead) → is_same_half left (drop (length (drop 8 ahead) - 8) (drop 8 ahead)) ≡ true
        → AreAllSame (suc n) left (drop 8 ahead))
        → AreAllSame (suc (suc n)) left ahead
    by_test false apart later = let differs = apart_last (suc n) left ahead apart long in cc
    by_test true same later =
        let more : halves_drawn (suc (suc n)) left ahead ≡ 1 + halves_drawn (suc n) left (drop 8 ahead) =
        cond-true (is_same_half left (take 8 ahead)) (1 + halves_drawn (suc n) left (drop 8 ahead)) 1 same in
        let some : 1 ≤ halves_drawn (suc n) left (drop 8 ahead) = some_half n left (drop 8 ahead) in
        let rest : length (drop 8 ahead) ≡ 8 * halves_drawn (suc n) left (drop 8 ahead) = length-drop 8 ahead ∙ omega (arith, long, more) in
        let place : 8 + (length (drop 8 ahead) - 8) ≡ length ahead - 8 = omega (arith, long, more, rest, some) in
        let there : drop (length (drop 8 ahead) - 8) (drop 8 ahead) ≡ drop (length ahead - 8) ahead =
        drop-drop (length (drop 8 ahead) - 8) 8 ahead ∙ ap (λ k. drop k ahead) place in
        let others : AreAllSame (suc n) left (drop 8 ahead) = later rest (ap (is_same_half left) there ∙ last) in
        (ap₂ (λ (a b : Bool). a && b) same others.0, more ∙ (ap (λ k. 1 + k) others.1 ∙ omega arith))

-- ---- the key that is made of them

-- the bytes of the key, where one can be made
pub drawn_apart : (drawn : List ℕ) → length drawn ≡ key_taken Unique drawn → repeats Unique drawn ≡ false
    → is_same_half (take 8 drawn) (drop (length drawn - 8) drawn) ≡ false
drawn_apart drawn long differ = false_from_ne_true _ same_too
  where
    same_too : is_same_half (take 8 drawn) (drop (length drawn - 8) drawn) ≡ true → ⊥
    same_too same =
        let left : List ℕ = take 8 drawn in
        let ahead : List ℕ = drop 8 drawn in
        let some : 1 ≤ halves_drawn 8 left ahead = some_half 7 left ahead in
        let size : length ahead ≡ 8 * halves_drawn 8 left ahead = length-drop 8 drawn ∙ omega (arith, long) in
        let place : 8 + (length ahead - 8) ≡ length drawn - 8 = omega (arith, long, size, some) in
        let there : drop (length ahead - 8) ahead ≡ drop (length drawn - 8) drawn = drop-drop (length ahead - 8) 8 drawn ∙ ap (λ k. drop k drawn) place in
        let all : AreAllSame 8 left ahead = same_last 7 left ahead size (ap (is_same_half left) there ∙ same) in
        let whole : length drawn ≡ 72 = omega (arith, long, all.1) in
        let repeated : repeats Unique drawn ≡ true = ap₂ (λ (a b : Bool). a && b) (ap (nat_le 72) whole) all.0 in cc

-- the parity of a byte doesn't matter
halved : (byte : ℕ) → odd_byte byte / 2 ≡ byte / 2
halved byte = omega arith

pub all_halved : (bytes : List ℕ) → map (λ byte. byte / 2) (map odd_byte bytes) ≡ map (λ byte. byte / 2) bytes
all_halved [] = refl
all_halved (byte ∷ bytes) = ap₂ (λ (b : ℕ) (bs : List ℕ). b ∷ bs) (halved byte) (all_halved bytes)

same_odd : (one other : List ℕ) → is_same_half (map odd_byte one) (map odd_byte other) ≡ is_same_half one other
same_odd one other = ap₂ bytes_eq (all_halved one) (all_halved other)

-- a key of two halves of 8 bytes each
apart_odd : (left right : List ℕ) → length left ≡ 8 → length right ≡ 8 → is_same_half left right ≡ false
    → (length (map odd_byte (left ++ right)) ≡ 16) × HasUniqueHalves (map odd_byte (left ++ right))
apart_odd left right left_long right_long apart =
    let size : length (map odd_byte (left ++ right)) ≡ 16 =
    length-map (left ++ right) odd_byte ∙ (length-append left right ∙ omega (arith, left_long, right_long)) in
    let eight : length (map odd_byte left) ≡ 8 = length-map left odd_byte ∙ left_long in
    let first : take 8 (map odd_byte (left ++ right)) ≡ map odd_byte left =
    ap (take 8) (map-append odd_byte left right) ∙ take_at (map odd_byte left) (map odd_byte right) 8 eight in
    let second : drop 8 (map odd_byte (left ++ right)) ≡ map odd_byte right =
    ap (drop 8) (map-append odd_byte left right) ∙ drop_at (map odd_byte left) (map odd_byte right) 8 eight in
    (size, ap₂ is_same_half first second ∙ (same_odd left right ∙ apart))

-- the key that is made of them has 16 bytes, and unique halves
pub unique_key : (drawn : List ℕ) → length drawn ≡ key_taken Unique drawn → repeats Unique drawn ≡ false
    → (length (map odd_byte (key_drawn Unique drawn)) ≡ 16) × HasUniqueHalves (map odd_byte (key_drawn Unique drawn))
unique_key drawn long differ =
    let some : 1 ≤ halves_drawn 8 (take 8 drawn) (drop 8 drawn) = some_half 7 (take 8 drawn) (drop 8 drawn) in
    apart_odd (take 8 drawn) (drop (length drawn - 8) drawn) (length-take-le 8 drawn (omega (arith, long)))
    (length-drop (length drawn - 8) drawn ∙ omega (arith, long, some)) (drawn_apart drawn long differ)

-- ---- the request

pub draws_key : (name : RequestName) (r : Request) → generates name ≡ true → draw_of name r ≡ KeyBytes (length_in r)
draws_key CsnbkgnOp r is = refl
draws_key CsnbkgnPair r is = refl
draws_key CsnbkgnOut r is = refl
draws_key _ r is = cc is

-- the last rule has passed
pub not_repeated : (key_length : Length) (before : Option Refusal) (drawn : List ℕ) → before ≡ None → or_last before (draw_verdict (KeyBytes key_length) drawn) ≡ None
    → repeats key_length drawn ≡ false
not_repeated key_length (Some r) drawn none is = cc none
not_repeated key_length None drawn none is = by_test (repeats key_length drawn) refl
  where
    by_test : (t : Bool) → repeats key_length drawn ≡ t → repeats key_length drawn ≡ false
    by_test false same = same
    by_test true same = let broken = ap (λ t. or_last None (if t then Some (refusal 34 (codes "length")) else None)) same in cc

-- ---- the control vector

pub forms_unique : (kind : KeyType) → HasKeyLength kind Unique
    → (form_of (left_of (generated_vector kind Unique)) ≡ left_of_unique) × (form_of (right_of (generated_vector kind Unique)) ≡ right_of_unique)
forms_unique Data has = (refl, refl)
forms_unique Datac has = (refl, refl)
forms_unique Datam has = (refl, refl)
forms_unique Datamv has = (refl, refl)
forms_unique Cipher has = cc has
forms_unique Encipher has = cc has
forms_unique Decipher has = cc has
forms_unique Mac has = (refl, refl)
forms_unique Macver has = (refl, refl)
forms_unique Exporter has = (refl, refl)
forms_unique Importer has = (refl, refl)
forms_unique Okeyxlat has = (refl, refl)
forms_unique Ikeyxlat has = (refl, refl)
