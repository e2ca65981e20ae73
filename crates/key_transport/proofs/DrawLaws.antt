-- How many random bytes a generated key takes, and when none can be made of them.
use Rattle.std.proofs.Common.{◌≡◌, ℕ, zero, suc, ◌+◌, ◌*◌, ◌≤◌, ◌<◌, true, false, ◌&&◌, ◌⊎◌, inl, inr, List, ◌∷◌, ◌++◌, length, take, drop, refl, sym, ap, ◌∙◌, arith}
use Rattle.std.specs.Prelude.{nat_le}
use Rattle.std.specs.List.{list_all}
use Rattle.std.proofs.lemmas.Bool.{and_left, and_parts, and_right, cases_Bool, cases_lt, false_from_ne_true, le-leb, lt-leb}
use Rattle.std.proofs.lemmas.List.{length-drop, length-take-le, take_all, take-append-le, take-take, drop-append-le, drop-take}
use Rattle.cca_vectors.specs.declared.key_length.Length.{Length}
use Rattle.cca_vectors.specs.declared.key_length.Length.TheVariants.{Eight, Sixteen, Unique}
use Rattle.key_transport.specs.UniqueHalves.{is_same_half, pieces, are_repeated, repeats, halves_drawn, key_taken}
use Rattle.key_transport.proofs.HalfLemmas.{more_where_same, last_where_apart}

-- ---- right halves

-- bytes that are just enough for the right halves that they begin with: what follows them changes nothing
halves_front : (n : ℕ) (left ahead rest : List ℕ) → length ahead ≡ 8 * halves_drawn n left ahead → halves_drawn n left (ahead ++ rest) ≡ halves_drawn n left ahead
halves_front zero left ahead rest long = refl
halves_front (suc n) left ahead rest long =
    let begins : 8 ≤ length ahead → take 8 (ahead ++ rest) ≡ take 8 ahead = λ h. take-append-le 8 ahead rest h in
    elim (cases_Bool (is_same_half left (take 8 ahead))) [
      | inl same ↦
          let more = more_where_same n left ahead same in
          let enough : 8 ≤ length ahead = omega (arith, long, more) in
          let deeper : length (drop 8 ahead) ≡ 8 * halves_drawn n left (drop 8 ahead) = length-drop 8 ahead ∙ omega (arith, long, more) in
          more_where_same n left (ahead ++ rest) (ap (is_same_half left) (begins enough) ∙ same)
          ∙ (ap (λ r. 1 + halves_drawn n left r) (drop-append-le 8 ahead rest enough)
          ∙ (ap (λ k. 1 + k) (halves_front n left (drop 8 ahead) rest deeper)
          ∙ sym more))
      | inr apart ↦
          let last = last_where_apart n left ahead apart in
          let enough : 8 ≤ length ahead = omega (arith, long, last) in
          last_where_apart n left (ahead ++ rest) (ap (is_same_half left) (begins enough) ∙ apart) ∙ sym last
    ]

-- there are n at most
halves_most : (n : ℕ) (left ahead : List ℕ) → halves_drawn n left ahead ≤ n
halves_most zero left ahead = omega arith
halves_most (suc n) left ahead =
    elim (cases_Bool (is_same_half left (take 8 ahead))) [
      | inl same ↦ omega (arith, more_where_same n left ahead same, halves_most n left (drop 8 ahead))
      | inr apart ↦ omega (arith, last_where_apart n left ahead apart)
    ]

-- all n, where each is the same as the left one
halves_same : (n : ℕ) (left ahead : List ℕ) → list_all (is_same_half left) (pieces n ahead) ≡ true → halves_drawn n left ahead ≡ n
halves_same zero left ahead same = refl
halves_same (suc n) left ahead same =
    let parts = and_parts (is_same_half left (take 8 ahead)) (list_all (is_same_half left) (pieces n (drop 8 ahead))) same in
    omega (arith, more_where_same n left ahead parts.0, halves_same n left (drop 8 ahead) parts.1)

-- the pieces don't hang on what follows them
pieces_front : (n : ℕ) (ahead : List ℕ) → pieces n (take (8 * n) ahead) ≡ pieces n ahead
pieces_front zero ahead = refl
pieces_front (suc n) ahead =
    let size : 8 * suc n ≡ 8 + 8 * n = omega arith in
    ap (λ k. take 8 (take k ahead) ∷ pieces n (drop 8 (take k ahead))) size
    ∙ (ap (λ piece. piece ∷ pieces n (drop 8 (take (8 + 8 * n) ahead))) (take-take 8 (8 + 8 * n) ahead (omega arith))
    ∙ ap (λ rest. take 8 ahead ∷ rest) (ap (pieces n) (drop-take 8 (8 * n) ahead) ∙ pieces_front n (drop 8 ahead)))

-- ---- keys with unique halves

front_of_unique : (drawn rest : List ℕ) → length drawn ≡ key_taken Unique drawn → key_taken Unique (drawn ++ rest) ≡ key_taken Unique drawn
front_of_unique drawn rest long =
    let enough : 8 ≤ length drawn = omega (arith, long) in
    let right : length (drop 8 drawn) ≡ 8 * halves_drawn 8 (take 8 drawn) (drop 8 drawn) = length-drop 8 drawn ∙ omega (arith, long) in
    ap (λ l. 8 + 8 * halves_drawn 8 l (drop 8 (drawn ++ rest))) (take-append-le 8 drawn rest enough)
    ∙ (ap (λ r. 8 + 8 * halves_drawn 8 (take 8 drawn) r) (drop-append-le 8 drawn rest enough)
    ∙ ap (λ k. 8 + 8 * k) (halves_front 8 (take 8 drawn) (drop 8 drawn) rest right))

-- of the bytes that are taken the right halves are repeated where they are so of all bytes
again_at : (random : List ℕ) (n : ℕ) → halves_drawn 8 (take 8 random) (drop 8 random) ≡ n → 8 + 8 * n < length random → (n < 8) ⊎ (n ≡ 8) → are_repeated (take (8 + 8 * n) random) ≡ are_repeated random
again_at random n count more (inl few) =
    let left = take 8 random in
    let long : length (take (8 + 8 * n) random) ≡ 8 + 8 * n = length-take-le (8 + 8 * n) random (omega arith) in
    let short : nat_le 72 (length (take (8 + 8 * n) random)) ≡ false = lt-leb 72 (length (take (8 + 8 * n) random)) (omega (arith, long)) in
    let differ : list_all (is_same_half left) (pieces 8 (drop 8 random)) ≡ false =
    false_from_ne_true (list_all (is_same_half left) (pieces 8 (drop 8 random))) (λ same. omega (arith, halves_same 8 left (drop 8 random) same, count, few)) in
    and_left _ _ short ∙ sym (and_right _ _ differ)
again_at random n count more (inr eight) =
    let all : 8 + 8 * n ≡ 72 = omega arith in
    let long : length (take 72 random) ≡ 72 = length-take-le 72 random (omega arith) in
    let enough : nat_le 72 (length random) ≡ true = le-leb 72 (length random) (omega arith) in
    ap (λ k. are_repeated (take k random)) all
    ∙ (ap (λ b. b && list_all (is_same_half (take 8 (take 72 random))) (pieces 8 (drop 8 (take 72 random)))) (le-leb 72 (length (take 72 random)) (omega (arith, long)) ∙ sym enough)
    ∙ (ap (λ l. nat_le 72 (length random) && list_all (is_same_half l) (pieces 8 (drop 8 (take 72 random)))) (take-take 8 72 random (omega arith))
    ∙ ap (λ p. nat_le 72 (length random) && list_all (is_same_half (take 8 random)) p)
    (ap (pieces 8) (drop-take 8 64 random) ∙ pieces_front 8 (drop 8 random))))

again_of_unique : (random : List ℕ) → are_repeated (take (key_taken Unique random) random) ≡ are_repeated random
again_of_unique random =
    let n = halves_drawn 8 (take 8 random) (drop 8 random) in
    let most = halves_most 8 (take 8 random) (drop 8 random) in
    elim (cases_lt (8 + 8 * n) (length random)) [
      | inl more ↦ again_at random n refl more (elim (cases_lt n 8) [ inl few ↦ inl few | inr many ↦ inr (omega arith) ])
      | inr all ↦ ap are_repeated (take_all (8 + 8 * n) random all)
    ]

-- ---- keys of each length

-- bytes that are just those that a key takes: as many are taken, whatever follows them
pub taken_front : (key_length : Length) (drawn rest : List ℕ) → length drawn ≡ key_taken key_length drawn → key_taken key_length (drawn ++ rest) ≡ key_taken key_length drawn
taken_front Eight drawn rest long = refl
taken_front Sixteen drawn rest long = refl
taken_front Unique drawn rest long = front_of_unique drawn rest long

-- the bytes that a key takes say already whether none can be made of them
pub taken_again : (key_length : Length) (random : List ℕ) → repeats key_length (take (key_taken key_length random) random) ≡ repeats key_length random
taken_again Eight random = refl
taken_again Sixteen random = refl
taken_again Unique random = again_of_unique random

-- where none can be made, nine halves are taken
pub taken_repeated : (key_length : Length) (random : List ℕ) → repeats key_length random ≡ true → key_taken key_length random ≡ 72
taken_repeated Eight random is = cc
taken_repeated Sixteen random is = cc
taken_repeated Unique random is =
    let parts = and_parts (nat_le 72 (length random)) (list_all (is_same_half (take 8 random)) (pieces 8 (drop 8 random))) is in
    ap (λ k. 8 + 8 * k) (halves_same 8 (take 8 random) (drop 8 random) parts.1)
