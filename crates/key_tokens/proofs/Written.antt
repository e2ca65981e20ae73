-- A token that is written has its table of places.
use Rattle.std.proofs.Common.{◌≡◌, ℕ, ◌+◌, ◌-◌, ◌%◌, ◌^◌, ◌≤◌, true, List, [], ◌∷◌, ◌++◌, length, get_or, take, drop, leb, refl, sym, ap, ◌∙◌, subst, inl, arith}
use Rattle.std.specs.Prelude.{replicate, slice_range, ⊤}
use Rattle.std.specs.Int.{from_be_bytes, to_be_bytes, w32}
use Rattle.std.specs.List.{fold, list_all}
use Rattle.std.proofs.lemmas.Bool.{and_parts, leb-true}
use Rattle.std.proofs.lemmas.List.{append_assoc, drop-take, drop_at, length-append, length-drop, take-append-drop, take-take, take_all, take_at}
use Rattle.key_cells.specs.Bytes.{IsZero}
use Rattle.cca_vectors.specs.Vectors.{IsValid, left_of, length_of, right_of}
use Rattle.key_tokens.specs.declared.key_token.Token.{Token}
use Rattle.key_tokens.specs.Kinds.{kind_byte}
use Rattle.key_tokens.specs.Layout.{HasPlaces, IsPatternFor, IsToken, Place, contents, layout, made, place, zeros}
use Rattle.key_tokens.specs.Tvv.{tvv_of, word_at, word_places}

pub flag-made : (token : Token) → get_or (made token) 6 0 ≡ 0xc0
unfolding made
flag-made token = refl

-- ---- places in a row

-- each place begins where the one before it ends, and is as long as its content
abbrev pub AreInARow : ℕ → List Place → Type 0
AreInARow at [] = ⊤
AreInARow at (p ∷ places) = (p.first ≡ at) × ((at + length p.content ≡ p.last + 1) × AreInARow (p.last + 1) places)

contents-append : (first second : List Place) → contents (first ++ second) ≡ contents first ++ contents second
contents-append [] second = refl
contents-append (p ∷ places) second =
    ap (λ rest. p.content ++ rest) (contents-append places second) ∙ sym (append_assoc p.content (contents places) (contents second))

piece_between : (front piece rest : List ℕ) (first end : ℕ) → length front ≡ first → first + length piece ≡ end → slice_range (front ++ (piece ++ rest)) first end ≡ piece
piece_between front piece rest first end long ends =
    let size : length piece ≡ end - first = omega arith in
    ap (take (end - first)) (drop_at front (piece ++ rest) first long) ∙ take_at piece rest (end - first) size

places-contents : (front : List ℕ) (at : ℕ) (places : List Place) → length front ≡ at → AreInARow at places → HasPlaces (front ++ contents places) places
places-contents front at [] long row = tt
places-contents front at (p ∷ places) long row = (
  piece_between front p.content (contents places) p.first (p.last + 1) (long ∙ sym row.0) (ap (λ first. first + length p.content) row.0 ∙ row.1.0),
  subst (λ bytes. HasPlaces bytes places) (append_assoc front p.content (contents places))
      (places-contents (front ++ p.content) (p.last + 1) places (length-append front p.content ∙ ap (λ n. n + length p.content) long ∙ row.1.0) row.1.1),
)

-- ---- the words before the validation value

word_in_front : (bytes : List ℕ) (at : ℕ) → at ≤ 56 → word_at (take 60 bytes) at ≡ word_at bytes at
word_in_front bytes at low =
    let whole : 60 ≡ at + (60 - at) = omega arith in
    let four : at + 4 - at ≤ 60 - at = omega arith in
    ap (from_be_bytes w32)
    (ap (λ n. take (at + 4 - at) (drop at (take n bytes))) whole
    ∙ ap (take (at + 4 - at)) (drop-take at (60 - at) bytes)
    ∙ take-take (at + 4 - at) (60 - at) (drop at bytes) four)

sum_of_front : (bytes places : List ℕ) (so_far : ℕ) → list_all (λ at. leb at 56) places ≡ true
    → fold (λ sum at. sum + word_at (take 60 bytes) at) so_far places ≡ fold (λ sum at. sum + word_at bytes at) so_far places
sum_of_front bytes [] so_far low = refl
sum_of_front bytes (at ∷ places) so_far low =
    let parts : (leb at 56 ≡ true) × (list_all (λ a. leb a 56) places ≡ true) = and_parts (leb at 56) (list_all (λ a. leb a 56) places) low in
    ap (λ w. fold (λ sum a. sum + word_at (take 60 bytes) a) (so_far + w) places) (word_in_front bytes at (leb-true at 56 parts.0))
    ∙ sum_of_front bytes places (so_far + word_at bytes at) parts.1

pub tvv_of-front : (bytes : List ℕ) → tvv_of (take 60 bytes) ≡ tvv_of bytes
unfolding tvv_of
tvv_of-front bytes = ap (λ s. s % 2 ^ 32) (sum_of_front bytes word_places 0 refl)

-- ---- a vector by its halves

pub halves_joined : (vector : List ℕ) → length vector ≡ 16 → left_of vector ++ right_of vector ≡ vector
halves_joined vector long =
    ap (λ back. take 8 vector ++ back) (take_all 8 (drop 8 vector) (simp length-drop (omega arith))) ∙ take-append-drop 8 vector

-- ---- pieces put one behind another

pub joined : (p1 p2 p3 p4 p5 p6 p7 p8 t1 t2 t3 t4 t5 t6 t7 t8 : List ℕ)
    → t1 ≡ p1 → t2 ≡ t1 ++ p2 → t3 ≡ t2 ++ p3 → t4 ≡ t3 ++ p4 → t5 ≡ t4 ++ p5 → t6 ≡ t5 ++ p6 → t7 ≡ t6 ++ p7 → t8 ≡ t7 ++ p8
    → t8 ≡ p1 ++ (p2 ++ (p3 ++ (p4 ++ (p5 ++ (p6 ++ (p7 ++ p8))))))
joined p1 p2 p3 p4 p5 p6 p7 p8 t1 t2 t3 t4 t5 t6 t7 t8 e1 e2 e3 e4 e5 e6 e7 e8 =
    e8 ∙ ap (λ t. t ++ p8) (e7 ∙ ap (λ t. t ++ p7) (e6 ∙ ap (λ t. t ++ p6) (e5 ∙ ap (λ t. t ++ p5) (e4 ∙ ap (λ t. t ++ p4)
    (e3 ∙ ap (λ t. t ++ p3) (e2 ∙ ap (λ t. t ++ p2) e1))))))
    ∙ flat p1 p2 p3 p4 p5 p6 p7 p8
  where
    flat : (p1 p2 p3 p4 p5 p6 p7 p8 : List ℕ) → p1 ++ p2 ++ p3 ++ p4 ++ p5 ++ p6 ++ p7 ++ p8 ≡ p1 ++ (p2 ++ (p3 ++ (p4 ++ (p5 ++ (p6 ++ (p7 ++ p8))))))
    flat p1 p2 p3 p4 p5 p6 p7 p8 = simp append_assoc

-- the pieces with a vector by its halves
pub with_whole_vector : (byte kind : ℕ) (pattern left right first second vector value tvv : List ℕ) → byte ≡ kind → first ++ second ≡ vector → value ≡ tvv
    → byte ∷ 0 ∷ 0 ∷ 0 ∷ 0 ∷ 0 ∷ 0xc0 ∷ 0 ∷ (pattern ++ (left ++ (right ++ (first ++ (second ++ (replicate 12 0 ++ value))))))
    ≡ kind ∷ 0 ∷ 0 ∷ 0 ∷ 0 ∷ 0 ∷ 0xc0 ∷ 0 ∷ (pattern ++ (left ++ (right ++ (vector ++ (replicate 12 0 ++ tvv)))))
with_whole_vector byte kind pattern left right first second vector value tvv kinds vectors values =
    ap (λ b. b ∷ 0 ∷ 0 ∷ 0 ∷ 0 ∷ 0 ∷ 0xc0 ∷ 0 ∷ (pattern ++ (left ++ (right ++ (first ++ (second ++ (replicate 12 0 ++ value))))))) kinds
    ∙ ap (λ rest. kind ∷ 0 ∷ 0 ∷ 0 ∷ 0 ∷ 0 ∷ 0xc0 ∷ 0 ∷ (pattern ++ (left ++ (right ++ rest))))
    (sym (append_assoc first second (replicate 12 0 ++ value))
    ∙ ap (λ v. v ++ (replicate 12 0 ++ value)) vectors
    ∙ ap (λ end. vector ++ (replicate 12 0 ++ end)) values)

-- ---- the token

module _ (token : Token) (pattern_long : length token.pattern ≡ 8) (left_long : length token.sealed.left ≡ 8) (right_long : length token.sealed.right ≡ 8)
    (valid : IsValid token.vector) where
  abbrev rows : List Place
  rows =
      place 0 0 (kind_byte token.kind ∷ []) ∷ place 1 3 (zeros 3) ∷ place 4 4 (0 ∷ []) ∷ place 5 5 (zeros 1) ∷ place 6 6 (0xc0 ∷ [])
      ∷ place 7 7 (zeros 1) ∷ place 8 15 token.pattern ∷ place 16 23 token.sealed.left ∷ place 24 31 token.sealed.right
      ∷ place 32 47 token.vector ∷ place 48 59 (zeros 12) ∷ []

  in_a_row : (tvv : ℕ) → AreInARow 0 (layout token 0xc0 tvv)
  in_a_row tvv = (
    refl,
    (
      refl,
      (
        refl,
        (
          refl,
          (
            refl,
            (
              refl,
              (
                refl,
                (
                  refl,
                  (
                    refl,
                    (
                      refl,
                      (
                        refl,
                        (
                          refl,
                          (
                            refl,
                            (
                              omega arith,
                              (
                                refl,
                                (
                                  omega arith,
                                  (
                                    refl,
                                    (
                                      omega arith,
                                      (
                                        refl,
                                        (
                                          omega (arith, valid.whole),
                                          (refl, (refl, (refl, (refl, tt)))),
                                        ),
                                      ),
                                    ),
                                  ),
                                ),
                              ),
                            ),
                          ),
                        ),
                      ),
                    ),
                  ),
                ),
              ),
            ),
          ),
        ),
      ),
    ),
  )

  rows_long : length (contents rows) ≡ 60
  rows_long = simp length-append (omega (arith, valid.whole))

  front_is : (tvv : ℕ) → take 60 (contents (layout token 0xc0 tvv)) ≡ contents rows
  front_is tvv =
      ap (take 60) (contents-append rows (place 60 63 (to_be_bytes w32 tvv) ∷ []))
      ∙ take_at (contents rows) (contents (place 60 63 (to_be_bytes w32 tvv) ∷ [])) 60 rows_long

  same_tvv : (first second : ℕ) → tvv_of (contents (layout token 0xc0 first)) ≡ tvv_of (contents (layout token 0xc0 second))
  same_tvv first second =
      sym (tvv_of-front (contents (layout token 0xc0 first)))
      ∙ ap tvv_of (front_is first ∙ sym (front_is second))
      ∙ tvv_of-front (contents (layout token 0xc0 second))

  whole_long : (tvv : ℕ) → length (contents (layout token 0xc0 tvv)) ≡ 64
  whole_long tvv =
      ap length (contents-append rows (place 60 63 (to_be_bytes w32 tvv) ∷ []))
      ∙ length-append (contents rows) (contents (place 60 63 (to_be_bytes w32 tvv) ∷ []))
      ∙ ap (λ n. n + 4) rows_long

  with_right_value : (tvv : ℕ) → tvv ≡ tvv_of (contents (layout token 0xc0 0)) → IsPatternFor token.kind token.pattern
      → (length_of token.vector ≡ 8 → IsZero token.sealed.right) → IsToken (contents (layout token 0xc0 tvv)) token
  with_right_value tvv is pattern right = record {
    whole = whole_long tvv;
    places = subst (λ value. HasPlaces (contents (layout token 0xc0 tvv)) (layout token 0xc0 value)) (is ∙ same_tvv 0 tvv)
        (places-contents [] 0 (layout token 0xc0 tvv) refl (in_a_row tvv));
    flag = inl refl;
    pattern = pattern;
    vector = valid;
    right = right;
  }

  pub made-token : IsPatternFor token.kind token.pattern → (length_of token.vector ≡ 8 → IsZero token.sealed.right) → IsToken (made token) token
  unfolding made
  made-token pattern right = with_right_value (tvv_of (contents (layout token 0xc0 0))) refl pattern right
