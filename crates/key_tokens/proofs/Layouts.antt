-- The bytes of a token break no rule exactly where its table of places holds.
use Rattle.std.proofs.Common.{◌≡◌, ◌≢◌, ℕ, ◌+◌, ◌-◌, ◌^◌, ◌<◌, ◌≤◌, Bool, true, false, not, ◌&&◌, ◌||◌, List, [], ◌∷◌, ◌++◌, None, Some, length, get_or, drop, eqb, refl, sym, ap, ◌∙◌, subst, ⊎_elim, arith}
use Rattle.std.specs.Prelude.{slice_range}
use Rattle.std.specs.Int.{to_be_bytes, from_be_bytes, w32}
use Rattle.std.proofs.lemmas.Bool.{eqb-true, eq-eqb, and_from, or_left, or_right, cases_eq, ne_eqb, not_from_false, or_cases, or_from, not_from_true}
use Rattle.std.proofs.lemmas.Bool.Decides.{Decides-eqb, Decides-and, Decides-or}
use Rattle.std.proofs.lemmas.Nat.{be_bytes_4, from_be_bytes-to_be_bytes_4}
use Rattle.std.proofs.lemmas.List.{length-take, length-drop, drop_more}
use Rattle.key_cells.specs.Bytes.{IsZero, is_zero}
use Rattle.key_cells.proofs.ByteLemmas.{zeros_of, is_zero-Decides}
use Rattle.cca_vectors.specs.Checks.{check, first_failing}
use Rattle.cca_vectors.specs.Vectors.{IsValid, length_of}
use Rattle.cca_vectors.specs.VectorChecks.{vector_checks}
use Rattle.cca_vectors.proofs.Judging.{passes, passes_first, passed_over, none_in_first, fails_first}
use Rattle.cca_vectors.proofs.Validity.{AreBytes, bytes_taken, bytes_dropped, valid_from_none, none_from_valid}
use Rattle.key_tokens.specs.declared.key_token.Kind.{Kind}
use Rattle.key_tokens.specs.declared.key_token.Kind.TheVariants as kind
use Rattle.key_tokens.specs.declared.key_token.Asked.{Asked}
use Rattle.key_tokens.specs.declared.key_token.Asked.TheVariants.{Internal, External, Either}
use Rattle.key_tokens.specs.declared.key_token.Token.{Token}
use Rattle.key_tokens.specs.Kinds.{kind_byte, kind_at, IsAsked, is_asked}
use Rattle.key_tokens.specs.Layout.{layout, zeros, HasPlaces, IsFlag, IsPatternFor, IsToken}
use Rattle.key_tokens.specs.Fields.{kind_of, pattern_of_token, vector_bytes_of, token_of}
use Rattle.key_tokens.specs.TokenChecks.{stored_tvv, has_flag, reserved_is_zero, header_checks, has_right_half, token_checks}
use Rattle.key_tokens.specs.Tvv.{tvv_of}

-- ---- pieces of a list of bytes

-- the length of a piece
piece_length : (bytes : List ℕ) (first end : ℕ) → end ≤ length bytes → length (slice_range bytes first end) ≡ end - first
piece_length bytes first end within = simp (length-take, length-drop) (omega arith)

-- a piece of one byte
piece_of_one : (bytes : List ℕ) (at : ℕ) → at < length bytes → slice_range bytes at (at + 1) ≡ get_or bytes at 0 ∷ []
piece_of_one bytes at within =
    let one : at + 1 - at ≡ 1 = omega arith in
    rw (one, drop_more bytes at 0 within) refl

-- what one says of its byte
byte_of_piece : (bytes : List ℕ) (at value : ℕ) → at < length bytes → slice_range bytes at (at + 1) ≡ value ∷ [] → get_or bytes at 0 ≡ value
byte_of_piece bytes at value within e = ap (λ piece. get_or piece 0 0) (sym (piece_of_one bytes at within) ∙ e)

-- a piece that is zero
piece_of_zeros : (bytes : List ℕ) (n : ℕ) → length bytes ≡ n → is_zero bytes ≡ true → bytes ≡ zeros n
piece_of_zeros bytes n long zero =
    zeros_of n bytes long ((is_zero-Decides bytes).0 zero)

-- ---- the kind

asked_kind : (asked : Asked) (byte : ℕ) → is_asked asked byte ≡ true → (byte ≡ kind_byte (kind_at byte)) × IsAsked asked (kind_at byte)
asked_kind Internal byte h = let e : byte ≡ 1 = eqb-true byte 1 h in rw e (refl, refl)
asked_kind External byte h = let e : byte ≡ 2 = eqb-true byte 2 h in rw e (refl, refl)
asked_kind Either byte h =
    ⊎_elim (λ one. let e : byte ≡ 1 = eqb-true byte 1 one in rw e (refl, tt))
    (λ two. let e : byte ≡ 2 = eqb-true byte 2 two in rw e (refl, tt))
    (or_cases (eqb byte 1) (eqb byte 2) h)

kind_asked : (asked : Asked) (k : Kind) → IsAsked asked k → is_asked asked (kind_byte k) ≡ true
kind_asked Internal kind.Internal h = refl
kind_asked Internal kind.External h = cc
kind_asked External kind.Internal h = cc
kind_asked External kind.External h = refl
kind_asked Either kind.Internal h = refl
kind_asked Either kind.External h = refl

kind_at_byte : (k : Kind) → kind_at (kind_byte k) ≡ k
kind_at_byte kind.Internal = refl
kind_at_byte kind.External = refl

-- ---- five checks in order

none_of_five : (a b c d e : Bool)
    → first_failing (check 9 (not a) ∷ check 10 (not b) ∷ check 11 (not c) ∷ check 12 (not d) ∷ check 13 (not e) ∷ []) ≡ None
    → (a ≡ true) × (b ≡ true) × (c ≡ true) × (d ≡ true) × (e ≡ true)
none_of_five true true true true true h = (refl, refl, refl, refl, refl)
none_of_five true true true true false h = cc
none_of_five true true true false e h = cc
none_of_five true true false d e h = cc
none_of_five true false c d e h = cc
none_of_five false b c d e h = cc

five_hold : (a b c d e : Bool) → a ≡ true → b ≡ true → c ≡ true → d ≡ true → e ≡ true
    → first_failing (check 9 (not a) ∷ check 10 (not b) ∷ check 11 (not c) ∷ check 12 (not d) ∷ check 13 (not e) ∷ []) ≡ None
five_hold true true true true true ha hb hc hd he = refl
five_hold true true true true false ha hb hc hd he = cc
five_hold true true true false e ha hb hc hd he = cc
five_hold true true false d e ha hb hc hd he = cc
five_hold true false c d e ha hb hc hd he = cc
five_hold false b c d e ha hb hc hd he = cc

-- ---- five tests joined

and_five : (a b c d e : Bool) → (a && b && c && d && e) ≡ true → (a ≡ true) × (b ≡ true) × (c ≡ true) × (d ≡ true) × (e ≡ true)
and_five true true true true e h = (refl, refl, refl, refl, h)
and_five true true true false e h = cc
and_five true true false d e h = cc
and_five true false c d e h = cc
and_five false b c d e h = cc

five_and : (a b c d e : Bool) → a ≡ true → b ≡ true → c ≡ true → d ≡ true → e ≡ true → (a && b && c && d && e) ≡ true
five_and a b c d e ha hb hc hd he = and_from (a && b && c && d) e (and_from (a && b && c) d (and_from (a && b) c (and_from a b ha hb) hc) hd) he

-- ---- the pattern and the right half

pattern_from_test : (k : Kind) (pattern : List ℕ) → (not (eqb (kind_byte k) 0x02) || is_zero pattern) ≡ true → IsPatternFor k pattern
pattern_from_test kind.Internal pattern h = tt
pattern_from_test kind.External pattern h = (is_zero-Decides pattern).0 h

test_from_pattern : (k : Kind) (pattern : List ℕ) → IsPatternFor k pattern → (not (eqb (kind_byte k) 0x02) || is_zero pattern) ≡ true
test_from_pattern kind.Internal pattern h = refl
test_from_pattern kind.External pattern h = (is_zero-Decides pattern).1 h

right_from_test : (n : ℕ) (right : List ℕ) → (not (eqb n 8) || is_zero right) ≡ true → n ≡ 8 → IsZero right
right_from_test n right h e = (is_zero-Decides right).0 (subst (λ m. (not (eqb m 8) || is_zero right) ≡ true) e h)

test_from_right : (n : ℕ) (right : List ℕ) → (n ≡ 8 → IsZero right) → (not (eqb n 8) || is_zero right) ≡ true
test_from_right n right h =
    ⊎_elim (λ (e : n ≡ 8). or_right (not (eqb n 8)) (is_zero right) ((is_zero-Decides right).1 (h e)))
    (λ (ne : n ≢ 8). or_left (not (eqb n 8)) (is_zero right) (not_from_false (eqb n 8) (ne_eqb n 8 ne)))
    (cases_eq n 8)

tvv_fits : (bytes : List ℕ) → tvv_of bytes < 2 ^ 32
unfolding tvv_of
tvv_fits bytes = omega arith

-- ---- the whole token

abbrev pub with_fields : Kind → List ℕ → List ℕ → List ℕ → List ℕ → Token
with_fields k pattern left right vector = record { kind = k; pattern = pattern; sealed = record { left = left; right = right }; vector = vector }

pub same_token : (first second : Token) → first.kind ≡ second.kind → first.pattern ≡ second.pattern
    → first.sealed.left ≡ second.sealed.left → first.sealed.right ≡ second.sealed.right → first.vector ≡ second.vector
    → first ≡ second
same_token first second kinds patterns lefts rights vectors =
    let e : with_fields first.kind first.pattern first.sealed.left first.sealed.right first.vector
    ≡ with_fields second.kind second.pattern second.sealed.left second.sealed.right second.vector = cc in
    e

pub names_right_half : (asked : Asked) (bytes : List ℕ) → first_failing (header_checks asked bytes) ≡ None
    → first_failing (vector_checks (vector_bytes_of bytes)) ≡ None → length_of (vector_bytes_of bytes) ≡ 8
    → is_zero (slice_range bytes 24 32) ≡ false → first_failing (token_checks asked bytes) ≡ Some 16
names_right_half asked bytes header vector single right =
    passed_over (header_checks asked bytes ++ vector_checks (vector_bytes_of bytes)) (check 16 (not (has_right_half bytes)) ∷ [])
    (passed_over (header_checks asked bytes) (vector_checks (vector_bytes_of bytes)) header ∙ vector)
    ∙ fails_first 16 (has_right_half bytes) []
    (or_from (not (eqb (length_of (vector_bytes_of bytes)) 8)) (is_zero (slice_range bytes 24 32))
    (not_from_true (eqb (length_of (vector_bytes_of bytes)) 8) (eq-eqb (length_of (vector_bytes_of bytes)) 8 single)) right)

pub accepts_right_half : (asked : Asked) (bytes : List ℕ) → first_failing (header_checks asked bytes) ≡ None
    → first_failing (vector_checks (vector_bytes_of bytes)) ≡ None → has_right_half bytes ≡ true → first_failing (token_checks asked bytes) ≡ None
accepts_right_half asked bytes header vector right =
    passed_over (header_checks asked bytes ++ vector_checks (vector_bytes_of bytes)) (check 16 (not (has_right_half bytes)) ∷ [])
    (passed_over (header_checks asked bytes) (vector_checks (vector_bytes_of bytes)) header ∙ vector)
    ∙ passes 16 (has_right_half bytes) [] right refl

pub right_half_is_zero : (bytes : List ℕ) → is_zero (slice_range bytes 24 32) ≡ true → has_right_half bytes ≡ true
right_half_is_zero bytes right = or_right (not (eqb (length_of (vector_bytes_of bytes)) 8)) (is_zero (slice_range bytes 24 32)) right

pub right_half_of_double : (bytes : List ℕ) (size : ℕ) → size ≡ length_of (vector_bytes_of bytes) → size ≢ 8 → has_right_half bytes ≡ true
right_half_of_double bytes size is other =
    or_left (not (eqb (length_of (vector_bytes_of bytes)) 8)) (is_zero (slice_range bytes 24 32))
    (not_from_false (eqb (length_of (vector_bytes_of bytes)) 8) (ne_eqb (length_of (vector_bytes_of bytes)) 8 (λ e. other (is ∙ e))))

module _ (bytes : List ℕ) (whole : length bytes ≡ 64) (token : Token) (h : IsToken bytes token) where
  first_byte : get_or bytes 0 0 ≡ kind_byte token.kind
  first_byte = byte_of_piece bytes 0 (kind_byte token.kind) (omega arith) h.places.0

  vector_is : vector_bytes_of bytes ≡ token.vector
  vector_is = h.places.1.1.1.1.1.1.1.1.1.0

  -- the fields of a token are those at their offsets
  pub token_is : token_of bytes ≡ token
  token_is =
      same_token (token_of bytes) token (ap kind_at first_byte ∙ kind_at_byte token.kind) h.places.1.1.1.1.1.1.0 h.places.1.1.1.1.1.1.1.0
      h.places.1.1.1.1.1.1.1.1.0 vector_is

module _ (asked : Asked) (bytes : List ℕ) (whole : length bytes ≡ 64) (fits : AreBytes bytes) where
  vector_fits : AreBytes (vector_bytes_of bytes)
  vector_fits = bytes_taken 16 (drop 32 bytes) (bytes_dropped 32 bytes fits)

  vector_whole : length (vector_bytes_of bytes) ≡ 16
  vector_whole = piece_length bytes 32 48 (omega arith)

  zero_piece : (first end : ℕ) → end ≤ 64 → is_zero (slice_range bytes first end) ≡ true → slice_range bytes first end ≡ zeros (end - first)
  zero_piece first end within zero =
      piece_of_zeros (slice_range bytes first end) (end - first) (piece_length bytes first end (omega arith)) zero

  flag_from_test : has_flag bytes ≡ true → IsFlag (get_or bytes 6 0) (vector_bytes_of bytes)
  flag_from_test h =
      (Decides-or (eqb (get_or bytes 6 0) 0xc0) (eqb (get_or bytes 6 0) 0x80 && is_zero (vector_bytes_of bytes)) (Decides-eqb (get_or bytes 6 0) 0xc0)
      (Decides-and (eqb (get_or bytes 6 0) 0x80) (is_zero (vector_bytes_of bytes)) (Decides-eqb (get_or bytes 6 0) 0x80)
      (is_zero-Decides (vector_bytes_of bytes)))).0 h

  test_from_flag : IsFlag (get_or bytes 6 0) (vector_bytes_of bytes) → has_flag bytes ≡ true
  test_from_flag h =
      (Decides-or (eqb (get_or bytes 6 0) 0xc0) (eqb (get_or bytes 6 0) 0x80 && is_zero (vector_bytes_of bytes)) (Decides-eqb (get_or bytes 6 0) 0xc0)
      (Decides-and (eqb (get_or bytes 6 0) 0x80) (is_zero (vector_bytes_of bytes)) (Decides-eqb (get_or bytes 6 0) 0x80)
      (is_zero-Decides (vector_bytes_of bytes)))).1 h

  tvv_piece : stored_tvv bytes ≡ tvv_of bytes → slice_range bytes 60 64 ≡ to_be_bytes w32 (tvv_of bytes)
  tvv_piece e =
      sym (be_bytes_4 (slice_range bytes 60 64) (tvv_of bytes) (piece_length bytes 60 64 (omega arith))
      (bytes_taken 4 (drop 60 bytes) (bytes_dropped 60 bytes fits)) (sym e))

  -- the lists of checks, one after another
  header_none : first_failing (token_checks asked bytes) ≡ None → first_failing (header_checks asked bytes) ≡ None
  header_none none =
      none_in_first (header_checks asked bytes) (vector_checks (vector_bytes_of bytes))
      (none_in_first (header_checks asked bytes ++ vector_checks (vector_bytes_of bytes)) (check 16 (not (has_right_half bytes)) ∷ []) none)

  vector_none : first_failing (token_checks asked bytes) ≡ None → first_failing (vector_checks (vector_bytes_of bytes)) ≡ None
  vector_none none =
      sym (passed_over (header_checks asked bytes) (vector_checks (vector_bytes_of bytes)) (header_none none))
      ∙ none_in_first (header_checks asked bytes ++ vector_checks (vector_bytes_of bytes)) (check 16 (not (has_right_half bytes)) ∷ []) none

  right_none : first_failing (token_checks asked bytes) ≡ None → has_right_half bytes ≡ true
  right_none none =
      passes_first 16 (has_right_half bytes) []
      (sym (passed_over (header_checks asked bytes ++ vector_checks (vector_bytes_of bytes)) (check 16 (not (has_right_half bytes)) ∷ [])
      (none_in_first (header_checks asked bytes ++ vector_checks (vector_bytes_of bytes)) (check 16 (not (has_right_half bytes)) ∷ []) none))
      ∙ none)

  pub token_from_none : first_failing (token_checks asked bytes) ≡ None → IsToken bytes (token_of bytes) × IsAsked asked (kind_of bytes)
  token_from_none none = (
    record {
      whole = whole;
      places = places;
      flag = flag_from_test header.3;
      pattern = pattern_from_test (kind_of bytes) (pattern_of_token bytes)
          (subst (λ b. (not (eqb b 0x02) || is_zero (pattern_of_token bytes)) ≡ true) kinds.0 reserved.4);
      vector = valid_from_none (vector_bytes_of bytes) vector_whole vector_fits (vector_none none);
      right = right_from_test (length_of (vector_bytes_of bytes)) (slice_range bytes 24 32) (right_none none);
    },
    kinds.1,
  )
    where
      header : (is_asked asked (get_or bytes 0 0) ≡ true) × (eqb (stored_tvv bytes) (tvv_of bytes) ≡ true) × (eqb (get_or bytes 4 0) 0 ≡ true)
          × (has_flag bytes ≡ true) × (reserved_is_zero bytes ≡ true)
      header = none_of_five (is_asked asked (get_or bytes 0 0)) (eqb (stored_tvv bytes) (tvv_of bytes)) (eqb (get_or bytes 4 0) 0) (has_flag bytes)
          (reserved_is_zero bytes) (header_none none)

      kinds : (get_or bytes 0 0 ≡ kind_byte (kind_of bytes)) × IsAsked asked (kind_of bytes)
      kinds = asked_kind asked (get_or bytes 0 0) header.0

      reserved : (is_zero (slice_range bytes 1 4) ≡ true) × (is_zero (slice_range bytes 5 6) ≡ true) × (is_zero (slice_range bytes 7 8) ≡ true)
          × (is_zero (slice_range bytes 48 60) ≡ true) × ((not (eqb (get_or bytes 0 0) 0x02) || is_zero (pattern_of_token bytes)) ≡ true)
      reserved = and_five (is_zero (slice_range bytes 1 4)) (is_zero (slice_range bytes 5 6)) (is_zero (slice_range bytes 7 8))
          (is_zero (slice_range bytes 48 60)) (not (eqb (get_or bytes 0 0) 0x02) || is_zero (pattern_of_token bytes)) header.4

      places : HasPlaces bytes (layout (token_of bytes) (get_or bytes 6 0) (tvv_of bytes))
      places = (
        piece_of_one bytes 0 (omega arith) ∙ ap (λ byte. byte ∷ []) kinds.0,
        (
          zero_piece 1 4 (omega arith) reserved.0,
          (
            piece_of_one bytes 4 (omega arith) ∙ ap (λ byte. byte ∷ []) (eqb-true (get_or bytes 4 0) 0 header.2),
            (
              zero_piece 5 6 (omega arith) reserved.1,
              (
                piece_of_one bytes 6 (omega arith),
                (
                  zero_piece 7 8 (omega arith) reserved.2,
                  (
                    refl,
                    (
                      refl,
                      (
                        refl,
                        (
                          refl,
                          (
                            zero_piece 48 60 (omega arith) reserved.3,
                            (
                              tvv_piece (eqb-true (stored_tvv bytes) (tvv_of bytes) header.1),
                              tt,
                            ),
                          ),
                        ),
                      ),
                    ),
                  ),
                ),
              ),
            ),
          ),
        ),
      )

  module _ (token : Token) (h : IsToken bytes token) where
    first_byte_is : get_or bytes 0 0 ≡ kind_byte token.kind
    first_byte_is = first_byte bytes whole token h

    vector_place : vector_bytes_of bytes ≡ token.vector
    vector_place = vector_is bytes whole token h

    stored : stored_tvv bytes ≡ tvv_of bytes
    stored = ap (from_be_bytes w32) h.places.1.1.1.1.1.1.1.1.1.1.1.0 ∙ from_be_bytes-to_be_bytes_4 (tvv_of bytes) (tvv_fits bytes)

    reserved_test : reserved_is_zero bytes ≡ true
    reserved_test =
        five_and (is_zero (slice_range bytes 1 4)) (is_zero (slice_range bytes 5 6)) (is_zero (slice_range bytes 7 8)) (is_zero (slice_range bytes 48 60))
        (not (eqb (get_or bytes 0 0) 0x02) || is_zero (pattern_of_token bytes))
        (ap is_zero h.places.1.0) (ap is_zero h.places.1.1.1.0) (ap is_zero h.places.1.1.1.1.1.0) (ap is_zero h.places.1.1.1.1.1.1.1.1.1.1.0)
        (ap (λ b. not (eqb b 0x02) || is_zero (pattern_of_token bytes)) first_byte_is
        ∙ test_from_pattern token.kind (pattern_of_token bytes) (subst (IsPatternFor token.kind) (sym h.places.1.1.1.1.1.1.0) h.pattern))

    header_holds : IsAsked asked token.kind → first_failing (header_checks asked bytes) ≡ None
    header_holds asks =
        five_hold (is_asked asked (get_or bytes 0 0)) (eqb (stored_tvv bytes) (tvv_of bytes)) (eqb (get_or bytes 4 0) 0) (has_flag bytes)
        (reserved_is_zero bytes)
        (ap (is_asked asked) first_byte_is ∙ kind_asked asked token.kind asks)
        (eq-eqb (stored_tvv bytes) (tvv_of bytes) stored)
        (eq-eqb (get_or bytes 4 0) 0 (byte_of_piece bytes 4 0 (omega arith) h.places.1.1.0))
        (test_from_flag (subst (IsFlag (get_or bytes 6 0)) (sym vector_place) h.flag))
        reserved_test

    vector_holds : first_failing (vector_checks (vector_bytes_of bytes)) ≡ None
    vector_holds = none_from_valid (vector_bytes_of bytes) vector_whole vector_fits (subst IsValid (sym vector_place) h.vector)

    right_holds : has_right_half bytes ≡ true
    right_holds =
        test_from_right (length_of (vector_bytes_of bytes)) (slice_range bytes 24 32)
        (λ single. subst IsZero (sym h.places.1.1.1.1.1.1.1.1.0) (h.right (ap length_of (sym vector_place) ∙ single)))

    pub none_from_token : IsAsked asked token.kind → first_failing (token_checks asked bytes) ≡ None
    none_from_token asks =
        passed_over (header_checks asked bytes ++ vector_checks (vector_bytes_of bytes)) (check 16 (not (has_right_half bytes)) ∷ [])
        (passed_over (header_checks asked bytes) (vector_checks (vector_bytes_of bytes)) (header_holds asks) ∙ vector_holds)
        ∙ passes 16 (has_right_half bytes) [] right_holds refl
