-- Sealing is one to one from the keys onto the halves.
use Rattle.std.proofs.Common.{◌≡◌, ◌⊎◌, ℕ, ◌+◌, ◌-◌, ◌<◌, ◌≤◌, Bool, true, false, List, [], ◌++◌, length, get_or, take, drop, eqb, refl, sym, ap, ◌∙◌, subst, inl, inr, ⊎_elim, arith}
use Rattle.std.specs.Prelude.{slice_range, replicate, if◌then◌else◌}
use Rattle.std.proofs.lemmas.Bool.{eq-eqb, ne_eqb}
use Rattle.std.proofs.lemmas.List.{append-nil, take-append-drop, take_all, take_at, drop_at, length-take, length-drop, length-append, length-replicate, get_or-replicate, take-take, drop-take, drop_all, get_or_default}
use Rattle.std.proofs.lemmas.List.Elements.{All-take, All-drop, All-append}
use Rattle.cca_vectors.specs.Vectors.{left_of, right_of, form_of, single_length, length_of}
use Rattle.key_cells.specs.Bytes.{AreBytes, IsZero}
use Rattle.key_cells.proofs.ByteLemmas.{zeros_of, IsZero-replicate}
use Rattle.des_blocks.proofs.ValueLemmas.{bytes-ede, bytes-ded, ded-ede, ede-ded}
use Rattle.multi_encipher.specs.declared.halves.Sealed.{Sealed}
use Rattle.multi_encipher.specs.Bundles.{key_in, with_zeros}
use Rattle.multi_encipher.specs.Seals.{variant_key, sealed_half, opened_half, seal, unseal, IsKey, IsSealed, SealIsOneToOne}

-- ---- one half

module _ (bundle vector : List ℕ) where
  pub bytes-sealed_half : (half : List ℕ) → AreBytes 8 (sealed_half bundle vector half)
  unfolding sealed_half
  bytes-sealed_half half = bytes-ede (variant_key bundle 0 vector) (variant_key bundle 1 vector) (variant_key bundle 2 vector) half

  pub bytes-opened_half : (sealed : List ℕ) → AreBytes 8 (opened_half bundle vector sealed)
  unfolding opened_half
  bytes-opened_half sealed = bytes-ded (variant_key bundle 0 vector) (variant_key bundle 1 vector) (variant_key bundle 2 vector) sealed

  pub opened_half-sealed_half : (half : List ℕ) → AreBytes 8 half → opened_half bundle vector (sealed_half bundle vector half) ≡ half
  unfolding sealed_half opened_half
  opened_half-sealed_half half bytes = ded-ede (variant_key bundle 0 vector) (variant_key bundle 1 vector) (variant_key bundle 2 vector) half bytes

  pub sealed_half-opened_half : (sealed : List ℕ) → AreBytes 8 sealed → sealed_half bundle vector (opened_half bundle vector sealed) ≡ sealed
  unfolding sealed_half opened_half
  sealed_half-opened_half sealed bytes = ede-ded (variant_key bundle 0 vector) (variant_key bundle 1 vector) (variant_key bundle 2 vector) sealed bytes

abbrev pub halves_of : List ℕ → List ℕ → Sealed
halves_of left right = record { left = left; right = right }

-- ---- the two lengths

abbrev length_if : Bool → ℕ
length_if b = if b then 8 else 16

by_test : (b : Bool) → (length_if b ≡ 8) ⊎ (length_if b ≡ 16)
by_test true = inl refl
by_test false = inr refl

pub length_of-cases : (vector : List ℕ) → (length_of vector ≡ 8) ⊎ (length_of vector ≡ 16)
length_of-cases vector = by_test (eqb (form_of (left_of vector)) single_length)

module _ (bundle vector : List ℕ) where
  pub seal-single : (key : List ℕ) → length_of vector ≡ 8
      → seal bundle vector key ≡ halves_of (sealed_half bundle (left_of vector) (slice_range key 0 8)) (replicate 8 0)
  unfolding seal
  seal-single key single =
      ap {B = Sealed} (λ t. record { left = sealed_half bundle (left_of vector) (slice_range key 0 8); right = if t then replicate 8 0 else sealed_half bundle (right_of vector) (slice_range key 8 16) })
      (eq-eqb (length_of vector) 8 single)

  pub seal-double : (key : List ℕ) → length_of vector ≡ 16
      → seal bundle vector key ≡ halves_of (sealed_half bundle (left_of vector) (slice_range key 0 8)) (sealed_half bundle (right_of vector) (slice_range key 8 16))
  unfolding seal
  seal-double key double =
      ap {B = Sealed} (λ t. record { left = sealed_half bundle (left_of vector) (slice_range key 0 8); right = if t then replicate 8 0 else sealed_half bundle (right_of vector) (slice_range key 8 16) })
      (ne_eqb (length_of vector) 8 (λ single. omega arith))

  pub unseal-single : (sealed : Sealed) → length_of vector ≡ 8 → unseal bundle vector sealed ≡ opened_half bundle (left_of vector) sealed.left
  unfolding unseal
  unseal-single sealed single =
      ap (λ t. opened_half bundle (left_of vector) sealed.left ++ (if t then [] else opened_half bundle (right_of vector) sealed.right)) (eq-eqb (length_of vector) 8 single)
      ∙ append-nil (opened_half bundle (left_of vector) sealed.left)

  pub unseal-double : (sealed : Sealed) → length_of vector ≡ 16
      → unseal bundle vector sealed ≡ opened_half bundle (left_of vector) sealed.left ++ opened_half bundle (right_of vector) sealed.right
  unfolding unseal
  unseal-double sealed double =
      ap (λ t. opened_half bundle (left_of vector) sealed.left ++ (if t then [] else opened_half bundle (right_of vector) sealed.right))
      (ne_eqb (length_of vector) 8 (λ single. omega arith))

-- ---- pieces of bytes

pub all_zeros : (n : ℕ) → AreBytes n (replicate n 0)
all_zeros n = record {
  size = length-replicate n 0;
  each = λ k d within. let inside : k < n = omega (arith, length-replicate {A = ℕ} n 0) in
      let zero : get_or (replicate n 0) k d ≡ 0 = get_or-replicate n k 0 d inside in omega arith;
}

bytes_front : (key : List ℕ) → AreBytes 16 key → AreBytes 8 (slice_range key 0 8)
bytes_front key bytes = record { size = simp length-take (omega arith); each = All-take (λ b. b < 256) 8 key bytes.each }

bytes_back : (key : List ℕ) → AreBytes 16 key → AreBytes 8 (slice_range key 8 16)
bytes_back key bytes = record {
  size = simp (length-take, length-drop) (omega arith);
  each = All-take (λ b. b < 256) 8 (drop 8 key) (All-drop (λ b. b < 256) 8 key bytes.each);
}

pub bytes_joined : (left right : List ℕ) → AreBytes 8 left → AreBytes 8 right → AreBytes 16 (left ++ right)
bytes_joined left right lefts rights = record {
  size = simp length-append (omega arith);
  each = All-append (λ b. b < 256) left right lefts.each rights.each;
}

halves_joined : (key : List ℕ) → length key ≡ 16 → slice_range key 0 8 ++ slice_range key 8 16 ≡ key
halves_joined key long =
    ap (λ back. take 8 key ++ back) (take_all 8 (drop 8 key) (simp length-drop (omega arith))) ∙ take-append-drop 8 key

pub same_halves : (sealed : Sealed) (left right : List ℕ) → left ≡ sealed.left → right ≡ sealed.right → halves_of left right ≡ sealed
same_halves sealed left right lefts rights =
    let e : halves_of left right ≡ halves_of sealed.left sealed.right = cc in
    e

-- ---- the law

module _ (bundle vector : List ℕ) where
  one : length_of vector ≡ 8 → SealIsOneToOne bundle vector
  one single = record {
    sealed = λ key bytes. subst (IsSealed vector) (sym (seal-single bundle vector key single))
        (record { left = bytes-sealed_half bundle (left_of vector) (slice_range key 0 8); right = all_zeros 8; single = λ _. IsZero-replicate 8 });
    undone = λ key bytes.
        ap (unseal bundle vector) (seal-single bundle vector key single)
        ∙ unseal-single bundle vector (halves_of (sealed_half bundle (left_of vector) (slice_range key 0 8)) (replicate 8 0)) single
        ∙ opened_half-sealed_half bundle (left_of vector) (slice_range key 0 8) (subst (AreBytes 8) (sym (whole key (eight key bytes))) (eight key bytes))
        ∙ whole key (eight key bytes);
    opened = λ sealed halves. subst (λ n. AreBytes n (unseal bundle vector sealed)) (sym single)
        (subst (AreBytes 8) (sym (unseal-single bundle vector sealed single)) (bytes-opened_half bundle (left_of vector) sealed.left));
    redone = λ sealed halves.
        ap (seal bundle vector) (unseal-single bundle vector sealed single)
        ∙ seal-single bundle vector (opened_half bundle (left_of vector) sealed.left) single
        ∙ same_halves sealed (sealed_half bundle (left_of vector) (slice_range (opened_half bundle (left_of vector) sealed.left) 0 8)) (replicate 8 0)
        (ap (sealed_half bundle (left_of vector)) (whole (opened_half bundle (left_of vector) sealed.left) (bytes-opened_half bundle (left_of vector) sealed.left))
        ∙ sealed_half-opened_half bundle (left_of vector) sealed.left halves.left)
        (sym (zeros_of 8 sealed.right halves.right.size (halves.single single)));
  }
    where
      eight : (key : List ℕ) → IsKey vector key → AreBytes 8 key
      eight key bytes = subst (λ n. AreBytes n key) single bytes

      whole : (key : List ℕ) → AreBytes 8 key → slice_range key 0 8 ≡ key
      whole key bytes = take_all 8 key (omega arith)

  two : length_of vector ≡ 16 → SealIsOneToOne bundle vector
  two double = record {
    sealed = λ key bytes. subst (IsSealed vector) (sym (seal-double bundle vector key double))
        (record {
          left = bytes-sealed_half bundle (left_of vector) (slice_range key 0 8);
          right = bytes-sealed_half bundle (right_of vector) (slice_range key 8 16);
          single = λ single. absurd (omega arith);
        });
    undone = λ key bytes.
        ap (unseal bundle vector) (seal-double bundle vector key double)
        ∙ unseal-double bundle vector (halves_of (sealed_half bundle (left_of vector) (slice_range key 0 8)) (sealed_half bundle (right_of vector) (slice_range key 8 16))) double
        ∙ ap (λ left. left ++ opened_half bundle (right_of vector) (sealed_half bundle (right_of vector) (slice_range key 8 16)))
        (opened_half-sealed_half bundle (left_of vector) (slice_range key 0 8) (bytes_front key (sixteen key bytes)))
        ∙ ap (λ right. slice_range key 0 8 ++ right)
        (opened_half-sealed_half bundle (right_of vector) (slice_range key 8 16) (bytes_back key (sixteen key bytes)))
        ∙ halves_joined key (sixteen key bytes).size;
    opened = λ sealed halves. subst (λ n. AreBytes n (unseal bundle vector sealed)) (sym double)
        (subst (AreBytes 16) (sym (unseal-double bundle vector sealed double))
        (bytes_joined (opened_half bundle (left_of vector) sealed.left) (opened_half bundle (right_of vector) sealed.right)
        (bytes-opened_half bundle (left_of vector) sealed.left) (bytes-opened_half bundle (right_of vector) sealed.right)));
    redone = λ sealed halves.
        ap (seal bundle vector) (unseal-double bundle vector sealed double)
        ∙ seal-double bundle vector (opened_half bundle (left_of vector) sealed.left ++ opened_half bundle (right_of vector) sealed.right) double
        ∙ same_halves sealed
        (sealed_half bundle (left_of vector) (slice_range (opened_half bundle (left_of vector) sealed.left ++ opened_half bundle (right_of vector) sealed.right) 0 8))
        (sealed_half bundle (right_of vector) (slice_range (opened_half bundle (left_of vector) sealed.left ++ opened_half bundle (right_of vector) sealed.right) 8 16))
        (ap (sealed_half bundle (left_of vector))
        (take_at (opened_half bundle (left_of vector) sealed.left) (opened_half bundle (right_of vector) sealed.right) 8
        (bytes-opened_half bundle (left_of vector) sealed.left).size)
        ∙ sealed_half-opened_half bundle (left_of vector) sealed.left halves.left)
        (ap (sealed_half bundle (right_of vector))
        (ap (take 8) (drop_at (opened_half bundle (left_of vector) sealed.left) (opened_half bundle (right_of vector) sealed.right) 8
        (bytes-opened_half bundle (left_of vector) sealed.left).size)
        ∙ take_all 8 (opened_half bundle (right_of vector) sealed.right) (omega (arith, (bytes-opened_half bundle (right_of vector) sealed.right).size)))
        ∙ sealed_half-opened_half bundle (right_of vector) sealed.right halves.right);
  }
    where
      sixteen : (key : List ℕ) → IsKey vector key → AreBytes 16 key
      sixteen key bytes = subst (λ n. AreBytes n key) double bytes

  pub one_to_one : SealIsOneToOne bundle vector
  one_to_one = ⊎_elim one two (length_of-cases vector)

-- ---- a key in 16 bytes

at_least_eight : (vector : List ℕ) → 8 ≤ length_of vector
at_least_eight vector = ⊎_elim (λ (single : length_of vector ≡ 8). omega arith) (λ (double : length_of vector ≡ 16). omega arith) (length_of-cases vector)

pub double_unless_single : (vector : List ℕ) (n : ℕ) → n ≡ length_of vector → (n ≡ 8 → ⊥) → length_of vector ≡ 16
double_unless_single vector n is not_single =
    ⊎_elim (λ (single : length_of vector ≡ 8). absurd (not_single (is ∙ single))) (λ (double : length_of vector ≡ 16). double) (length_of-cases vector)

pub key_front : (vector bytes : List ℕ) → slice_range (key_in vector bytes) 0 8 ≡ slice_range bytes 0 8
key_front vector bytes = take-take 8 (length_of vector - 0) bytes (omega (arith, at_least_eight vector))

pub key_back : (vector bytes : List ℕ) → length_of vector ≡ 16 → slice_range (key_in vector bytes) 8 16 ≡ slice_range bytes 8 16
key_back vector bytes double =
    let all : length_of vector - 0 ≡ 8 + 8 = omega arith in
    ap (λ n. take 8 (drop 8 (take n bytes))) all ∙ ap (take 8) (drop-take 8 8 bytes) ∙ take-take 8 8 (drop 8 bytes) (omega arith)

pub key_in-with_zeros : (vector key : List ℕ) → IsKey vector key → key_in vector (with_zeros vector key) ≡ key
key_in-with_zeros vector key bytes = take_at key (replicate (16 - length_of vector) 0) (length_of vector - 0) (omega (arith, bytes.size))

-- what was put in a place is sealed again to the halves that it came from
pub sealed_again : (bundle vector place : List ℕ) (sealed : Sealed) → IsSealed vector sealed → place ≡ with_zeros vector (unseal bundle vector sealed)
    → seal bundle vector (key_in vector place) ≡ sealed
sealed_again bundle vector place sealed halves is =
    ap (λ bytes. seal bundle vector (key_in vector bytes)) is
    ∙ ap (seal bundle vector) (key_in-with_zeros vector (unseal bundle vector sealed) ((one_to_one bundle vector).opened sealed halves))
    ∙ (one_to_one bundle vector).redone sealed halves

-- the place of a single-length key, and of a double-length one
pub single_put : (bundle vector old : List ℕ) (sealed : Sealed) → length_of vector ≡ 8
    → take 8 (take 0 old ++ opened_half bundle (left_of vector) sealed.left ++ drop (0 + 8) old) ++ replicate 8 0 ≡ with_zeros vector (unseal bundle vector sealed)
single_put bundle vector old sealed single =
    let rest : 8 ≡ 16 - length_of vector = omega arith in
    ap (λ front. front ++ replicate 8 0)
    (take_at (opened_half bundle (left_of vector) sealed.left) (drop 8 old) 8 (bytes-opened_half bundle (left_of vector) sealed.left).size)
    ∙ ap (λ front. front ++ replicate 8 0) (sym (unseal-single bundle vector sealed single))
    ∙ ap (λ n. unseal bundle vector sealed ++ replicate n 0) rest

pub double_put : (bundle vector old place right : List ℕ) (sealed : Sealed) → length_of vector ≡ 16 → length place ≡ 16
    → place ≡ take 0 old ++ opened_half bundle (left_of vector) sealed.left ++ drop (0 + 8) old
    → right ≡ opened_half bundle (right_of vector) sealed.right
    → take 8 place ++ right ++ drop (8 + 8) place ≡ with_zeros vector (unseal bundle vector sealed)
double_put bundle vector old place right sealed double long is right_is =
    let none : 16 - length_of vector ≡ 0 = omega arith in
    let left : List ℕ = opened_half bundle (left_of vector) sealed.left in
    let front : take 8 place ≡ left =
    ap (take 8) is ∙ take_at left (drop 8 old) 8 (bytes-opened_half bundle (left_of vector) sealed.left).size in
    ap (λ rest. take 8 place ++ right ++ rest) (drop_all 16 place (omega arith))
    ∙ ap (λ begin. begin ++ right ++ []) front
    ∙ ap (λ back. left ++ back ++ []) right_is
    ∙ ap (λ key. key ++ []) (sym (unseal-double bundle vector sealed double))
    ∙ ap (λ n. unseal bundle vector sealed ++ replicate n 0) (sym none)

-- a right half that is zero, and halves of a double-length key
pub single_sealed : (vector : List ℕ) (sealed : Sealed) → length_of vector ≡ 8 → AreBytes 8 sealed.left → length sealed.right ≡ 8
    → (length_of vector ≡ 8 → IsZero sealed.right) → IsSealed vector sealed
single_sealed vector sealed single left right_long zero =
    record { left = left; right = subst (AreBytes 8) (sym (zeros_of 8 sealed.right right_long (zero single))) (all_zeros 8); single = zero }

pub double_sealed : (vector : List ℕ) (sealed : Sealed) → length_of vector ≡ 16 → AreBytes 8 sealed.left → AreBytes 8 sealed.right → IsSealed vector sealed
double_sealed vector sealed double left right = record { left = left; right = right; single = λ single. absurd (omega arith) }

-- bytes of an array
pub bytes_from : (n : ℕ) (bytes : List ℕ) → length bytes ≡ n → ((k : ℕ) → get_or bytes k 0 < 256) → AreBytes n bytes
bytes_from n bytes long fits = record { size = long; each = λ k d within. subst (λ b. b < 256) (get_or_default bytes k 0 d within) (fits k) }

-- halves as they are made
pub single_made : (vector left : List ℕ) → AreBytes 8 left → IsSealed vector (halves_of left (replicate 8 0))
single_made vector left bytes = record { left = bytes; right = all_zeros 8; single = λ _. IsZero-replicate 8 }

pub double_made : (vector left right : List ℕ) → length_of vector ≡ 16 → AreBytes 8 left → AreBytes 8 right → IsSealed vector (halves_of left right)
double_made vector left right double lefts rights = record { left = lefts; right = rights; single = λ single. absurd (omega arith) }
