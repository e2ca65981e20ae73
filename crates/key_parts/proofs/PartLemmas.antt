-- Keys that are made of their parts.
use Rattle.std.proofs.Common.{◌≡◌, ℕ, ◌+◌, ◌-◌, ◌≤◌, true, false, List, [], ◌∷◌, ◌++◌, length, take, replicate, refl, sym, ap, ◌∙◌, arith}
use Rattle.std.specs.Prelude.{All, fold, slice_range}
use Rattle.std.proofs.lemmas.List.{length-take-le}
use Rattle.std.proofs.lemmas.List.Elements.{All-cons, All-head, All-nil, All-tail}
use Rattle.key_cells.specs.Bytes.{AreBytes, xor}
use Rattle.key_cells.proofs.ByteLemmas.{xor-zeros, take-xor}
use Rattle.cca_vectors.specs.PartVectors.{as_part}
use Rattle.cca_vectors.specs.Vectors.{is_part_of, length_of}
use Rattle.cca_vectors.specs.declared.key_type.KeyType.{KeyType}
use Rattle.key_tokens.specs.Denotes.{ClearKey}
use Rattle.key_transport.specs.Generated.{HasLength, vector_for}
use Rattle.key_transport.proofs.PlaceLemmas.{key_put}
use Rattle.multi_encipher.specs.Bundles.{key_in, with_zeros}
use Rattle.multi_encipher.specs.Seals.{IsKey}
use Rattle.key_parts.specs.Parts.{combined_key, first_key, key_before_last, key_of_parts, xor_all}
use Rattle.key_parts.proofs.TypeLemmas.{type_part, type_twice}
use Rattle.key_parts.proofs.XorLemmas.{xor-assoc, xor-comm, xor-fold, xor_all-append}

abbrev clear_key : List ℕ → List ℕ → ClearKey
clear_key key vector = record { key = key; vector = vector }

-- ---- all the parts

collected : (clear : ClearKey) (parts : List (List ℕ)) → fold (combined_key false) clear parts ≡ clear_key (fold xor clear.key parts) clear.vector
collected clear [] = refl
collected clear (part ∷ parts) = collected (combined_key false clear part) parts

halves_of : (P : List ℕ → Type 0) (xs : List (List ℕ)) (y : List ℕ) → All P (xs ++ y ∷ []) → All P xs × P y
halves_of P [] y all = (All-nil P, All-head P y [] all)
halves_of P (x ∷ xs) y all =
    let rest : All P xs × P y = halves_of P xs y (All-tail P x (xs ++ y ∷ []) all) in
    (All-cons P x xs (All-head P x (xs ++ y ∷ []) all) rest.0, rest.1)

module _ (kind : KeyType) (size : ℕ) (first : List ℕ) (middle : List (List ℕ)) (has : HasLength kind size) (is : AreBytes size first) where
  typed : vector_for kind (length first) ≡ vector_for kind size
  typed = ap (vector_for kind) is.size

  -- before the last part the key is a part
  pub before_last : is_part_of (key_before_last kind first middle).vector ≡ true
  before_last =
      ap (λ (c : ClearKey). is_part_of c.vector) (collected (first_key kind first) middle)
      ∙ (ap (λ v. is_part_of (as_part v)) typed ∙ type_part kind size has)

  -- with it, it is the exclusive or of all of them, with the type's vector
  pub after_last : (last : List ℕ) → All (AreBytes size) (middle ++ last ∷ [])
      → key_of_parts kind first middle last ≡ clear_key (xor_all size (first ∷ (middle ++ last ∷ []))) (vector_for kind size)
  after_last last are =
      ap (λ c. combined_key true c last) (collected (first_key kind first) middle)
      ∙ (ap (λ v. clear_key (xor (fold xor first middle) last) v) (ap (λ v. as_part (as_part v)) typed ∙ type_twice kind size has)
      ∙ ap (λ k. clear_key k (vector_for kind size)) all)
    where
      both : All (AreBytes size) middle × AreBytes size last
      both = halves_of (AreBytes size) middle last are

      alone : xor_all size (last ∷ []) ≡ last
      alone = xor-comm last (replicate size 0) ∙ xor-zeros size last both.1.size

      all : xor (fold xor first middle) last ≡ xor_all size (first ∷ (middle ++ last ∷ []))
      all =
          ap (λ k. xor k last) (xor-fold size first middle is both.0)
          ∙ (xor-assoc first (xor_all size middle) last
          ∙ ap (xor first)
          (ap (xor (xor_all size middle)) (sym alone)
          ∙ sym (xor_all-append size middle (last ∷ []) (All-cons (AreBytes size) last [] both.1 (All-nil (AreBytes size))))))

-- ---- in the places of the bench

-- the key that stands in a place into which a part was taken
pub combined_put : (vector after key place fresh next : List ℕ) → IsKey vector key → place ≡ with_zeros vector key → next ≡ xor place fresh → length_of after ≡ length_of vector
    → key_in after next ≡ xor key (key_in vector fresh)
combined_put vector after key place fresh next is placed taken same =
    ap (λ n. slice_range next 0 n) same
    ∙ (ap (key_in vector) taken
    ∙ (take-xor (length_of vector - 0) place fresh ∙ ap (λ k. xor k (key_in vector fresh)) (key_put vector key place is placed)))

-- a part alone
pub part_put : (vector fresh next : List ℕ) (size : ℕ) → length fresh ≡ 16 → next ≡ xor (replicate 16 0) fresh → length_of vector ≡ size → key_in vector next ≡ take size fresh
part_put vector fresh next size long taken same =
    ap (key_in vector) (taken ∙ xor-zeros 16 fresh long)
    ∙ ap (λ n. take n fresh) (let whole : length_of vector - 0 ≡ size = omega arith in whole)

pub length-part : (fresh : List ℕ) (size : ℕ) → length fresh ≡ 16 → size ≤ 16 → length (take size fresh) ≡ size
length-part fresh size long short = length-take-le size fresh (omega arith)
