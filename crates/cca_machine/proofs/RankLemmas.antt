-- The labels of a directory in ascending order, by how many are smaller.
use Rattle.std.proofs.Common.{◌≡◌, ◌≤◌, ◌<◌, ℕ, zero, suc, Bool, true, false, cond, Ordering, Less, Equal, Greater, List, [], ◌∷◌, length, get_or, Option, None, Some, ⊎_elim, refl, sym, ap, ◌∙◌, arith}
use Rattle.std.specs.Cmp.Lexicographic.{slice_cmp}
use Rattle.std.specs.List.{count_by, filter}
use Rattle.std.specs.Ordering.{nat_cmp, is_lt, ordering_reverse}
use Rattle.std.proofs.lemmas.Bool.{cases_lt, eq-eqb, eqb-true}
use Rattle.std.proofs.lemmas.Cmp.{nat_list_cmp_total, tied_itself}
use Rattle.std.proofs.lemmas.List.{get_or_past}
use Rattle.std.proofs.lemmas.List.Sums.{sum_by-cons}
use Rattle.record_bodies.specs.Directory.{label_at}
use Rattle.record_bodies.specs.Rank.{is_smaller, smaller_count, IsNth}
use Rattle.record_bodies.proofs.HalvingLaws.{equal_same}
use Rattle.cca_machine.specs.Listing.{first_label, has_rank, nth_label}
use Rattle.cca_roles.proofs.DirectoryLaws.{none_some}

-- ---- counts

-- one test holds wherever another does
test_le : (a b : Bool) → (a ≡ true → b ≡ true) → cond a 1 0 ≤ cond b 1 0
test_le true b implies = let is : ◌≡◌ {A = ℕ} (cond b 1 0) 1 = ap (λ t. cond t 1 0) (implies refl) in omega arith
test_le false b implies = omega arith

module _ {X : Type 0} (p q : X → Bool) (implies : (x : X) → p x ≡ true → q x ≡ true) where
  count_le : (xs : List X) → count_by p xs ≤ count_by q xs
  count_le [] = omega arith
  count_le (x ∷ xs) =
      omega (arith, sum_by-cons (λ y. cond (p y) 1 0) x xs, sum_by-cons (λ y. cond (q y) 1 0) x xs, test_le (p x) (q x) (implies x), count_le xs)

  -- and one place more
  pub count_lt : (xs : List X) (k : ℕ) (d : X) → k < length xs → p (get_or xs k d) ≡ false → q (get_or xs k d) ≡ true → count_by p xs < count_by q xs
  count_lt [] k d within fails holds = absurd (omega arith)
  count_lt (x ∷ xs) zero d within fails holds =
      let none : ◌≡◌ {A = ℕ} (cond (p x) 1 0) 0 = ap (λ t. cond t 1 0) fails in
      let one : ◌≡◌ {A = ℕ} (cond (q x) 1 0) 1 = ap (λ t. cond t 1 0) holds in
      omega (arith, sum_by-cons (λ y. cond (p y) 1 0) x xs, sum_by-cons (λ y. cond (q y) 1 0) x xs, none, one, count_le xs)
  count_lt (x ∷ xs) (suc k) d within fails holds =
      omega (arith, sum_by-cons (λ y. cond (p y) 1 0) x xs, sum_by-cons (λ y. cond (q y) 1 0) x xs, test_le (p x) (q x) (implies x), count_lt xs k d (omega (arith, within)) fails holds)

-- ---- ranks

pub within_of : (d : List (Option (List ℕ))) (k : ℕ) (label : List ℕ) → label_at d k ≡ Some label → k < length d
within_of d k label held =
    ⊎_elim (λ (below : k < length d). below) (λ (past : length d ≤ k). absurd (none_some label (sym (get_or_past d k None past) ∙ held))) (cases_lt k (length d))

is_less : (o : Ordering) → is_lt o ≡ true → o ≡ Less
is_less Less is = refl
is_less Equal is = cc is
is_less Greater is = cc is

smaller_too : (a b : List ℕ) → slice_cmp nat_cmp a b ≡ Less → (o : Option (List ℕ)) → is_smaller a o ≡ true → is_smaller b o ≡ true
smaller_too a b less None smaller = smaller
smaller_too a b less (Some c) smaller = ap is_lt (nat_list_cmp_total.trans c a b (is_less (slice_cmp nat_cmp c a) smaller) less)

-- the smaller of two labels has fewer smaller ones
rank_lt : (d : List (Option (List ℕ))) (a b : List ℕ) (k : ℕ) → label_at d k ≡ Some a → slice_cmp nat_cmp a b ≡ Less → smaller_count a d < smaller_count b d
rank_lt d a b k held less =
    count_lt (is_smaller a) (is_smaller b) (smaller_too a b less) d k None (within_of d k a held)
    (ap (is_smaller a) held ∙ ap is_lt (tied_itself nat_list_cmp_total a)) (ap (is_smaller b) held ∙ ap is_lt less)

same_rank : (d : List (Option (List ℕ))) (a b : List ℕ) (j k : ℕ) → label_at d j ≡ Some a → label_at d k ≡ Some b → smaller_count a d ≡ smaller_count b d → a ≡ b
same_rank d a b j k is_a is_b same = by_order (slice_cmp nat_cmp a b) refl
  where
    by_order : (o : Ordering) → slice_cmp nat_cmp a b ≡ o → a ≡ b
    by_order Less is = absurd (omega (arith, rank_lt d a b j is_a is, same))
    by_order Equal is = equal_same a b is
    by_order Greater is = absurd (omega (arith, rank_lt d b a k is_b (nat_list_cmp_total.antisymm b a ∙ ap ordering_reverse is), same))

-- the first label that passes a test that only one label passes
module _ (test : Option (List ℕ) → Bool) (blank : test None ≡ false) (label : List ℕ) where
  skip : (rest : List (Option (List ℕ))) (o : Option (List ℕ)) → test o ≡ false → first_label (filter test (o ∷ rest)) ≡ first_label (filter test rest)
  skip rest o fails = ap (λ t. first_label (cond t (o ∷ filter test rest) (filter test rest))) fails

  first_is : (d : List (Option (List ℕ))) (k : ℕ) → label_at d k ≡ Some label → test (Some label) ≡ true
      → ((j : ℕ) (other : List ℕ) → label_at d j ≡ Some other → test (Some other) ≡ true → other ≡ label)
      → first_label (filter test d) ≡ label
  first_is [] k held passes only = absurd (none_some label held)
  first_is (None ∷ rest) zero held passes only = absurd (none_some label held)
  first_is (None ∷ rest) (suc k) held passes only = skip rest None blank ∙ first_is rest k held passes (λ j other at holds. only (suc j) other at holds)
  first_is (Some l ∷ rest) k held passes only =
      by_test (test (Some l)) refl (λ j at. first_is rest j at passes (λ n other there holds. only (suc n) other there holds))
    where
      by_place : (k : ℕ) → label_at (Some l ∷ rest) k ≡ Some label → test (Some l) ≡ false
          → ((j : ℕ) → label_at rest j ≡ Some label → first_label (filter test rest) ≡ label) → first_label (filter test (Some l ∷ rest)) ≡ label
      by_place zero held fails later =
          let same : l ≡ label = cc in let wrong : true ≡ false = sym passes ∙ ap (λ x. test (Some x)) (sym same) ∙ fails in cc
      by_place (suc k) held fails later = skip rest (Some l) fails ∙ later k held

      by_test : (t : Bool) → test (Some l) ≡ t → ((j : ℕ) → label_at rest j ≡ Some label → first_label (filter test rest) ≡ label)
          → first_label (filter test (Some l ∷ rest)) ≡ label
      by_test true holds later = ap (λ t. first_label (cond t (Some l ∷ filter test rest) (filter test rest))) holds ∙ only 0 l refl holds
      by_test false fails later = by_place k held fails later

-- the label that so many are smaller than
pub nth_is : (index : ℕ) (d : List (Option (List ℕ))) (label : List ℕ) → IsNth index d label → nth_label d index ≡ label
nth_is index d label nth =
    first_is (has_rank index d) refl label d nth.place nth.held (eq-eqb (smaller_count label d) index nth.smaller)
    (λ j other at holds. same_rank d other label j nth.place at nth.held (eqb-true (smaller_count other d) index holds ∙ sym nth.smaller))
