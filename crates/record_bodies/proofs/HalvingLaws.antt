-- Halving an ascending list.
use Rattle.std.proofs.Common.{◌≡◌, ◌≤◌, ◌<◌, ◌+◌, ◌*◌, ◌^◌, ℕ, List, length, Equal, Greater, refl, sym, ap, subst, ◌∙◌, ⊎_elim, arith}
use Rattle.std.specs.Cmp.Lexicographic.{slice_cmp}
use Rattle.std.specs.Ordering.{nat_cmp, is_eq, ordering_reverse}
use Rattle.std.specs.Str.{bytes_eq}
use Rattle.std.proofs.Math.Nat.{mul_assoc}
use Rattle.std.proofs.lemmas.Bool.{cases_eq}
use Rattle.std.proofs.lemmas.Bool.Decides.{nat_tests}
use Rattle.std.proofs.lemmas.Cmp.{nat_list_cmp_total, same_from_slice_cmp}
use Rattle.std.proofs.lemmas.Nat.{mul-le, pow-add}
use Rattle.std.proofs.lemmas.Slice.Eq.{bytes_eq-Decides}
use Rattle.record_bodies.specs.Ascending.{AreAscending, IsBefore, text_at}

pub greater_before : (a b : List ℕ) → slice_cmp nat_cmp a b ≡ Greater → IsBefore b a
greater_before a b is = nat_list_cmp_total.antisymm b a ∙ ap ordering_reverse is

pub equal_same : (a b : List ℕ) → slice_cmp nat_cmp a b ≡ Equal → a ≡ b
equal_same a b is = (bytes_eq-Decides a b).0 (sym (same_from_slice_cmp nat_cmp is_eq bytes_eq refl (λ _ _. refl) (λ _ _. refl) (λ x y xs ys o h. grind (arith, nat_tests)) a b (slice_cmp nat_cmp a b) refl) ∙ ap is_eq is)

module _ (labels : List (List ℕ)) (ascending : AreAscending labels) (label : List ℕ) (middle : ℕ) (within : middle < length labels) where
  pub before_middle : IsBefore (text_at labels middle) label → (k : ℕ) → k < middle + 1 → IsBefore (text_at labels k) label
  before_middle less k below = ⊎_elim
      (λ (is : k ≡ middle). subst (λ (n : ℕ). IsBefore (text_at labels n) label) (sym is) less)
      (λ (other : k ≡ middle → ⊥). nat_list_cmp_total.trans (text_at labels k) (text_at labels middle) label (ascending.each k middle (omega arith) within) less)
      (cases_eq k middle)

  pub after_middle : IsBefore label (text_at labels middle) → (k : ℕ) → middle ≤ k → k < length labels → IsBefore label (text_at labels k)
  after_middle less k above inside = ⊎_elim
      (λ (is : k ≡ middle). subst (λ (n : ℕ). IsBefore label (text_at labels n)) (sym is) less)
      (λ (other : k ≡ middle → ⊥). nat_list_cmp_total.trans label (text_at labels middle) (text_at labels k) less (ascending.each middle k (omega arith) inside))
      (cases_eq k middle)

-- a step halves what is left
pub halved : (k w v n : ℕ) → 2 ^ k * w ≤ n → 0 < w → 2 * v ≤ w → (2 ^ (k + 1) * v ≤ n) × (2 ^ (k + 1) ≤ 2 * n + 1)
halved k w v n so_far some half =
    let double : 2 ^ (k + 1) ≡ 2 ^ k * 2 = pow-add 2 k 1 in
    let left : 2 ^ k * (2 * v) ≤ 2 ^ k * w = mul-le (2 ^ k) (2 * v) (2 ^ k) w (omega arith) half in
    let one : 2 ^ k * 1 ≤ 2 ^ k * w = mul-le (2 ^ k) 1 (2 ^ k) w (omega arith) some in
    let parts : 2 ^ (k + 1) * v ≡ 2 ^ k * (2 * v) = ap (λ p. p * v) double ∙ mul_assoc (2 ^ k) 2 v in
    (omega (arith, parts, left, so_far), omega (arith, double, one, so_far))
