-- Labels in ascending order: one more, and one less.
use Rattle.std.proofs.Common.{◌≡◌, ◌≤◌, ◌<◌, ◌+◌, ◌-◌, ◌⊎◌, inl, inr, ⊎_elim, ℕ, zero, suc, Less, Equal, List, [], ◌∷◌, length, map, refl, sym, ap, ◌∙◌, arith}
use Rattle.std.specs.Cmp.Lexicographic.{slice_cmp}
use Rattle.std.specs.List.{insert, remove}
use Rattle.std.specs.Ordering.{nat_cmp}
use Rattle.std.proofs.lemmas.Bool.{cases_eq, cases_lt}
use Rattle.std.proofs.lemmas.Cmp.{nat_list_cmp_total, tied_itself}
use Rattle.std.proofs.lemmas.List.Edits.{get_or-insert_below, get_or-insert_at, get_or-insert_above, get_or-remove_below, get_or-remove_above, length-insert, length-remove}
use Rattle.record_bodies.specs.Ascending.{AreAscending, IsBefore, IsPlace, text_at}

pub not_itself : (a b : List ℕ) → a ≡ b → IsBefore a b → ⊥
not_itself a b same before = let wrong : Equal ≡ Less = sym (tied_itself nat_list_cmp_total a) ∙ ap (slice_cmp nat_cmp a) same ∙ before in cc

module _ {A B : Type 0} (f : A → B) where
  pub map_insert : (xs : List A) (at : ℕ) (x : A) → map f (insert xs at x) ≡ insert (map f xs) at (f x)
  map_insert xs zero x = refl
  map_insert [] (suc at) x = refl
  map_insert (y ∷ xs) (suc at) x = ap (λ l. f y ∷ l) (map_insert xs at x)

  pub map_remove : (xs : List A) (at : ℕ) → map f (remove xs at) ≡ remove (map f xs) at
  map_remove [] zero = refl
  map_remove [] (suc at) = refl
  map_remove (y ∷ xs) zero = refl
  map_remove (y ∷ xs) (suc at) = ap (λ l. f y ∷ l) (map_remove xs at)

pub ascending_insert : (labels : List (List ℕ)) (at : ℕ) (label : List ℕ) → AreAscending labels → IsPlace labels label at → AreAscending (insert labels at label)
ascending_insert labels at label ascending place = record { each = λ i j below inside. by_place i j below (omega (arith, inside, length-insert labels at label place.within)) (cases_lt j at) (cases_lt i at) }
  where
    text : ℕ → List ℕ
    text k = text_at (insert labels at label) k

    below_is : (k : ℕ) → k < at → text k ≡ text_at labels k
    below_is k low = get_or-insert_below labels at label [] k low place.within

    at_is : (k : ℕ) → k ≡ at → text k ≡ label
    at_is k is = ap (λ n. text_at (insert labels at label) n) is ∙ get_or-insert_at labels at label [] place.within

    above_is : (k : ℕ) → at < k → text k ≡ text_at labels (k - 1)
    above_is k high = let split : k ≡ (k - 1) + 1 = omega arith in ap (λ n. text_at (insert labels at label) n) split ∙ get_or-insert_above labels at label [] (k - 1) (omega arith) place.within

    moved : (a b x y : List ℕ) → a ≡ x → b ≡ y → IsBefore x y → IsBefore a b
    moved a b x y a_is b_is before = ap (λ l. slice_cmp nat_cmp l b) a_is ∙ ap (slice_cmp nat_cmp x) b_is ∙ before

    by_place : (i j : ℕ) → i < j → j ≤ length labels → (j < at) ⊎ (at ≤ j) → (i < at) ⊎ (at ≤ i) → IsBefore (text i) (text j)
    by_place i j below inside (inl j_low) i_side = moved (text i) (text j) (text_at labels i) (text_at labels j) (below_is i (omega arith)) (below_is j j_low) (ascending.each i j below (omega (arith, place.within)))
    by_place i j below inside (inr j_high) (inl i_low) = ⊎_elim
        (λ (is : j ≡ at). moved (text i) (text j) (text_at labels i) label (below_is i i_low) (at_is j is) (place.before i i_low))
        (λ (other : j ≡ at → ⊥). moved (text i) (text j) (text_at labels i) (text_at labels (j - 1)) (below_is i i_low) (above_is j (omega arith)) (ascending.each i (j - 1) (omega arith) (omega arith)))
        (cases_eq j at)
    by_place i j below inside (inr j_high) (inr i_high) = ⊎_elim
        (λ (is : i ≡ at). moved (text i) (text j) label (text_at labels (j - 1)) (at_is i is) (above_is j (omega arith)) (place.after (j - 1) (omega arith) (omega arith)))
        (λ (other : i ≡ at → ⊥). moved (text i) (text j) (text_at labels (i - 1)) (text_at labels (j - 1)) (above_is i (omega arith)) (above_is j (omega arith)) (ascending.each (i - 1) (j - 1) (omega arith) (omega arith)))
        (cases_eq i at)

pub ascending_remove : (labels : List (List ℕ)) (at : ℕ) → AreAscending labels → at < length labels → AreAscending (remove labels at)
ascending_remove labels at ascending within = record { each = λ i j below inside. by_place i j below (omega (arith, inside, length-remove labels at within)) (cases_lt j at) (cases_lt i at) }
  where
    text : ℕ → List ℕ
    text k = text_at (remove labels at) k

    moved : (a b x y : List ℕ) → a ≡ x → b ≡ y → IsBefore x y → IsBefore a b
    moved a b x y a_is b_is before = ap (λ l. slice_cmp nat_cmp l b) a_is ∙ ap (slice_cmp nat_cmp x) b_is ∙ before

    by_place : (i j : ℕ) → i < j → j + 1 < length labels → (j < at) ⊎ (at ≤ j) → (i < at) ⊎ (at ≤ i) → IsBefore (text i) (text j)
    by_place i j below inside (inl j_low) i_side = moved (text i) (text j) (text_at labels i) (text_at labels j) (get_or-remove_below labels at [] i (omega arith) within) (get_or-remove_below labels at [] j j_low within) (ascending.each i j below (omega arith))
    by_place i j below inside (inr j_high) (inl i_low) = moved (text i) (text j) (text_at labels i) (text_at labels (j + 1)) (get_or-remove_below labels at [] i i_low within) (get_or-remove_above labels at [] j j_high within) (ascending.each i (j + 1) (omega arith) inside)
    by_place i j below inside (inr j_high) (inr i_high) = moved (text i) (text j) (text_at labels (i + 1)) (text_at labels (j + 1)) (get_or-remove_above labels at [] i i_high within) (get_or-remove_above labels at [] j j_high within) (ascending.each (i + 1) (j + 1) (omega arith) inside)
