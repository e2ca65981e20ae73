-- Bytes with a parity, and lists of which each element is replaced by a function of it.
use Rattle.std.proofs.Common.{◌≡◌, ℕ, zero, suc, ◌+◌, ◌%◌, ◌<◌, true, List, [], ◌∷◌, ◌++◌, length, get_or, set, map, take, drop, eqb, refl, sym, ap, ◌∙◌, arith, add-one}
use Rattle.std.specs.Prelude.{count_ones}
use Rattle.std.proofs.lemmas.Bool.{agree_below_at, eqb-true}
use Rattle.verb_rules.specs.Parity.{odd_byte, IsOdd}

pub odd_byte_odd : (byte : ℕ) → byte < 256 → IsOdd (odd_byte byte)
unfolding lib.Count.ones
odd_byte_odd byte fits =
    eqb-true (count_ones (odd_byte byte) % 2) 1
    (agree_below_at (λ b. eqb (count_ones (odd_byte b) % 2) 1) (λ b. true) 256 byte refl fits)

module _ (f : ℕ → ℕ) where
  at_front : (xs : List ℕ) (i : ℕ) → i < length xs → get_or (map f (take i xs) ++ drop i xs) i 0 ≡ get_or xs i 0
  at_front [] i h = absurd (omega arith)
  at_front (x ∷ xs) zero h = refl
  at_front (x ∷ xs) (suc i) h = at_front xs i (omega arith)

  set_front : (xs : List ℕ) (i : ℕ) → i < length xs → set (map f (take i xs) ++ drop i xs) i (f (get_or xs i 0)) ≡ map f (take (suc i) xs) ++ drop (suc i) xs
  set_front [] i h = absurd (omega arith)
  set_front (x ∷ xs) zero h = refl
  set_front (x ∷ xs) (suc i) h = ap (λ r. f x ∷ r) (set_front xs i (omega arith))

  -- one element more of a list is replaced
  pub mapped_more : (xs now : List ℕ) (i value : ℕ) → i < length xs → now ≡ map f (take i xs) ++ drop i xs → value ≡ f (get_or now i 0)
      → set now i value ≡ map f (take (i + 1) xs) ++ drop (i + 1) xs
  mapped_more xs now i value within is made =
      ap (λ l. set l i value) is
      ∙ (ap (set (map f (take i xs) ++ drop i xs) i) (made ∙ (ap (λ l. f (get_or l i 0)) is ∙ ap f (at_front xs i within)))
      ∙ (set_front xs i within ∙ ap (λ n. map f (take n xs) ++ drop n xs) (sym (add-one i))))
