-- Images of a disk that differ in a range of bytes alone.
use Rattle.std.specs.Prelude.{◌≡◌, ◌≤◌, ◌<◌, ℕ, ◌+◌, suc, zero, List, [], ◌∷◌, length, slice_index}

-- new is as long as old, and as old but for the n bytes from `at` on
pub record SameOutside (at n : ℕ) (old new : List ℕ) : Type 0 where
  pub size : length new ≡ length old
  pub before : (k : ℕ) → k < at → slice_index new k ≡ slice_index old k
  pub after : (k : ℕ) → at + n ≤ k → slice_index new k ≡ slice_index old k

-- new is old with these bytes from `at` on
pub record HoldsPiece (at : ℕ) (bytes old new : List ℕ) : Type 0 where
  pub outside : SameOutside at (length bytes) old new
  pub here : (k : ℕ) → k < length bytes → slice_index new (at + k) ≡ slice_index bytes k

-- the list with these bytes from `at` on, as far as it goes
unfoldable pub overwrite : List ℕ → ℕ → List ℕ → List ℕ
overwrite [] at bytes = []
overwrite (x ∷ xs) (suc at) bytes = x ∷ overwrite xs at bytes
overwrite (x ∷ xs) zero [] = x ∷ xs
overwrite (x ∷ xs) zero (b ∷ bytes) = b ∷ overwrite xs zero bytes
