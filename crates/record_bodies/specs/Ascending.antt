-- The cells that hold labels, in ascending order of these.
use Rattle.std.specs.Prelude.{◌≡◌, ◌<◌, ◌≤◌, ◌⊎◌, ◌↔◌, ℕ, List, [], ◌∷◌, length, map, get_or, Option, IsSome, unwrap_or}
use Rattle.std.specs.Cmp.Lexicographic.{slice_cmp}
use Rattle.std.specs.Ordering.{nat_cmp}
use Rattle.std.proofs.Common.{Less}
use Rattle.record_bodies.specs.Directory.{label_at}

abbrev pub text_at : List (List ℕ) → ℕ → List ℕ
text_at labels n = get_or labels n []

-- one label stands before another, by their bytes
abbrev pub IsBefore : List ℕ → List ℕ → Type 0
IsBefore a b = slice_cmp nat_cmp a b ≡ Less

pub record AreAscending (labels : List (List ℕ)) : Type 0 where
  pub each : (i j : ℕ) → i < j → j < length labels → IsBefore (text_at labels i) (text_at labels j)

-- where a label that isn't held would stand
pub record IsPlace (labels : List (List ℕ)) (label : List ℕ) (at : ℕ) : Type 0 where
  pub within : at ≤ length labels
  pub before : (k : ℕ) → k < at → IsBefore (text_at labels k) label
  pub after : (k : ℕ) → at ≤ k → k < length labels → IsBefore label (text_at labels k)

-- the label of a cell that holds one
abbrev pub text_in : List (Option (List ℕ)) → ℕ → List ℕ
text_in d n = unwrap_or (label_at d n) []

-- the labels of these cells
abbrev pub labels_of : List (Option (List ℕ)) → List ℕ → List (List ℕ)
labels_of d cells = map (λ n. text_in d n) cells

-- a cell is one of these
abbrev pub IsAmong : List ℕ → ℕ → Type 0
IsAmong [] n = ⊥
IsAmong (c ∷ cells) n = (c ≡ n) ⊎ IsAmong cells n

-- these are exactly the cells that hold a label, in ascending order of their labels
pub record Lists (d : List (Option (List ℕ))) (cells : List ℕ) : Type 0 where
  pub held : (n : ℕ) → IsAmong cells n ↔ IsSome (label_at d n)
  pub ascending : AreAscending (labels_of d cells)
