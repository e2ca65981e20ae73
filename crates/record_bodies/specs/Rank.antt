-- Labels in ascending order, as a view of the places: a label by how many are smaller.
use Rattle.std.specs.Prelude.{◌≡◌, ℕ, Bool, false, List, Option, None, Some, count_by}
use Rattle.std.specs.Cmp.Lexicographic.{slice_cmp}
use Rattle.std.specs.Ordering.{nat_cmp, is_lt}
use Rattle.record_bodies.specs.Directory.{label_at}

abbrev pub is_smaller : List ℕ → Option (List ℕ) → Bool
is_smaller label None = false
is_smaller label (Some other) = is_lt (slice_cmp nat_cmp other label)

-- how many labels are smaller
abbrev pub smaller_count : List ℕ → List (Option (List ℕ)) → ℕ
smaller_count label d = count_by (λ o. is_smaller label o) d

-- a label that is held, with exactly `index` smaller ones
pub record IsNth (index : ℕ) (d : List (Option (List ℕ))) (label : List ℕ) : Type 0 where
  pub place : ℕ
  pub held : label_at d place ≡ Some label
  pub smaller : smaller_count label d ≡ index
