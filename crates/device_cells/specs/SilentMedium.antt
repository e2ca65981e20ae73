-- A disk that tells nothing but its size.
use Rattle.std.specs.Prelude.{◌≡◌, ℕ, List, None, Some}
use Rattle.device_cells.specs.Medium.{Medium}

pub nothing_told : {P : Type 0} (c : List ℕ) → None ≡ Some c → P
nothing_told c is = cc

abbrev pub silent : ℕ → Medium
silent size = record {
  size = size;
  content = None;
  images = λ _. ⊥;
  moment = 0;
  since = λ _ _. ⊥;
  sized = λ c is. nothing_told c is;
  is_image = λ c is. nothing_told c is;
  counts_now = λ t c le none. none;
  only_now = λ c none. none;
}
