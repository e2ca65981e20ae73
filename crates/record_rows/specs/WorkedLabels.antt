-- Texts that are labels or none, and the places of labels in the order in which a store lists them.
use Rattle.std.specs.Prelude.{◌≡◌, true, false, List, [], ◌∷◌, ℕ, Option, codes, None, Some}
use Rattle.record_bodies.specs.Labels.{is_label}
use Rattle.record_bodies.specs.Rank.{smaller_count}

-- four labels as their cells hold them, and a cell without a label
abbrev pub worked_cells : List (Option (List ℕ))
worked_cells =
    Some (codes "KEY.1") ∷ None ∷ Some (codes "A.Z") ∷ Some (codes "KEY") ∷ Some (codes "A0") ∷ []

pub record LabelsStand : Type 0 where
  pub with_period : is_label (codes "PAY.1") ≡ true
  pub digit_first : is_label (codes "1PAY") ≡ false
  pub period_first : is_label (codes ".PAY") ≡ false
  pub small_letter : is_label (codes "Pay") ≡ false
  pub empty : is_label [] ≡ false
  pub first : smaller_count (codes "A.Z") worked_cells ≡ 0
  pub second : smaller_count (codes "A0") worked_cells ≡ 1
  pub third : smaller_count (codes "KEY") worked_cells ≡ 2
  pub last : smaller_count (codes "KEY.1") worked_cells ≡ 3
