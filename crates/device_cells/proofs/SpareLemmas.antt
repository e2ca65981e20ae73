-- What changes of cells leave of the other bytes of a disk.
use Rattle.std.proofs.Common.{◌≡◌, ◌≢◌, ◌<◌, inl, inr, ⊎_elim, ℕ, ◌+◌, ◌-◌, ◌*◌, List, get_or, refl, sym, ◌∙◌, subst, arith}
use Rattle.std.proofs.lemmas.Bool.{cases_eq}
use Rattle.device_cells.specs.Cells.{selected, body, other_body, IsOutside, IsUntouched, IsReplaced}
use Rattle.device_cells.specs.Medium.{Medium, Becomes}
use Rattle.device_cells.specs.Ranges.{SameOutside}
use Rattle.device_cells.specs.SpareBytes.{IsSpare, SameSpare, SameCell, HasTurned, Turned}
use Rattle.device_cells.proofs.CellSteps.{selected_below, elsewhere}
use Rattle.device_cells.proofs.Media.{becomes_weaker, becomes_both}

pub same_spare : (image : List ℕ) → SameSpare image image
same_spare image = record { size = refl; spare = λ k is. refl }

pub same_spare_then : (a b c : List ℕ) → SameSpare a b → SameSpare b c → SameSpare a c
same_spare_then a b c one two = record {
  size = two.size ∙ one.size;
  spare = λ k is. two.spare k is ∙ one.spare k is;
}

pub turned_same : (count : ℕ) (image : List ℕ) → Turned count image image
turned_same count image = record { same = same_spare image; cells = λ n below. inl (λ k within. refl) }

-- ---- a change of one cell

pub spare_untouched : (image : List ℕ) (n k : ℕ) → IsSpare k → IsUntouched image n k
spare_untouched image n k is =
    ((is n).0, by_side (1 - selected image n) (omega (arith, selected_below image n)))
  where
    by_side : (side : ℕ) → side < 2 → IsOutside n side k
    by_side side low = ⊎_elim
        (λ (first : side ≡ 0). subst (λ s. IsOutside n s k) (sym first) (is n).1)
        (λ (second : side ≢ 0). let one : 1 ≡ side = omega arith in subst (λ s. IsOutside n s k) one (is n).2)
        (cases_eq side 0)

module _ (n : ℕ) (old new : List ℕ) (outside : SameOutside (1536 * n) 1536 old new)
    (untouched : (k : ℕ) → IsUntouched old n k → get_or new k 0 ≡ get_or old k 0) where
  pub change_spare : SameSpare old new
  change_spare = record { size = outside.size; spare = λ k is. untouched k (spare_untouched old n k is) }

  other_cell : (m : ℕ) → m ≢ n → SameCell m old new
  other_cell m other k within = ⊎_elim
      (λ before. outside.before (1536 * m + k) (omega arith))
      (λ behind. outside.after (1536 * m + k) (omega arith))
      (elsewhere n m other)

  pub change_turned : (count : ℕ) → get_or new (1536 * n) 0 < 2 → other_body new n ≡ body old n → Turned count old new
  change_turned count selector other = record {
    same = change_spare;
    cells = λ m below. ⊎_elim
        (λ (here : m ≡ n). inr (subst (λ c. HasTurned c old new) (sym here) (selector, other)))
        (λ apart. inl (other_cell m apart))
        (cases_eq m n);
  }

pub replaced_turned : (n : ℕ) (bytes old new : List ℕ) → IsReplaced n bytes old new → (count : ℕ) → Turned count old new
replaced_turned n bytes old new by count = change_turned n old new by.outside by.untouched count by.selector by.other

-- ---- over a disk

module _ (n count : ℕ) (m0 m1 : Medium) where
  pub becomes_turned : (bytes : List ℕ) → Becomes (IsReplaced n bytes) m0 m1 → Becomes (Turned count) m0 m1
  becomes_turned bytes becomes = becomes_weaker m0 m1 (IsReplaced n bytes) (Turned count) becomes
      (λ b c by. replaced_turned n bytes b c by count)

  -- a change of one cell, which has turned
  pub changed_turned : (change : List ℕ → List ℕ → Type 0) → Becomes change m0 m1 → Becomes (HasTurned n) m0 m1
      → ((b c : List ℕ) → change b c → SameOutside (1536 * n) 1536 b c)
      → ((b c : List ℕ) → change b c → (k : ℕ) → IsUntouched b n k → get_or c k 0 ≡ get_or b k 0)
      → Becomes (Turned count) m0 m1
  changed_turned change changed turned outside untouched =
      becomes_weaker m0 m1 (λ b c. change b c × HasTurned n b c) (Turned count) (becomes_both m0 m1 change (HasTurned n) changed turned)
      (λ b c both. change_turned n b c (outside b c both.0) (untouched b c both.0) count both.1.0 both.1.1)
