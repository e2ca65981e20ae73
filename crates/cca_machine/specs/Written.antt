-- What a request writes of a disk.
use Rattle.std.specs.Prelude.{◌≡◌, ◌≢◌, ◌*◌, ℕ, List, slice_index}
use Rattle.std.proofs.Common.{sym, subst}
use Rattle.device_cells.specs.Cells.{body, IsUntouched}
use Rattle.device_cells.specs.Ranges.{SameOutside}
use Rattle.device_cells.specs.SpareBytes.{SameSpare}
use Rattle.device_cells.proofs.SpareLemmas.{same_spare, change_spare, spare_untouched}
use Rattle.record_bodies.specs.Leaving.{LeavesRest}
use Rattle.cca_machine.specs.Act.{Cells, NoCell, OneCell, ChangedCells}

-- new is old outside this cell, and in it but for the selector and the body that wasn't selected; every other cell selects
-- the body that it did
pub record SameButCell (cell : ℕ) (old new : List ℕ) : Type 0 where
  pub outside : SameOutside (1536 * cell) 1536 old new
  pub others : (n : ℕ) → n ≢ cell → body new n ≡ body old n
  pub untouched : (k : ℕ) → IsUntouched old cell k → slice_index new k ≡ slice_index old k

-- new is old but for these cells; where no cell is written, new is old
abbrev pub SameBut : Cells → List ℕ → List ℕ → Type 0
SameBut NoCell old new = new ≡ old
SameBut (OneCell cell) old new = SameButCell cell old new
SameBut (ChangedCells a labels) old new = LeavesRest a labels 1024 old new

-- where no other cells change, no byte changes outside selectors and bodies
pub same_but_spare : (cells : Cells) (old new : List ℕ) → SameBut cells old new → SameSpare old new
same_but_spare NoCell old new same = subst (SameSpare old) (sym same) (same_spare old)
same_but_spare (OneCell cell) old new same = change_spare cell old new same.outside same.untouched
same_but_spare (ChangedCells a labels) old new same =
    record { size = same.size; spare = λ k is. same.same k (λ n below changed. spare_untouched old n k is) }
