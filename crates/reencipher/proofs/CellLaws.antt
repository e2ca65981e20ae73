-- Bytes of cells that a run leaves.
use Rattle.std.proofs.Common.{◌≡◌, ◌≢◌, ◌≤◌, ◌<◌, ◌+◌, ◌-◌, ◌*◌, ◌%◌, ◌⊎◌, inl, inr, ⊎_elim, ℕ, List, Option, length, min, refl, sym, ap, subst, ◌∙◌, arith}
use Rattle.std.specs.Prelude.{slice_index, slice_range}
use Rattle.std.proofs.lemmas.Bool.{cases_lt}
use Rattle.std.proofs.lemmas.Grind.{same_number_lists}
use Rattle.device_cells.specs.Cells.{selected, body_place, body_at, body, other_body, IsUntouched}
use Rattle.device_cells.specs.SpareBytes.{Turned}
use Rattle.device_cells.proofs.CellSteps.{length-range, get_or-range, selected_below}
use Rattle.device_cells.proofs.SpareLemmas.{same_spare_then, spare_untouched}
use Rattle.record_bodies.specs.Entries.{Entry}
use Rattle.key_tokens.specs.Denotes.{MasterKeys}
use Rattle.record_bodies.specs.Further.{further, is_changed}
use Rattle.reencipher.specs.Runs.{IsChanged, LeavesCells, LeavesRest, LeavesOld}
use Rattle.reencipher.specs.Turns.{HoldsTurn, LeavesOther, LeavesCell, StaysOrTurns}
use Rattle.record_bodies.specs.declared.actions.StoreAction.{StoreAction}
use Rattle.record_bodies.proofs.FurtherLaws.{further_here}

-- ---- a cell whose bytes stay

same_selected : (old new : List ℕ) (n : ℕ) → slice_index new (1536 * n) ≡ slice_index old (1536 * n) → selected new n ≡ selected old n
unfolding selected
same_selected old new n is = ap (λ b. b % 2) is

same_range : (old new : List ℕ) (at n : ℕ) → length new ≡ length old → ((k : ℕ) → k < n → slice_index new (at + k) ≡ slice_index old (at + k)) → slice_range new at (at + n) ≡ slice_range old at (at + n)
same_range old new at n long same = same_number_lists (slice_range new at (at + n)) (slice_range old at (at + n))
    (length-range new at n ∙ ap (λ (l : ℕ). min n (l - at)) long ∙ sym (length-range old at n))
    (λ k within. let below : k < n = omega (arith, length-range new at n, within) in get_or-range new at n k below ∙ same k below ∙ sym (get_or-range old at n k below))

module _ (old new : List ℕ) (n : ℕ) (long : length new ≡ length old) (same : (k : ℕ) → 1536 * n ≤ k → k < 1536 * n + 1536 → slice_index new k ≡ slice_index old k) where
  stays_selected : selected new n ≡ selected old n
  stays_selected = same_selected old new n (same (1536 * n) (omega arith) (omega arith))

  stays_side : (side : ℕ) → side < 2 → body_at new n side ≡ body_at old n side
  stays_side side low = same_range old new (body_place n side) 192 long (λ k below. same (body_place n side + k) (omega (arith, low, below)) (omega (arith, low, below)))

  stays_body : body new n ≡ body old n
  unfolding body
  stays_body = ap (λ s. body_at new n s) stays_selected ∙ stays_side (selected old n) (selected_below old n)

  stays_other : other_body new n ≡ other_body old n
  unfolding other_body
  stays_other = ap (λ s. body_at new n (1 - s)) stays_selected ∙ stays_side (1 - selected old n) (omega arith)

-- ---- what a change of another cell doesn't touch

lower_cells : (image : List ℕ) (cell n k : ℕ) → n < cell → 1536 * cell ≤ k → IsUntouched image n k
lower_cells image cell n k below at =
    let side : selected image n < 2 = selected_below image n in
    (λ same. omega (arith, same, below, at), inr (omega (arith, side, below, at)))

higher_cells : (image : List ℕ) (cell n k : ℕ) → n < cell → k < 1536 * n + 1536 → IsUntouched image cell k
higher_cells image cell n k below at = (λ same. omega (arith, same, below, at), inl (omega (arith, below, at)))

abbrev untouched_by : ℕ → ℕ → ℕ → Type 0
untouched_by side n k = (k ≢ 1536 * n) × ((k < 1536 * n + 512 * (1 + (1 - side))) ⊎ (1536 * n + 512 * (1 + (1 - side)) + 192 ≤ k))

pub leaves_none : (P : ℕ → Type 0) (image : List ℕ) → LeavesCells P 0 image image
leaves_none P image = record { size = refl; same = λ k untouched. refl }

pub leaves_no_old : (a : StoreAction) (s : List (Option Entry)) (image : List ℕ) → LeavesOld a s 0 image image
leaves_no_old a s image n below = absurd (omega (arith, below))

-- a run so far, and one cell's turn
module _ (P : ℕ → Type 0) (cell : ℕ) (b c d : List ℕ) (first : LeavesCells P cell b c) (turn : LeavesCell (P cell) cell c d) where
  at_cell : (k : ℕ) → 1536 * cell ≤ k → k < 1536 * cell + 1536 → slice_index c k ≡ slice_index b k
  at_cell k at below = first.same k (λ n under old. lower_cells b cell n k under at)

  pub leaves_next : LeavesCells P (cell + 1) b d
  leaves_next = record {
    size = turn.size ∙ first.size;
    same = λ k untouched.
        turn.same k (λ old. subst (λ side. untouched_by side cell k) (sym (stays_selected b c cell first.size at_cell))
        (untouched cell (omega arith) old))
        ∙ first.same k (λ n below. untouched n (omega (arith, below)));
  }

  lower_stays : (n : ℕ) → n < cell → (k : ℕ) → 1536 * n ≤ k → k < 1536 * n + 1536 → slice_index d k ≡ slice_index c k
  lower_stays n under k at within = turn.same k (λ now. higher_cells c cell n k under within)

  -- the cells below stay as they are, and this one was as it was
  pub turned_next : Turned cell b c → StaysOrTurns cell c d → Turned (cell + 1) b d
  turned_next so_far here = record {
    same = same_spare_then b c d so_far.same (record { size = turn.size; spare = λ k is. turn.same k (λ may. spare_untouched c cell k is) });
    cells = λ n below. ⊎_elim
        (λ (under : n < cell). ⊎_elim
        (λ same. inl (λ k within. lower_stays n under (1536 * n + k) (omega arith) (omega (arith, within)) ∙ same k within))
        (λ turned. inr (
          subst (λ (v : ℕ). v < 2) (sym (lower_stays n under (1536 * n) (omega arith) (omega arith))) turned.0,
          stays_other c d n turn.size (lower_stays n under) ∙ turned.1,
        ))
        (so_far.cells n under))
        (λ (above : cell ≤ n).
        let is : cell ≡ n = omega (arith, below, above) in
        subst (λ m. StaysOrTurns m b d) is (⊎_elim
        (λ same. inl (λ k within. same k within ∙ at_cell (1536 * cell + k) (omega arith) (omega (arith, within))))
        (λ turned. inr (turned.0, turned.1 ∙ stays_body b c cell first.size at_cell))
        here))
        (cases_lt n cell);
  }

pub leaves_weaker : (P Q : Type 0) (cell : ℕ) (old new : List ℕ) → (P → Q) → LeavesCell P cell old new → LeavesCell Q cell old new
leaves_weaker P Q cell old new weaker leaves = record { size = leaves.size; same = λ k untouched. leaves.same k (λ p. untouched (weaker p)) }

module _ (a : StoreAction) (masters : MasterKeys) (s : List (Option Entry)) (cell : ℕ) (b c d : List ℕ) (first : LeavesRest a s cell b c) (turn : HoldsTurn a masters cell (further a s cell) c d) where
  in_cell : (k : ℕ) → 1536 * cell ≤ k → k < 1536 * cell + 1536 → slice_index c k ≡ slice_index b k
  in_cell k at below = first.same k (λ n under old. lower_cells b cell n k under at)

  pub leaves_more : LeavesRest a s (cell + 1) b d
  leaves_more = leaves_next (IsChanged a s) cell b c d first (record {
    size = turn.size;
    same = λ k untouched. turn.same k (λ old. untouched (sym (ap (is_changed a) (further_here a s cell)) ∙ old));
  })

  pub leaves_more_old : LeavesOld a s cell b c → LeavesOther a cell (further a s cell) c d → LeavesOld a s (cell + 1) b d
  leaves_more_old so_far here n below old = ⊎_elim
      (λ (under : n < cell). stays_other c d n turn.size (λ k at within. turn.same k (λ now. higher_cells c cell n k under within)) ∙ so_far n under old)
      (λ (above : cell ≤ n).
      let is : n ≡ cell = omega (arith, below, above) in
      subst (λ i. other_body d i ≡ body b i) (sym is)
      (here (ap (is_changed a) (further_here a s cell) ∙ subst (IsChanged a s) is old) ∙ stays_body b c cell first.size in_cell))
      (cases_lt n cell)

pub leaves_all : (P : ℕ → Type 0) (cells : ℕ) (old new : List ℕ) → cells ≤ 1024 → LeavesCells P cells old new → LeavesCells P 1024 old new
leaves_all P cells old new within rest = record { size = rest.size; same = λ k untouched. rest.same k (λ n below. untouched n (omega (arith, below, within))) }
