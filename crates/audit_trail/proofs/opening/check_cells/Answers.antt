use Rattle.std.proofs.Common.{◌≡◌, ◌+◌, inr, ℕ, Some, Err, refl, sym, ap, subst, ◌∙◌, arith}
use Rattle.std.proofs.lemmas.Bool.{both_ways}
use Rattle.device_cells.proofs.Media.{keeps_then, told_joined, told_next}
use Rattle.device_cells.specs.Medium.{Told}
use Rattle.audit_trail.specs.Opening.{CellReads, Scanned, Checked}
use Rattle.audit_trail.specs.TrailStands.{IsStray, IsFirstStale}
use Rattle.audit_trail.specs.declared.faults.TrailFault.TheVariants.{DiskFault, Damaged}
use Rattle.audit_trail.proofs.MediumLaws.{same_fault, named_within}
use Rattle.audit_trail.proofs.OpeningLaws.{no_stray, checked_more, stale_first}
use Rattle.audit_trail.proofs.OpenedLaws.{failed_then}
use Rattle.audit_trail.proofs.ReadingLaws.{ok_not_err, err_as, damaged_not_of_disk, one_cell}
use Rattle.audit_trail.proofs.opening.check_cells.Goals as goal

pub returns-then-not-is_same-clause-damaged : goal.returns-then-not-is_same-clause-damaged
returns-then-not-is_same-clause-damaged g c n is =
    let cell : ℕ = c.loop-cell.cell in
    let last : ℕ = c.args.last in
    let m0 = g.T.Disk.medium c.args.trail.now in
    let same : cell ≡ n = sym (one_cell cell n is) in
    subst (λ (k : ℕ). Told m0 (λ image. IsFirstStale image last k)) same
    (told_next m0 (g.T.Disk.medium c.loop-cell.trail) (λ image. Scanned image 4096 (Some last) × Checked image last cell) (λ image. CellReads image cell c.in-Ok.number) (λ image. IsFirstStale image last cell)
    c.loop-cell.invariant.keeps
    (told_joined m0 (λ image. Scanned image 4096 (Some last)) (λ image. Checked image last cell) (λ image. Scanned image 4096 (Some last) × Checked image last cell) c.requires.scanned c.loop-cell.invariant.checked (λ image x y. (x, y)))
    c.in-Ok.ensures.reads
    (λ image both reads. stale_first image last cell c.in-Ok.number both.0 both.1 c.loop-cell-test.true reads
    (λ equal. both_ways c.is_same.result c.if-not-is_same.true (c.is_same.ensures.1 (equal ∙ sym c.newest_number.ensures)))))

pub returns-in-Err-clause-damaged : goal.returns-in-Err-clause-damaged
returns-in-Err-clause-damaged g c n is =
    let cell : ℕ = c.loop-cell.cell in
    let refused = c.read_number.ensures.damaged n (c.in-Err.is ∙ ap Err (same_fault c.in-Err.fault (Damaged n) is)) in
    told_next (g.T.Disk.medium c.args.trail.now) (g.T.Disk.medium c.loop-cell.trail) (λ image. Scanned image 4096 (Some c.args.last)) (λ image. IsStray image cell) (λ image. IsFirstStale image c.args.last n)
    c.loop-cell.invariant.keeps c.requires.scanned refused.1
    (λ image scanned stray. absurd (no_stray image (Some c.args.last) scanned cell c.loop-cell-test.true stray))

pub read_number-requires-clause-size : goal.read_number-requires-clause-size
read_number-requires-clause-size g c = c.loop-cell.invariant.keeps.moments.size ∙ c.requires.size

pub read_number-requires-clause-below : goal.read_number-requires-clause-below
read_number-requires-clause-below g c = c.loop-cell-test.true

pub returns-in-Err-clause-checked : goal.returns-in-Err-clause-checked
returns-in-Err-clause-checked g c = tt

pub returns-in-Err-clause-faults : goal.returns-in-Err-clause-faults
returns-in-Err-clause-faults g c = named_within c.loop-cell.cell c.in-Err.fault c.loop-cell-test.true c.in-Err.ensures.faults

pub returns-in-Err-clause-keeps : goal.returns-in-Err-clause-keeps
returns-in-Err-clause-keeps g c = keeps_then (g.T.Disk.medium c.args.trail.now) (g.T.Disk.medium c.loop-cell.trail) (g.T.Disk.medium c.read_number.new.trail) c.loop-cell.invariant.keeps c.read_number.ensures.keeps

pub returns-in-Err-clause-later : goal.returns-in-Err-clause-later
returns-in-Err-clause-later g c = omega (arith, c.loop-cell.invariant.quiet, c.read_number.ensures.later)

pub returns-in-Err-clause-failed : goal.returns-in-Err-clause-failed
returns-in-Err-clause-failed g c is = failed_then (g.T.Disk.faults c.args.trail.now) (g.T.Disk.faults c.loop-cell.trail) (g.T.Disk.faults c.read_number.new.trail) _ c.loop-cell.invariant.quiet c.in-Err.ensures.failed (err_as c.in-Err.fault DiskFault is)

pub returns-in-Err-clause-quiet : goal.returns-in-Err-clause-quiet
returns-in-Err-clause-quiet g c never = c.in-Err.ensures.quiet (λ h. never (err_as c.in-Err.fault DiskFault h)) ∙ c.loop-cell.invariant.quiet

pub newest_number-requires : goal.newest_number-requires
newest_number-requires g c = c.loop-cell-test.true

pub returns-then-not-is_same-clause-checked : goal.returns-then-not-is_same-clause-checked
returns-then-not-is_same-clause-checked g c = tt

pub returns-then-not-is_same-clause-faults : goal.returns-then-not-is_same-clause-faults
returns-then-not-is_same-clause-faults g c = inr (c.loop-cell.cell, c.loop-cell-test.true, refl)

pub returns-then-not-is_same-clause-keeps : goal.returns-then-not-is_same-clause-keeps
returns-then-not-is_same-clause-keeps g c = keeps_then (g.T.Disk.medium c.args.trail.now) (g.T.Disk.medium c.loop-cell.trail) (g.T.Disk.medium c.read_number.new.trail) c.loop-cell.invariant.keeps c.read_number.ensures.keeps

pub returns-then-not-is_same-clause-later : goal.returns-then-not-is_same-clause-later
returns-then-not-is_same-clause-later g c = omega (arith, c.loop-cell.invariant.quiet, c.read_number.ensures.later)

pub returns-then-not-is_same-clause-failed : goal.returns-then-not-is_same-clause-failed
returns-then-not-is_same-clause-failed g c is = absurd (damaged_not_of_disk c.loop-cell.cell is)

pub returns-then-not-is_same-clause-quiet : goal.returns-then-not-is_same-clause-quiet
returns-then-not-is_same-clause-quiet g c never = c.in-Ok.ensures.quiet (ok_not_err c.in-Ok.number DiskFault) ∙ c.loop-cell.invariant.quiet

pub loop-cell-preserved : goal.loop-cell-preserved
loop-cell-preserved g c =
    let cell : ℕ = c.loop-cell.cell in
    let last : ℕ = c.args.last in
    record {
      checked = told_next (g.T.Disk.medium c.args.trail.now) (g.T.Disk.medium c.loop-cell.trail) (λ image. Checked image last cell) (λ image. CellReads image cell c.in-Ok.number) (λ image. Checked image last (cell + 1))
          c.loop-cell.invariant.keeps c.loop-cell.invariant.checked c.in-Ok.ensures.reads
          (λ image checked reads. checked_more image last cell c.in-Ok.number checked reads (c.is_same.ensures.0 c.if-not-is_same.false ∙ c.newest_number.ensures));
      keeps = keeps_then (g.T.Disk.medium c.args.trail.now) (g.T.Disk.medium c.loop-cell.trail) (g.T.Disk.medium c.read_number.new.trail) c.loop-cell.invariant.keeps c.read_number.ensures.keeps;
      quiet = c.in-Ok.ensures.quiet (ok_not_err c.in-Ok.number DiskFault) ∙ c.loop-cell.invariant.quiet;
    }

pub returns-clause-damaged : goal.returns-clause-damaged
returns-clause-damaged g c n is = absurd (ok_not_err tt (Damaged n) is)

pub returns-clause-faults : goal.returns-clause-faults
returns-clause-faults g c = tt

pub returns-clause-keeps : goal.returns-clause-keeps
returns-clause-keeps g c = c.loop-cell.invariant.keeps

pub returns-clause-later : goal.returns-clause-later
returns-clause-later g c = omega (arith, c.loop-cell.invariant.quiet)

pub returns-clause-failed : goal.returns-clause-failed
returns-clause-failed g c is = absurd (ok_not_err tt DiskFault is)

pub returns-clause-quiet : goal.returns-clause-quiet
returns-clause-quiet g c never = c.loop-cell.invariant.quiet
