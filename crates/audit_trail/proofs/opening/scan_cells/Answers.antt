use Rattle.std.proofs.Common.{◌+◌, ℕ, sym, subst, ◌∙◌, arith}
use Rattle.device_cells.specs.Medium.{Told}
use Rattle.device_cells.proofs.Media.{keeps_then, told_next}
use Rattle.std.specs.Prelude.{Option, IfSome, ◌<◌, ◌^◌}
use Rattle.audit_trail.specs.Opening.{CellReads, Scanned}
use Rattle.audit_trail.specs.TrailStands.{IsStray, IsFirstStray}
use Rattle.audit_trail.proofs.OpeningLaws.{scanned_more, stray_first, low_greater}
use Rattle.audit_trail.specs.declared.faults.TrailFault.TheVariants.{DiskFault, Damaged}
use Rattle.audit_trail.proofs.MediumLaws.{named_within}
use Rattle.audit_trail.proofs.OpenedLaws.{failed_then}
use Rattle.audit_trail.proofs.ReadingLaws.{ok_not_err}
use Rattle.audit_trail.proofs.opening.scan_cells.Goals as goal

pub returns-in-Err-clause-damaged : goal.returns-in-Err-clause-damaged
returns-in-Err-clause-damaged g c n is =
    let cell : ℕ = c.loop-cell.cell in
    let refused = c.read_number.ensures.damaged n (c.in-Err.is ∙ is) in
    subst (λ (k : ℕ). Told (g.T.Disk.medium c.args.trail.now) (λ image. IsFirstStray image k)) (sym refused.0)
    (told_next (g.T.Disk.medium c.args.trail.now) (g.T.Disk.medium c.loop-cell.trail) (λ image. Scanned image cell c.loop-cell.last) (λ image. IsStray image cell) (λ image. IsFirstStray image cell)
    c.loop-cell.invariant.keeps c.loop-cell.invariant.scanned refused.1
    (λ image scanned stray. stray_first image cell c.loop-cell.last scanned c.loop-cell-test.true stray))

pub loop-cell-preserved : goal.loop-cell-preserved
loop-cell-preserved g c =
    let cell : ℕ = c.loop-cell.cell in
    record {
      scanned = told_next (g.T.Disk.medium c.args.trail.now) (g.T.Disk.medium c.loop-cell.trail) (λ image. Scanned image cell c.loop-cell.last) (λ image. CellReads image cell c.in-Ok.number)
          (λ image. Scanned image (cell + 1) c.greater-last.result) c.loop-cell.invariant.keeps c.loop-cell.invariant.scanned c.in-Ok.ensures.reads
          (λ image scanned reads. subst (Scanned image (cell + 1)) (sym c.greater-last.ensures) (scanned_more image cell c.loop-cell.last c.in-Ok.number scanned reads));
      low = subst (λ (o : Option ℕ). IfSome o (λ n. n < 2 ^ 63)) (sym c.greater-last.ensures) (low_greater c.loop-cell.last c.in-Ok.number c.loop-cell.invariant.low c.in-Ok.ensures.low);
      keeps = keeps_then (g.T.Disk.medium c.args.trail.now) (g.T.Disk.medium c.loop-cell.trail) (g.T.Disk.medium c.read_number.new.trail) c.loop-cell.invariant.keeps c.read_number.ensures.keeps;
      quiet = c.in-Ok.ensures.quiet (ok_not_err c.in-Ok.number DiskFault) ∙ c.loop-cell.invariant.quiet;
    }

pub read_number-requires-clause-size : goal.read_number-requires-clause-size
read_number-requires-clause-size g c = c.loop-cell.invariant.keeps.moments.size ∙ c.requires

pub read_number-requires-clause-below : goal.read_number-requires-clause-below
read_number-requires-clause-below g c = c.loop-cell-test.true

pub returns-in-Err-clause-scanned : goal.returns-in-Err-clause-scanned
returns-in-Err-clause-scanned g c = tt

pub returns-in-Err-clause-low : goal.returns-in-Err-clause-low
returns-in-Err-clause-low g c = tt

pub returns-in-Err-clause-faults : goal.returns-in-Err-clause-faults
returns-in-Err-clause-faults g c = named_within c.loop-cell.cell c.in-Err.fault c.loop-cell-test.true c.in-Err.ensures.faults

pub returns-in-Err-clause-keeps : goal.returns-in-Err-clause-keeps
returns-in-Err-clause-keeps g c = keeps_then (g.T.Disk.medium c.args.trail.now) (g.T.Disk.medium c.loop-cell.trail) (g.T.Disk.medium c.read_number.new.trail) c.loop-cell.invariant.keeps c.read_number.ensures.keeps

pub returns-in-Err-clause-later : goal.returns-in-Err-clause-later
returns-in-Err-clause-later g c = omega (arith, c.loop-cell.invariant.quiet, c.read_number.ensures.later)

pub returns-in-Err-clause-failed : goal.returns-in-Err-clause-failed
returns-in-Err-clause-failed g c is = failed_then (g.T.Disk.faults c.args.trail.now) (g.T.Disk.faults c.loop-cell.trail) (g.T.Disk.faults c.read_number.new.trail) _ c.loop-cell.invariant.quiet c.in-Err.ensures.failed is

pub returns-in-Err-clause-quiet : goal.returns-in-Err-clause-quiet
returns-in-Err-clause-quiet g c never = c.in-Err.ensures.quiet never ∙ c.loop-cell.invariant.quiet

pub returns-clause-low : goal.returns-clause-low
returns-clause-low g c = c.loop-cell.invariant.low

pub returns-clause-damaged : goal.returns-clause-damaged
returns-clause-damaged g c n is = absurd (ok_not_err c.loop-cell.last (Damaged n) is)

pub returns-clause-faults : goal.returns-clause-faults
returns-clause-faults g c = tt

pub returns-clause-keeps : goal.returns-clause-keeps
returns-clause-keeps g c = c.loop-cell.invariant.keeps

pub returns-clause-later : goal.returns-clause-later
returns-clause-later g c = omega (arith, c.loop-cell.invariant.quiet)

pub returns-clause-failed : goal.returns-clause-failed
returns-clause-failed g c is = absurd (ok_not_err c.loop-cell.last DiskFault is)

pub returns-clause-quiet : goal.returns-clause-quiet
returns-clause-quiet g c never = c.loop-cell.invariant.quiet
