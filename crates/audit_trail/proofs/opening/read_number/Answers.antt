use Rattle.std.proofs.Common.{◌≡◌, inl, inr, None, Some, refl, sym, ap, ◌∙◌}
use Rattle.std.proofs.lemmas.Bool.{both_ways}
use Rattle.device_cells.proofs.Media.{told_map}
use Rattle.device_cells.specs.Cells.{body}
use Rattle.audit_trail.specs.TrailStands.{HoldsNumber, IsStray}
use Rattle.audit_trail.specs.RecordBody.{blank_body}
use Rattle.audit_trail.proofs.OpeningLaws.{stray_here, stray_none, holds_here}
use Rattle.audit_trail.specs.declared.faults.TrailFault.TheVariants.{DiskFault, Damaged}
use Rattle.audit_trail.proofs.ReadingLaws.{one_cell, ok_not_err, damaged_not_of_disk, disk_not_of_damaged}
use Rattle.audit_trail.proofs.opening.read_number.Goals as goal

pub returns-else-cell_of-cell-clause-damaged : goal.returns-else-cell_of-cell-clause-damaged
returns-else-cell_of-cell-clause-damaged g c n is =
    let same : n ≡ c.args.cell = one_cell c.args.cell n is in (
      same,
      told_map (g.T.Disk.medium c.args.trail.now) (λ image. c.read_cell.new.out ≡ body image c.new.result) (λ image. IsStray image c.args.cell) c.in-Ok.ensures.bytes
          (λ image read. stray_here image c.args.cell c.read_cell.new.out c.in-Some.record.number c.in-Some.record.entry (read ∙ ap (body image) c.new.ensures)
          (λ blank. both_ways c.is_blank.result c.if-is_blank.false (c.is_blank.ensures.1 blank)) c.in-Some.ensures.reads (λ is. c.if-cell_of-cell.false (c.cell_of.ensures ∙ is))),
    )

pub returns-then-is_blank-clause-keeps : goal.returns-then-is_blank-clause-keeps
returns-then-is_blank-clause-keeps g c = c.read_cell.ensures.keeps

pub returns-then-is_blank-clause-later : goal.returns-then-is_blank-clause-later
returns-then-is_blank-clause-later g c = c.read_cell.ensures.cause.later

pub returns-then-is_blank-clause-damaged : goal.returns-then-is_blank-clause-damaged
returns-then-is_blank-clause-damaged g c n is = absurd (ok_not_err None (Damaged n) is)

pub returns-then-is_blank-clause-faults : goal.returns-then-is_blank-clause-faults
returns-then-is_blank-clause-faults g c = tt

pub returns-then-is_blank-clause-failed : goal.returns-then-is_blank-clause-failed
returns-then-is_blank-clause-failed g c is = absurd (ok_not_err None DiskFault is)

pub returns-then-is_blank-clause-quiet : goal.returns-then-is_blank-clause-quiet
returns-then-is_blank-clause-quiet g c never = c.in-Ok.ensures.cause.quiet

pub returns-then-is_blank-clause-low : goal.returns-then-is_blank-clause-low
returns-then-is_blank-clause-low g c = tt

pub returns-then-cell_of-cell-clause-keeps : goal.returns-then-cell_of-cell-clause-keeps
returns-then-cell_of-cell-clause-keeps g c = c.read_cell.ensures.keeps

pub returns-then-cell_of-cell-clause-later : goal.returns-then-cell_of-cell-clause-later
returns-then-cell_of-cell-clause-later g c = c.read_cell.ensures.cause.later

pub returns-then-cell_of-cell-clause-damaged : goal.returns-then-cell_of-cell-clause-damaged
returns-then-cell_of-cell-clause-damaged g c n is = absurd (ok_not_err (Some c.in-Some.record.number) (Damaged n) is)

pub returns-then-cell_of-cell-clause-faults : goal.returns-then-cell_of-cell-clause-faults
returns-then-cell_of-cell-clause-faults g c = tt

pub returns-then-cell_of-cell-clause-failed : goal.returns-then-cell_of-cell-clause-failed
returns-then-cell_of-cell-clause-failed g c is = absurd (ok_not_err (Some c.in-Some.record.number) DiskFault is)

pub returns-then-cell_of-cell-clause-quiet : goal.returns-then-cell_of-cell-clause-quiet
returns-then-cell_of-cell-clause-quiet g c never = c.in-Ok.ensures.cause.quiet

pub returns-then-cell_of-cell-clause-low : goal.returns-then-cell_of-cell-clause-low
returns-then-cell_of-cell-clause-low g c = c.in-Some.ensures.reads.below

pub returns-else-cell_of-cell-clause-keeps : goal.returns-else-cell_of-cell-clause-keeps
returns-else-cell_of-cell-clause-keeps g c = c.read_cell.ensures.keeps

pub returns-else-cell_of-cell-clause-later : goal.returns-else-cell_of-cell-clause-later
returns-else-cell_of-cell-clause-later g c = c.read_cell.ensures.cause.later

pub returns-else-cell_of-cell-clause-reads : goal.returns-else-cell_of-cell-clause-reads
returns-else-cell_of-cell-clause-reads g c = tt

pub returns-else-cell_of-cell-clause-low : goal.returns-else-cell_of-cell-clause-low
returns-else-cell_of-cell-clause-low g c = tt

pub returns-else-cell_of-cell-clause-faults : goal.returns-else-cell_of-cell-clause-faults
returns-else-cell_of-cell-clause-faults g c = inr refl

pub returns-else-cell_of-cell-clause-failed : goal.returns-else-cell_of-cell-clause-failed
returns-else-cell_of-cell-clause-failed g c is = absurd (damaged_not_of_disk c.args.cell is)

pub returns-else-cell_of-cell-clause-quiet : goal.returns-else-cell_of-cell-clause-quiet
returns-else-cell_of-cell-clause-quiet g c never = c.in-Ok.ensures.cause.quiet

pub returns-in-None-clause-keeps : goal.returns-in-None-clause-keeps
returns-in-None-clause-keeps g c = c.read_cell.ensures.keeps

pub returns-in-None-clause-later : goal.returns-in-None-clause-later
returns-in-None-clause-later g c = c.read_cell.ensures.cause.later

pub returns-in-None-clause-reads : goal.returns-in-None-clause-reads
returns-in-None-clause-reads g c = tt

pub returns-in-None-clause-low : goal.returns-in-None-clause-low
returns-in-None-clause-low g c = tt

pub returns-in-None-clause-faults : goal.returns-in-None-clause-faults
returns-in-None-clause-faults g c = inr refl

pub returns-in-None-clause-failed : goal.returns-in-None-clause-failed
returns-in-None-clause-failed g c is = absurd (damaged_not_of_disk c.args.cell is)

pub returns-in-None-clause-quiet : goal.returns-in-None-clause-quiet
returns-in-None-clause-quiet g c never = c.in-Ok.ensures.cause.quiet

pub returns-in-Err-clause-keeps : goal.returns-in-Err-clause-keeps
returns-in-Err-clause-keeps g c = c.read_cell.ensures.keeps

pub returns-in-Err-clause-later : goal.returns-in-Err-clause-later
returns-in-Err-clause-later g c = c.read_cell.ensures.cause.later

pub returns-in-Err-clause-reads : goal.returns-in-Err-clause-reads
returns-in-Err-clause-reads g c = tt

pub returns-in-Err-clause-low : goal.returns-in-Err-clause-low
returns-in-Err-clause-low g c = tt

pub returns-in-Err-clause-faults : goal.returns-in-Err-clause-faults
returns-in-Err-clause-faults g c = inl refl

pub returns-in-Err-clause-damaged : goal.returns-in-Err-clause-damaged
returns-in-Err-clause-damaged g c n is = absurd (disk_not_of_damaged n is)

pub returns-in-Err-clause-failed : goal.returns-in-Err-clause-failed
returns-in-Err-clause-failed g c is = c.in-Err.ensures.cause.failed

pub returns-in-Err-clause-quiet : goal.returns-in-Err-clause-quiet
returns-in-Err-clause-quiet g c never = absurd (never refl)

pub returns-in-None-clause-damaged : goal.returns-in-None-clause-damaged
returns-in-None-clause-damaged g c n is = (
  one_cell c.args.cell n is,
  told_map (g.T.Disk.medium c.args.trail.now) (λ image. c.read_cell.new.out ≡ body image c.new.result) (λ image. IsStray image c.args.cell)
      c.in-Ok.ensures.bytes
      (λ image read. stray_none image c.args.cell c.read_cell.new.out (read ∙ ap (body image) c.new.ensures)
      (λ blank. both_ways c.is_blank.result c.if-is_blank.false (c.is_blank.ensures.1 blank)) (c.in-None.ensures.none refl)),
)

pub returns-then-is_blank-clause-reads : goal.returns-then-is_blank-clause-reads
returns-then-is_blank-clause-reads g c =
    told_map (g.T.Disk.medium c.args.trail.now) (λ image. c.read_cell.new.out ≡ body image c.new.result)
    (λ image. body image c.args.cell ≡ blank_body) c.in-Ok.ensures.bytes
    (λ image read. sym (read ∙ ap (body image) c.new.ensures) ∙ c.is_blank.ensures.0 c.if-is_blank.true)

pub returns-then-cell_of-cell-clause-reads : goal.returns-then-cell_of-cell-clause-reads
returns-then-cell_of-cell-clause-reads g c =
    told_map (g.T.Disk.medium c.args.trail.now) (λ image. c.read_cell.new.out ≡ body image c.new.result)
    (λ image. HoldsNumber image c.args.cell c.in-Some.record.number) c.in-Ok.ensures.bytes
    (λ image read. holds_here image c.args.cell c.read_cell.new.out c.in-Some.record.number c.in-Some.record.entry
    (read ∙ ap (body image) c.new.ensures)
    c.in-Some.ensures.reads (sym c.cell_of.ensures ∙ c.if-cell_of-cell.true))
