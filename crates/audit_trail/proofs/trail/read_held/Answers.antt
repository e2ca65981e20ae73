-- What reading a record leaves, by how it ended.
use Rattle.std.proofs.Common.{inl, inr, ap, refl}
use Rattle.audit_trail.specs.declared.faults.TrailFault.TheVariants.{DiskFault, Damaged}
use Rattle.audit_trail.proofs.ReadingLaws.{damaged_not_of_disk, disk_not_of_damaged, left_kept, ok_not_err, told_cell}
use Rattle.audit_trail.proofs.trail.read_held.Goals as goal

pub returns-in-Some-clause-left : goal.returns-in-Some-clause-left
returns-in-Some-clause-left g c =
    left_kept (g.T.Disk.medium c.args.trail.now) (g.T.Disk.medium c.read_cell.new.disk) (g.T.Disk.faults c.args.trail.now) (g.T.Disk.faults c.read_cell.new.disk) _ c.read_cell.ensures.keeps c.read_cell.ensures.cause.later
    (λ h. absurd (ok_not_err tt DiskFault h)) (λ none. c.in-Ok.ensures.cause.quiet)

pub returns-in-None-clause-left : goal.returns-in-None-clause-left
returns-in-None-clause-left g c =
    left_kept (g.T.Disk.medium c.args.trail.now) (g.T.Disk.medium c.read_cell.new.disk) (g.T.Disk.faults c.args.trail.now) (g.T.Disk.faults c.read_cell.new.disk) _ c.read_cell.ensures.keeps c.read_cell.ensures.cause.later
    (λ h. absurd (damaged_not_of_disk c.cell_of-in-None.result h)) (λ none. c.in-Ok.ensures.cause.quiet)

pub returns-in-Err-clause-left : goal.returns-in-Err-clause-left
returns-in-Err-clause-left g c =
    left_kept (g.T.Disk.medium c.args.trail.now) (g.T.Disk.medium c.read_cell.new.disk) (g.T.Disk.faults c.args.trail.now) (g.T.Disk.faults c.read_cell.new.disk) _ c.read_cell.ensures.keeps c.read_cell.ensures.cause.later
    (λ h. c.in-Err.ensures.cause.failed) (λ none. absurd (none refl))

pub returns-in-Some-clause-keeps : goal.returns-in-Some-clause-keeps
returns-in-Some-clause-keeps g c = c.read_cell.ensures.keeps

pub returns-in-None-clause-keeps : goal.returns-in-None-clause-keeps
returns-in-None-clause-keeps g c = c.read_cell.ensures.keeps

pub returns-in-Err-clause-keeps : goal.returns-in-Err-clause-keeps
returns-in-Err-clause-keeps g c = c.read_cell.ensures.keeps

pub returns-in-Some-clause-damaged : goal.returns-in-Some-clause-damaged
returns-in-Some-clause-damaged g c cell is = absurd (ok_not_err tt (Damaged cell) is)

pub returns-in-Some-clause-unread : goal.returns-in-Some-clause-unread
returns-in-Some-clause-unread g c = tt

pub returns-in-Some-clause-faults : goal.returns-in-Some-clause-faults
returns-in-Some-clause-faults g c = tt

pub returns-in-Some-clause-told : goal.returns-in-Some-clause-told
returns-in-Some-clause-told g c never = told_cell (g.T.Disk.medium c.args.trail.now) c.args.number c.cell_of.result c.new.result c.read_cell.new.out c.cell_of.ensures c.new.ensures c.in-Ok.ensures.bytes

pub returns-in-None-clause-own : goal.returns-in-None-clause-own
returns-in-None-clause-own g c = tt

pub returns-in-None-clause-told : goal.returns-in-None-clause-told
returns-in-None-clause-told g c never = told_cell (g.T.Disk.medium c.args.trail.now) c.args.number c.cell_of.result c.new.result c.read_cell.new.out c.cell_of.ensures c.new.ensures c.in-Ok.ensures.bytes

pub returns-in-None-clause-unread : goal.returns-in-None-clause-unread
returns-in-None-clause-unread g c = refl

pub returns-in-None-clause-faults : goal.returns-in-None-clause-faults
returns-in-None-clause-faults g c = inr (ap Damaged c.cell_of-in-None.ensures)

pub returns-in-Err-clause-own : goal.returns-in-Err-clause-own
returns-in-Err-clause-own g c = tt

pub returns-in-Err-clause-unread : goal.returns-in-Err-clause-unread
returns-in-Err-clause-unread g c = refl

pub returns-in-Err-clause-faults : goal.returns-in-Err-clause-faults
returns-in-Err-clause-faults g c = inl refl

pub returns-in-Err-clause-damaged : goal.returns-in-Err-clause-damaged
returns-in-Err-clause-damaged g c cell is = absurd (disk_not_of_damaged cell is)

pub returns-in-Err-clause-told : goal.returns-in-Err-clause-told
returns-in-Err-clause-told g c never = absurd (never refl)
