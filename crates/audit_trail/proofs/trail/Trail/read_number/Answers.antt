-- A record is read only where its number is held.
use Rattle.std.proofs.Common.{true, false}
use Rattle.device_cells.proofs.Media.{keeps_still}
use Rattle.audit_trail.specs.declared.faults.TrailFault.TheVariants.{DiskFault}
use Rattle.audit_trail.proofs.ReadingLaws.{ok_not_err, err_as, left_uncalled, left_as}
use Rattle.audit_trail.proofs.trail.Trail.read_number.Goals as goal

pub returns-then-not-holds-clause-keeps : goal.returns-then-not-holds-clause-keeps
returns-then-not-holds-clause-keeps g c = keeps_still (g.T.Disk.medium c.args.trail.now)

pub returns-then-not-holds-clause-left : goal.returns-then-not-holds-clause-left
returns-then-not-holds-clause-left g c = left_uncalled (g.T.Disk.medium c.args.trail.now) (g.T.Disk.faults c.args.trail.now) _ (ok_not_err false DiskFault)

pub returns-in-Ok-clause-left : goal.returns-in-Ok-clause-left
returns-in-Ok-clause-left g c =
    left_as (g.T.Disk.medium c.args.trail.now) (g.T.Disk.medium c.read_held.new.trail) (g.T.Disk.faults c.args.trail.now) (g.T.Disk.faults c.read_held.new.trail) _ _ _
    (λ h. absurd (ok_not_err true DiskFault h)) (λ h. absurd (ok_not_err tt DiskFault h)) c.in-Ok.ensures.left

pub returns-in-Err-clause-left : goal.returns-in-Err-clause-left
returns-in-Err-clause-left g c =
    left_as (g.T.Disk.medium c.args.trail.now) (g.T.Disk.medium c.read_held.new.trail) (g.T.Disk.faults c.args.trail.now) (g.T.Disk.faults c.read_held.new.trail) _ _ _
    (err_as c.in-Err.fault DiskFault) (err_as c.in-Err.fault DiskFault) c.in-Err.ensures.left
