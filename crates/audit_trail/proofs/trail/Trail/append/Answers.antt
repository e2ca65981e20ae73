-- Appending to a full trail changes nothing.
use Rattle.std.proofs.Common.{inr, refl}
use Rattle.audit_trail.specs.declared.faults.TrailFault.TheVariants.{Full}
use Rattle.audit_trail.proofs.MediumLaws.{unappended}
use Rattle.audit_trail.proofs.ReadingLaws.{err_undone, full_not_of_disk, left_refused, ok_not_err}
use Rattle.audit_trail.proofs.trail.Trail.append.Goals as goal

pub returns-then-self-clause-appended : goal.returns-then-self-clause-appended
returns-then-self-clause-appended g c = unappended c.args.self.now c.args.entry.now (g.T.Disk.medium c.args.trail.now) Full c.requires.settled

pub returns-then-self-clause-memory : goal.returns-then-self-clause-memory
returns-then-self-clause-memory g c = record { done = tt; kept = refl }

pub returns-then-self-clause-stands : goal.returns-then-self-clause-stands
returns-then-self-clause-stands g c = tt

pub returns-then-self-clause-untouched : goal.returns-then-self-clause-untouched
returns-then-self-clause-untouched g c is = refl

pub returns-then-self-clause-faults : goal.returns-then-self-clause-faults
returns-then-self-clause-faults g c = inr refl

pub returns-then-self-clause-left : goal.returns-then-self-clause-left
returns-then-self-clause-left g c = left_refused (g.T.Disk.medium c.args.trail.now) (g.T.Disk.faults c.args.trail.now) _ _ (err_undone (Unit {0}) Full) full_not_of_disk

pub put_record-requires-clause-size : goal.put_record-requires-clause-size
put_record-requires-clause-size g c = c.requires.size

pub put_record-requires-clause-settled : goal.put_record-requires-clause-settled
put_record-requires-clause-settled g c = c.requires.settled

pub put_record-requires-clause-entry : goal.put_record-requires-clause-entry
put_record-requires-clause-entry g c = c.requires.entry

pub returns-clause-faults : goal.returns-clause-faults
returns-clause-faults g c = tt

pub returns-clause-untouched : goal.returns-clause-untouched
returns-clause-untouched g c is = absurd (ok_not_err tt Full is)
