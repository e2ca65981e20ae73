-- What is told of a body that was read and judged.
use Rattle.std.proofs.Common.{true, false, sym, ◌∙◌}
use Rattle.audit_trail.specs.declared.faults.TrailFault.TheVariants.{DiskFault, Damaged}
use Rattle.audit_trail.proofs.ReadingLaws.{ok_not_err, damaged_not_of_disk, false_not_true, spelled_there, spells_held}
use Rattle.audit_trail.proofs.trail.Trail.read_entry.Goals as goal

pub returns-clause-spelled : goal.returns-clause-spelled
returns-clause-spelled g c found =
    spelled_there (g.T.Disk.medium c.args.trail.now) c.args.number c.read_number.new.bytes
    (c.read_number.ensures.told (λ other. false_not_true (sym other ∙ found)) (λ failed. ok_not_err true DiskFault (sym found ∙ failed))) c.read_number.new.out (c.read_number.ensures.own found)

pub returns-clause-whole : goal.returns-clause-whole
returns-clause-whole g c found = (c.read_number.ensures.own found).entry

pub returns-clause-damaged : goal.returns-clause-damaged
returns-clause-damaged g c cell is =
    let damaged = c.read_number.ensures.damaged cell is in (
      damaged.0,
      damaged.1,
      spells_held (g.T.Disk.medium c.args.trail.now) c.args.number c.read_number.new.bytes
          (c.read_number.ensures.told (λ other. ok_not_err false (Damaged cell) (sym other ∙ is)) (λ failed. damaged_not_of_disk cell (sym is ∙ failed))) c.args.self.now damaged.1 c.requires.stands damaged.2,
    )
