use Rattle.std.proofs.Common.{ℕ, List, Option, None, refl, subst}
use Rattle.key_records.specs.Changes.{ChangesLabels}
use Rattle.record_bodies.specs.LabelChanges.{deleted}
use Rattle.record_bodies.specs.Entries.{row_directory}
use Rattle.record_bodies.specs.RecordBody.{blank_body}
use Rattle.record_bodies.specs.declared.rows.Row.{Row}
use Rattle.cca_roles.proofs.DirectoryLaws.{apart_none}
use Rattle.key_records.proofs.StoreLaws.{changed_as, labels_changed}
use Rattle.key_records.proofs.records.Records.delete.Goals as goal

pub returns-clause-labels : goal.returns-clause-labels
returns-clause-labels g c masters s start =
    let rows : List (Option Row) = c.args.self.now in
    let m0 = g.D.Disk.medium c.args.store.now in
    let m1 = g.D.Disk.medium c.change.new.store in
    subst (λ (n : ℕ). ChangesLabels masters n s (deleted n s) c.change.new.self m0 m1 c.change.result) c.cell-cell.ensures.cell
    (labels_changed masters c.cell-cell.result c.write_blank.new.body None rows None s (deleted c.cell-cell.result s) c.cell-cell.ensures.within c.write_blank.ensures refl
    (apart_none (row_directory rows) c.cell-cell.result c.cell-cell.ensures.rows.apart) (λ agrees. refl)
    m0 m1 start c.change.result c.change.new.self c.change.ensures.changes.cell c.change.ensures.changes.memory.done)

pub cell-cell-requires : goal.cell-cell-requires
cell-cell-requires g c = c.requires.held

pub change-requires-clause-within : goal.change-requires-clause-within
change-requires-clause-within g c = c.cell-cell.ensures.within

pub change-requires-clause-size : goal.change-requires-clause-size
change-requires-clause-size g c = c.requires.size

pub change-requires-clause-settled : goal.change-requires-clause-settled
change-requires-clause-settled g c = c.requires.settled

pub change-requires-clause-holds : goal.change-requires-clause-holds
change-requires-clause-holds g c = c.requires.holds

pub change-requires-clause-reads : goal.change-requires-clause-reads
change-requires-clause-reads g c = c.write_blank.ensures

pub change-requires-clause-apart : goal.change-requires-clause-apart
change-requires-clause-apart g c = apart_none (row_directory c.args.self.now) c.cell-cell.result c.cell-cell.ensures.rows.apart

pub returns-clause-changes : goal.returns-clause-changes
returns-clause-changes g c =
    let rows : List (Option Row) = c.args.self.now in
    changed_as g.D.Disk.medium g.D.Disk.faults c.cell-cell.result c.args.place c.write_blank.new.body blank_body None None rows c.change.new.self
    c.args.lease.now _ c.args.store.now c.change.new.store c.change.result c.cell-cell.ensures.cell
    c.write_blank.ensures
    refl refl c.change.ensures.changes

pub returns-clause-faults : goal.returns-clause-faults
returns-clause-faults g c = c.change.ensures.faults
