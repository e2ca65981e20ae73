use Rattle.std.proofs.Common.{◌≡◌, ℕ, List, Option, Some, Bool, false, set, replicate, refl, sym, ap, subst, ◌∙◌}
use Rattle.std.specs.Prelude.{is_some}
use Rattle.key_records.specs.Changes.{ChangesLabels}
use Rattle.record_bodies.specs.LabelChanges.{created, null_entry}
use Rattle.record_bodies.specs.Directory.{cell_of, free_cell, AreApart}
use Rattle.record_bodies.specs.Entries.{row_directory, null_row}
use Rattle.record_bodies.specs.RecordBody.{record_body, null_body, no_second, null_kind}
use Rattle.key_records.specs.declared.faults.RecordFault.TheVariants.{DiskFault, Exists, Full}
use Rattle.record_bodies.specs.declared.rows.Row.{Row}
use Rattle.record_bodies.specs.declared.rows.Second.{Second}
use Rattle.record_bodies.proofs.BodyLaws.{no_token_is}
use Rattle.cca_roles.proofs.DirectoryLaws.{held_nowhere, apart_set}
use Rattle.key_records.proofs.StoreLaws.{changed_as, created_is, labels_changed, refused_labels, refused_record, refuses_full, refuses_held, refuses_none}
use Rattle.key_records.proofs.records.Records.create.Goals as goal

-- the body that was written
wrote_null : (label body : List ℕ) (second : Second) → body ≡ record_body null_kind label (replicate 64 0) second → second ≡ no_second → body ≡ null_body label
wrote_null label body second is none =
    is ∙ ap (record_body null_kind label (replicate 64 0)) none ∙ ap (λ t. record_body null_kind label t no_second) (no_token_is _ refl)

-- a label that isn't found may be put into a cell
new_apart : (label : List ℕ) (d : List (Option (List ℕ))) (n : ℕ) (found : Option ℕ) (test : Bool) → AreApart d → test ≡ is_some found → found ≡ cell_of label d → test ≡ false → AreApart (set d n (Some label))
new_apart label d n found test apart tested is missing = apart_set d n label apart (held_nowhere label d (sym (tested ∙ ap (λ o. is_some o) is) ∙ missing))

-- a label that is refused is no fault of the disk
not_full : Full ≡ DiskFault → ⊥
not_full is = cc is

not_held : Exists ≡ DiskFault → ⊥
not_held is = cc is

pub change-requires-clause-reads : goal.change-requires-clause-reads
change-requires-clause-reads g c = (c.write_record.ensures.label, (wrote_null c.args.label.now c.write_record.new.body c.no_second.result c.write_record.ensures.body c.no_second.ensures, refl))

pub change-requires-clause-apart : goal.change-requires-clause-apart
change-requires-clause-apart g c =
    new_apart c.args.label.now (row_directory c.args.self.now) c.in-Some.cell c.find.result c.is_some.result c.free_cell.ensures.rows.apart c.is_some.ensures c.find.ensures.found c.if-is_some.false

pub returns-clause-changes : goal.returns-clause-changes
returns-clause-changes g c =
    let label : List ℕ = c.args.label.now in
    let rows : List (Option Row) = c.args.self.now in
    changed_as g.D.Disk.medium g.D.Disk.faults c.in-Some.cell (free_cell (row_directory rows)) c.write_record.new.body (null_body label) (Some (null_row label)) (Some (null_row label)) rows c.change.new.self
    c.args.lease.now _ c.args.store.now c.change.new.store c.change.result c.in-Some.ensures.free.0
    (wrote_null label c.write_record.new.body c.no_second.result c.write_record.ensures.body c.no_second.ensures) refl refl c.change.ensures.changes

pub returns-clause-labels : goal.returns-clause-labels
returns-clause-labels g c masters s start =
    let label : List ℕ = c.args.label.now in
    let rows : List (Option Row) = c.args.self.now in
    let m0 = g.D.Disk.medium c.args.store.now in
    let m1 = g.D.Disk.medium c.change.new.store in
    let bytes : List ℕ = c.write_record.new.body in
    let wrote : bytes ≡ null_body label = wrote_null label bytes c.no_second.result c.write_record.ensures.body c.no_second.ensures in
    subst (λ (n : ℕ). ChangesLabels masters n s (created label s) c.change.new.self m0 m1 c.change.result) c.in-Some.ensures.free.0
    (labels_changed masters c.in-Some.cell bytes (Some (null_entry label)) rows (Some (null_row label)) s (created label s) c.in-Some.ensures.free.1
    (c.write_record.ensures.label, (wrote, refl, refl)) refl
    (new_apart label (row_directory rows) c.in-Some.cell c.find.result c.is_some.result c.free_cell.ensures.rows.apart c.is_some.ensures c.find.ensures.found c.if-is_some.false)
    (created_is masters rows s label c.in-Some.cell c.in-Some.ensures.free.0)
    m0 m1 start c.change.result c.change.new.self c.change.ensures.changes.cell c.change.ensures.changes.memory.done)

pub change-requires-clause-within : goal.change-requires-clause-within
change-requires-clause-within g c = c.in-Some.ensures.free.1

pub change-requires-clause-size : goal.change-requires-clause-size
change-requires-clause-size g c = c.requires.size

pub change-requires-clause-settled : goal.change-requires-clause-settled
change-requires-clause-settled g c = c.requires.settled

pub change-requires-clause-holds : goal.change-requires-clause-holds
change-requires-clause-holds g c = c.requires.holds

pub returns-in_default-clause-changes : goal.returns-in_default-clause-changes
returns-in_default-clause-changes g c =
    refused_record g.D.Disk.medium g.D.Disk.faults (free_cell (row_directory c.args.self.now)) (null_body c.args.label.now)
    (Some (null_row c.args.label.now)) c.args.self.now c.args.lease.now c.args.store.now Full c.requires.settled not_full

pub returns-in_default-clause-labels : goal.returns-in_default-clause-labels
returns-in_default-clause-labels g c masters s start =
    refused_labels masters (free_cell (row_directory c.args.self.now)) s (created c.args.label.now s) c.args.self.now (g.D.Disk.medium c.args.store.now) Full c.requires.settled start

pub returns-then-is_some-clause-changes : goal.returns-then-is_some-clause-changes
returns-then-is_some-clause-changes g c =
    refused_record g.D.Disk.medium g.D.Disk.faults (free_cell (row_directory c.args.self.now)) (null_body c.args.label.now)
    (Some (null_row c.args.label.now)) c.args.self.now c.args.lease.now c.args.store.now Exists c.requires.settled not_held

pub returns-then-is_some-clause-labels : goal.returns-then-is_some-clause-labels
returns-then-is_some-clause-labels g c masters s start =
    refused_labels masters (free_cell (row_directory c.args.self.now)) s (created c.args.label.now s) c.args.self.now (g.D.Disk.medium c.args.store.now) Exists c.requires.settled start

pub returns-in_default-clause-refuses : goal.returns-in_default-clause-refuses
returns-in_default-clause-refuses g c =
    refuses_full (row_directory c.args.self.now) c.args.label.now c.args.lease.now c.args.store.now (c.in_default.ensures.none refl)

pub returns-then-is_some-clause-refuses : goal.returns-then-is_some-clause-refuses
returns-then-is_some-clause-refuses g c =
    refuses_held (row_directory c.args.self.now) c.args.label.now c.args.lease.now c.args.store.now c.in-Some.cell c.find.result c.in-Some.ensures.free.0 c.in-Some.ensures.free.1
    (sym c.is_some.ensures ∙ c.if-is_some.true) c.find.ensures.found

pub returns-clause-refuses : goal.returns-clause-refuses
returns-clause-refuses g c =
    refuses_none (row_directory c.args.self.now) c.args.label.now c.args.lease.now _ c.args.store.now c.change.new.store c.in-Some.cell c.find.result c.change.result c.in-Some.ensures.free.0 c.in-Some.ensures.free.1
    (sym c.is_some.ensures ∙ c.if-is_some.false) c.find.ensures.found c.change.ensures.faults
