use Rattle.std.proofs.Common.{List, Option, Result, Ok, Err, None, Some, get_or, refl, sym, ap, subst, ◌∙◌}
use Rattle.std.specs.Prelude.{OnOk}
use Rattle.key_records.specs.Changes.{ChangesLabels, ChangesRecord}
use Rattle.record_bodies.specs.Entries.{label_or, row_directory}
use Rattle.key_records.specs.declared.faults.RecordFault.{RecordFault}
use Rattle.record_bodies.specs.declared.rows.Row.{Row}
use Rattle.reencipher.specs.Tokens.{StandFor, body_of, put_in, row_of}
use Rattle.reencipher.specs.declared.writing.Tokens.{Tokens}
use Rattle.reencipher.proofs.TurnLaws.{same_label}
use Rattle.reencipher.proofs.writing.put.Goals as goal

on_ok : {P Q : Type 0} (r : Result (Unit {0}) RecordFault) → OnOk r P → (P → Q) → OnOk r Q
on_ok (Ok x) holds then_ = then_ holds
on_ok (Err e) holds then_ = tt

pub returns-in-One-clause-changes : goal.returns-in-One-clause-changes
returns-in-One-clause-changes g c =
    let label : List _ = label_or (get_or c.args.records.now c.args.place None) in
    subst (λ (t : Tokens). ChangesRecord g.D.Disk.medium g.D.Disk.faults c.args.place (body_of label t) (Some (row_of label t)) c.args.records.now c.write.new.self
    c.args.lease.now c.write.new.lease c.args.store.now c.write.new.store c.write.result) (sym c.in-One.is) c.write.ensures.changes

pub returns-in-Two-clause-changes : goal.returns-in-Two-clause-changes
returns-in-Two-clause-changes g c =
    let label : List _ = label_or (get_or c.args.records.now c.args.place None) in
    subst (λ (t : Tokens). ChangesRecord g.D.Disk.medium g.D.Disk.faults c.args.place (body_of label t) (Some (row_of label t)) c.args.records.now c.write_both.new.self
    c.args.lease.now c.write_both.new.lease c.args.store.now c.write_both.new.store c.write_both.result) (sym c.in-Two.is) c.write_both.ensures.changes

pub returns-in-One-clause-labels : goal.returns-in-One-clause-labels
returns-in-One-clause-labels g c masters s key start =
    subst (λ (t : Tokens). StandFor masters t key → ChangesLabels masters c.args.place s (put_in t c.args.place key s) c.write.new.self
    (g.D.Disk.medium c.args.store.now) (g.D.Disk.medium c.write.new.store) c.write.result) (sym c.in-One.is) (λ stands. c.write.ensures.labels masters s key start stands)

pub returns-in-Two-clause-labels : goal.returns-in-Two-clause-labels
returns-in-Two-clause-labels g c masters s key start =
    subst (λ (t : Tokens). StandFor masters t key → ChangesLabels masters c.args.place s (put_in t c.args.place key s) c.write_both.new.self
    (g.D.Disk.medium c.args.store.now) (g.D.Disk.medium c.write_both.new.store) c.write_both.result) (sym c.in-Two.is) (λ both. c.write_both.ensures.labels masters s key.clear start both)

pub returns-in-One-clause-directory : goal.returns-in-One-clause-directory
returns-in-One-clause-directory g c =
    on_ok c.write.result c.write.ensures.changes.memory.done (λ is. ap (λ (rows : List (Option Row)). row_directory rows) is ∙ same_label c.args.records.now c.args.place _ c.requires.held refl)

pub returns-in-Two-clause-directory : goal.returns-in-Two-clause-directory
returns-in-Two-clause-directory g c =
    on_ok c.write_both.result c.write_both.ensures.changes.memory.done (λ is. ap (λ (rows : List (Option Row)). row_directory rows) is ∙ same_label c.args.records.now c.args.place _ c.requires.held refl)
