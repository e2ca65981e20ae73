use Rattle.std.proofs.Common.{◌≡◌, [], Some, OnOk, sym, subst, rules}
use Rattle.std.specs.Prelude.{◌==◌, IfErr, OnErr, is_some, set}
use Rattle.record_bodies.specs.Directory.{free_cell, cell_of}
use Rattle.record_bodies.specs.Entries.{directory, row_directory, null_row}
use Rattle.record_bodies.specs.RecordBody.{null_body}
use Rattle.line_service.specs.Replies.{spelled}
use Rattle.line_service.specs.declared.stops.Stop.TheVariants.{StoreFault}
use Rattle.verb_rules.specs.Keys.{keys_of}
use Rattle.cca_requests.specs.Serving.{CarriesStore, LeavesStore}
use Rattle.cca_requests.specs.Changes.{create_outcome, record_reply, record_stop}
use Rattle.cca_requests.proofs.MemoryLaws.{record_own}
use Rattle.cca_requests.proofs.ReplyLines.{answer_line}
use Rattle.cca_requests.proofs.Storing.{kept_labels, known_directory, full_as, exists_as, create_fault, creates_as, create_left_as}
use Rattle.cca_requests.proofs.changing_store.create.Goals as goal

pub returns-clause-carries : goal.returns-clause-carries
returns-clause-carries g c = λ s held at.
    let label = c.args.label.now in
    let rows = c.args.records.now in
    let known = row_directory rows in
    let labels = directory s.labels in
    let r = c.create-outcome.result in
    let old = g.D.Disk.medium c.args.store.now in
    let new = g.D.Disk.medium c.create-outcome.new.store in
    let now = c.create-outcome.new.self in
    let same = known_directory s rows old at.stands in
    subst (λ x. CarriesStore (create_outcome s label) s x c.answer_create.new.reply now old new) (sym c.answer_create.ensures.stop)
    (creates_as g.D.Disk.medium c.args.store.now c.create-outcome.new.store s rows now label c.answer_create.new.reply c.requires.store.settled at.stands
    (free_cell labels == 1024) (is_some (cell_of label labels)) (set rows (free_cell known) (Some (null_row label))) r
    (full_as r labels known same c.create-outcome.ensures.refuses.full)
    (exists_as r label labels known same c.create-outcome.ensures.refuses.exists)
    (c.create-outcome.ensures.labels (keys_of s.registers) s.labels (kept_labels s rows old at.stands))
    c.create-outcome.ensures.refuses.untouched
    c.create-outcome.ensures.changes.memory
    (subst (λ x. OnOk x (c.answer_create.new.reply ≡ spelled (record_reply r))) c.answer_create.ensures.stop c.answer_create.ensures.reply))

pub returns-clause-left : goal.returns-clause-left
returns-clause-left g c = record {
  left =
      let label = c.args.label.now in
      let rows = c.args.records.now in
      let cell = free_cell (row_directory rows) in
      let r = c.create-outcome.result in
      let medium = g.D.Disk.medium in
      let faults = g.D.Disk.faults in
      let now = c.create-outcome.new.self in
      subst (λ x. LeavesStore (medium c.args.store.now) (medium c.create-outcome.new.store) (faults c.args.store.now) (faults c.create-outcome.new.store)
      x c.answer_create.new.reply rows now) (sym c.answer_create.ensures.stop)
      (create_left_as medium faults c.args.store.now c.create-outcome.new.store rows now c.answer_create.new.reply cell (null_body label) (Some (null_row label)) c.args.lease.now c.create-outcome.new.lease
      c.requires.store.settled c.requires.store.holds (row_directory rows) label r c.create-outcome.ensures.changes c.create-outcome.ensures.refuses
      (answer_line (record_reply r) c.answer_create.new.reply (record_stop r)
      (subst (λ x. OnOk x (c.answer_create.new.reply ≡ spelled (record_reply r))) c.answer_create.ensures.stop c.answer_create.ensures.reply))
      (subst (λ x. OnErr x (c.answer_create.new.reply ≡ [])) c.answer_create.ensures.stop c.answer_create.ensures.silent));
  kept = search rules;
  fault = subst (λ x. IfErr x (λ stop. stop ≡ StoreFault)) (sym c.answer_create.ensures.stop) (create_fault c.create-outcome.result);
  loan = search rules;
}

pub returns-clause-own : goal.returns-clause-own
returns-clause-own g c =
    let rows = c.args.records.now in
    record_own c.answer_create.result c.answer_create.new.reply rows (set rows (free_cell (row_directory rows)) (Some (null_row c.args.label.now))) c.create-outcome.new.self c.create-outcome.result c.create-outcome.ensures.changes.memory c.answer_create.ensures
