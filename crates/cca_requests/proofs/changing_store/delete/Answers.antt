use Rattle.std.proofs.Common.{[], Ok, Err, rules}
use Rattle.verb_rules.specs.Keys.{keys_of}
use Rattle.request_verbs.proofs.Fields.{no_fields}
use Rattle.cca_requests.proofs.MemoryLaws.{done_says}
use Rattle.cca_requests.proofs.Storing.{deletes_as, kept_labels, stored_left}
use Rattle.cca_requests.proofs.changing_store.delete.Goals as goal

pub returns-in-Ok-clause-carries : goal.returns-in-Ok-clause-carries
returns-in-Ok-clause-carries g c = λ s held e at gone.
    let old = g.D.Disk.medium c.args.store.now in
    let rows = c.args.records.now in
    deletes_as old (g.D.Disk.medium c.delete.new.store) s rows c.delete.new.self at.stands c.args.place c.end.new.reply e gone (Ok c.in-Ok.field-0)
    (c.in-Ok.ensures.labels (keys_of s.registers) s.labels (kept_labels s rows old at.stands))
    (c.end.ensures.spells [] (no_fields c.args.reply.now c.ok.new.self c.requires.empty c.ok.ensures.bytes))

pub returns-in-Err-clause-carries : goal.returns-in-Err-clause-carries
returns-in-Err-clause-carries g c = λ s held e at gone.
    let old = g.D.Disk.medium c.args.store.now in
    let rows = c.args.records.now in
    deletes_as old (g.D.Disk.medium c.delete.new.store) s rows c.delete.new.self at.stands c.args.place c.args.reply.now e gone (Err c.in-Err.field-0)
    (c.in-Err.ensures.labels (keys_of s.registers) s.labels (kept_labels s rows old at.stands)) tt

pub returns-in-Ok-clause-left : goal.returns-in-Ok-clause-left
returns-in-Ok-clause-left g c = record {
  left =
      stored_left g.D.Disk.medium g.D.Disk.faults c.args.store.now c.delete.new.store c.args.records.now c.delete.new.self c.end.new.reply c.args.place _ _ c.args.lease.now c.delete.new.lease
      c.in-Ok.field-0 c.end.ensures.line c.in-Ok.ensures.changes;
  kept = search rules;
  fault = search rules;
  loan = search rules;
}

pub returns-in-Ok-clause-own : goal.returns-in-Ok-clause-own
returns-in-Ok-clause-own g c =
    (done_says [] c.end.new.reply (c.end.ensures.spells [] (no_fields c.args.reply.now c.ok.new.self c.requires.empty c.ok.ensures.bytes)), c.in-Ok.ensures.changes.memory.done)
