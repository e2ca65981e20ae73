use Rattle.std.proofs.Common.{◌∙◌, ◌++◌, Bool, Ok, Err, ap, sym, rules}
use Rattle.line_service.specs.Replies.{Done, spelled}
use Rattle.verb_rules.specs.Keys.{keys_of}
use Rattle.cca_machine.specs.Keys.{warning}
use Rattle.cca_requests.proofs.Storing.{kept_labels, stored_left, writes_as}
use Rattle.cca_requests.proofs.changing_store.write.Goals as goal

pub returns-in-Ok-clause-carries : goal.returns-in-Ok-clause-carries
returns-in-Ok-clause-carries g c = λ s request e at warns goes.
    let old = g.D.Disk.medium c.args.store.now in
    let rows = c.args.records.now in
    writes_as old (g.D.Disk.medium c.write.new.store) s rows c.write.new.self at.stands c.args.place c.finish.new.reply
    request e c.args.token.now c.args.reply.now goes (Ok c.in-Ok.field-0)
    (c.in-Ok.ensures.labels (keys_of s.registers) s.labels goes.key (kept_labels s rows old at.stands) goes.stands)
    (c.finish.ensures.spells goes.fields goes.reply_is ∙ ap (λ (b : Bool). spelled (Done (goes.fields ++ warning b))) (sym warns))

pub returns-in-Err-clause-carries : goal.returns-in-Err-clause-carries
returns-in-Err-clause-carries g c = λ s request e at warns goes.
    let old = g.D.Disk.medium c.args.store.now in
    let rows = c.args.records.now in
    writes_as old (g.D.Disk.medium c.write.new.store) s rows c.write.new.self at.stands c.args.place c.clear.new.self
    request e c.args.token.now c.args.reply.now goes (Err c.in-Err.field-0)
    (c.in-Err.ensures.labels (keys_of s.registers) s.labels goes.key (kept_labels s rows old at.stands) goes.stands) tt

pub returns-in-Ok-clause-left : goal.returns-in-Ok-clause-left
returns-in-Ok-clause-left g c = record {
  left =
      stored_left g.D.Disk.medium g.D.Disk.faults c.args.store.now c.write.new.store c.args.records.now c.write.new.self c.finish.new.reply c.args.place _ _ c.args.lease.now c.write.new.lease
      c.in-Ok.field-0 c.finish.ensures.line c.in-Ok.ensures.changes;
  kept = search rules;
  fault = search rules;
  loan = search rules;
}

pub returns-in-Ok-clause-own : goal.returns-in-Ok-clause-own
returns-in-Ok-clause-own g c = c.in-Ok.ensures.changes.memory.done
