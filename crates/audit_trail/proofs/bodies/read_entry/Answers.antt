use Rattle.audit_trail.proofs.BodyLaws.{one_number}
use Rattle.audit_trail.proofs.bodies.read_entry.Goals as goal

pub returns-else-record-number-clause-none : goal.returns-else-record-number-clause-none
returns-else-record-number-clause-none c = λ _ e spells.
    c.if-record-number.false (one_number c.args.body.now c.in-Some.record.number c.args.number c.in-Some.record.entry e c.in-Some.ensures.reads spells)
