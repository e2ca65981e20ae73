use Rattle.audit_trail.proofs.BodyLaws.{one_number, one_entry}
use Rattle.audit_trail.proofs.laws.a_body_spells_one_record.Goals as goal

pub returns-clause-number : goal.returns-clause-number
returns-clause-number c = λ bytes m n e f first second. one_number bytes m n e f first second

pub returns-clause-entry : goal.returns-clause-entry
returns-clause-entry c = λ bytes m n e f first second. one_entry bytes m n e f first second
