use Rattle.std.proofs.Common.{sym, ◌∙◌}
use Rattle.cca_roles.proofs.BodyLaws.{slot_blank, slot_of_role, blank_later}
use Rattle.cca_roles.proofs.bodies.read_slot.Goals as goal

pub returns-then-is_blank-clause-found : goal.returns-then-is_blank-clause-found
returns-then-is_blank-clause-found c = sym (slot_blank c.args.place c.args.body.now (c.is_blank.ensures.0 c.if-is_blank.true) ∙ blank_later c.args.place c.requires)

pub returns-in-Some-clause-found : goal.returns-in-Some-clause-found
returns-in-Some-clause-found c = sym (slot_of_role c.args.place c.args.body.now c.in-Some.role c.in-Some.ensures.reads)
