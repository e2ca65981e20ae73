use Rattle.cca_laws.proofs.ExportLaws.{stays_unexportable}
use Rattle.cca_laws.proofs.PassedLaws.{closed_delivered}
use Rattle.cca_laws.proofs.UseLaws.{operand_allows, shows_no_external, text_key, transport_is, transport1_is, transport2_is}
use Rattle.cca_laws.proofs.usage.keys_are_used_as_permitted.Goals as goal

pub returns-clause-operands : goal.returns-clause-operands
returns-clause-operands c = operand_allows

pub returns-clause-texts : goal.returns-clause-texts
returns-clause-texts c = text_key

pub returns-clause-transport : goal.returns-clause-transport
returns-clause-transport c = transport_is

pub returns-clause-transport1 : goal.returns-clause-transport1
returns-clause-transport1 c = transport1_is

pub returns-clause-transport2 : goal.returns-clause-transport2
returns-clause-transport2 c = transport2_is

pub returns-clause-external : goal.returns-clause-external
returns-clause-external c = shows_no_external

pub returns-clause-closed : goal.returns-clause-closed
returns-clause-closed c = closed_delivered

pub returns-clause-still : goal.returns-clause-still
returns-clause-still c = stays_unexportable
