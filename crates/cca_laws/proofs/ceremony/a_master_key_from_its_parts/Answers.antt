use Rattle.cca_laws.proofs.MasterLaws.{entered_full, others_say_nothing, partly_full, parts_long, rest_stays, set_registers}
use Rattle.cca_laws.proofs.ceremony.a_master_key_from_its_parts.Goals as goal

pub returns-clause-begun : goal.returns-clause-begun
returns-clause-begun c = partly_full

pub returns-clause-entered : goal.returns-clause-entered
returns-clause-entered c = entered_full

pub returns-clause-key : goal.returns-clause-key
returns-clause-key c = set_registers

pub returns-clause-rest : goal.returns-clause-rest
returns-clause-rest c = rest_stays

pub returns-clause-parts : goal.returns-clause-parts
returns-clause-parts c = parts_long

pub returns-clause-others : goal.returns-clause-others
returns-clause-others c = others_say_nothing
