use Rattle.cca_laws.proofs.CeremonyLaws.{without_first, without_combine, without_set}
use Rattle.cca_laws.proofs.MasterLaws.{only_last}
use Rattle.cca_laws.proofs.duties.separate_duties.Goals as goal

pub returns-clause-first : goal.returns-clause-first
returns-clause-first c = without_first

pub returns-clause-combine : goal.returns-clause-combine
returns-clause-combine c = without_combine

pub returns-clause-set : goal.returns-clause-set
returns-clause-set c = without_set

pub returns-clause-parts : goal.returns-clause-parts
returns-clause-parts c = only_last
