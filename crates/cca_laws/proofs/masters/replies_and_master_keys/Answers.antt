use Rattle.cca_laws.proofs.NamedLaws.{same_by_label, same_by_state}
use Rattle.cca_laws.proofs.masters.replies_and_master_keys.Goals as goal

pub returns-clause-coming : goal.returns-clause-coming
returns-clause-coming c = same_by_state

pub returns-clause-labelled : goal.returns-clause-labelled
returns-clause-labelled c = same_by_label
