use Rattle.cca_laws.proofs.LabelLaws.{kept_over, aging_keeps, set_waits}
use Rattle.cca_laws.proofs.keeping.no_key_is_lost.Goals as goal

pub returns-clause-kept : goal.returns-clause-kept
returns-clause-kept c = kept_over

pub returns-clause-ages : goal.returns-clause-ages
returns-clause-ages c = aging_keeps

pub returns-clause-set : goal.returns-clause-set
returns-clause-set c = set_waits
