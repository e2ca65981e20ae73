use Rattle.cca_laws.proofs.PassedLaws.{passed_delivered, passed_replied, passed_written}
use Rattle.cca_laws.proofs.passing.passed_on_unchanged.Goals as goal

pub returns-clause-delivered : goal.returns-clause-delivered
returns-clause-delivered c = passed_delivered

pub returns-clause-replied : goal.returns-clause-replied
returns-clause-replied c = passed_replied

pub returns-clause-written : goal.returns-clause-written
returns-clause-written c = passed_written
