use Rattle.cca_laws.proofs.AheadLaws.{ahead_after, current_after, clear_waits}
use Rattle.cca_laws.proofs.preparing.labels_are_current_at_once.Goals as goal

pub returns-clause-ahead : goal.returns-clause-ahead
returns-clause-ahead c = ahead_after

pub returns-clause-set : goal.returns-clause-set
returns-clause-set c = current_after

pub returns-clause-clear : goal.returns-clause-clear
returns-clause-clear c = clear_waits
