use Rattle.key_records.proofs.AgeLaws.{old_labels, no_old_labels}
use Rattle.key_records.proofs.laws.labels_under_the_old_master_key.Goals as goal

pub returns-clause-old : goal.returns-clause-old
returns-clause-old c masters former apart is = old_labels masters apart former is

pub returns-clause-none : goal.returns-clause-none
returns-clause-none c = no_old_labels
