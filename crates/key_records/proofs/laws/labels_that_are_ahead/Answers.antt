use Rattle.key_records.proofs.TurnedLaws.{ahead_known}
use Rattle.key_records.proofs.laws.labels_that_are_ahead.Goals as goal

pub returns : goal.returns
returns c = ahead_known
