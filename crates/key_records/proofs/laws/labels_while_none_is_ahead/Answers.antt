use Rattle.key_records.proofs.TurningLaws.{store_stays, memory_stays}
use Rattle.key_records.proofs.laws.labels_while_none_is_ahead.Goals as goal

pub returns-clause-store : goal.returns-clause-store
returns-clause-store c = store_stays

pub returns-clause-memory : goal.returns-clause-memory
returns-clause-memory c = memory_stays
