use Rattle.record_bodies.proofs.RowTurns.{rows_turn}
use Rattle.key_records.proofs.TurningLaws.{store_turns, memory_turns}
use Rattle.key_records.proofs.laws.labels_after_set.Goals as goal

pub returns-clause-store : goal.returns-clause-store
returns-clause-store c = store_turns

pub returns-clause-memory : goal.returns-clause-memory
returns-clause-memory c = memory_turns

pub returns-clause-rows : goal.returns-clause-rows
returns-clause-rows c = rows_turn
