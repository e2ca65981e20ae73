use Rattle.record_bodies.specs.Entries.{row_directory}
use Rattle.record_bodies.proofs.EveryDirectory.{nth_label}
use Rattle.key_records.proofs.laws.each_index_has_a_label.Goals as goal

pub returns : goal.returns
returns c rows index are below = nth_label (row_directory rows) are.apart index below
