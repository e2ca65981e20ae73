-- The definitions compute.
use Rattle.std.proofs.Common.{refl}
use Rattle.command_words.specs.Demo.{demo_lines}
use Rattle.cca_rows.proofs.worked_demo.Goals as goal

pub returns : goal.returns
unfolding demo_lines
returns c = record { of_three_labels = refl }
