-- The lines are counted section by section.
use Rattle.std.proofs.Common.{sym}
use Rattle.command_words.proofs.DemoLemmas.{demo-count}
use Rattle.command_words.proofs.summary.line_count.Goals as goal

pub returns : goal.returns
returns c = sym (demo-count c.args.number)
