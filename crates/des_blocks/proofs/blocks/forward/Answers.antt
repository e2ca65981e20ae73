use Rattle.des_blocks.specs.Schedules.{ordered}
use Rattle.des_blocks.proofs.blocks.forward.Goals as goal

pub returns : goal.returns
unfolding ordered
returns c = c.rounds.ensures
