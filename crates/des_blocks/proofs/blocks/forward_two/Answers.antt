use Rattle.des_blocks.specs.Schedules.{ordered}
use Rattle.des_blocks.proofs.blocks.forward_two.Goals as goal

pub returns : goal.returns
unfolding ordered
returns c = record { first = c.rounds_of_two.ensures.first; second = c.rounds_of_two.ensures.second }
