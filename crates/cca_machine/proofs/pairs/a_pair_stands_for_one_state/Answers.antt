use Rattle.cca_machine.proofs.PairLaws.{pair_one, pair_apart, pair_or_broken}
use Rattle.cca_machine.proofs.pairs.a_pair_stands_for_one_state.Goals as goal

pub returns-clause-one : goal.returns-clause-one
returns-clause-one c = pair_one

pub returns-clause-sound : goal.returns-clause-sound
returns-clause-sound c = pair_apart

pub returns-clause-whole : goal.returns-clause-whole
returns-clause-whole c = pair_or_broken
