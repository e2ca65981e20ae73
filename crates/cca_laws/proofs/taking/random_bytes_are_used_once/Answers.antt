use Rattle.cca_laws.proofs.GeneratedLaws.{same_key}
use Rattle.cca_laws.proofs.TakenLaws.{in_order, no_random, own_bytes, random_shown}
use Rattle.cca_laws.proofs.taking.random_bytes_are_used_once.Goals as goal

pub returns-clause-order : goal.returns-clause-order
returns-clause-order c = in_order

pub returns-clause-own : goal.returns-clause-own
returns-clause-own c = own_bytes

pub returns-clause-shown : goal.returns-clause-shown
returns-clause-shown c = random_shown

pub returns-clause-others : goal.returns-clause-others
returns-clause-others c = no_random

pub returns-clause-made : goal.returns-clause-made
returns-clause-made c = same_key
