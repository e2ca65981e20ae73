use Rattle.cca_laws.proofs.DrawnLaws.{one_key}
use Rattle.cca_laws.proofs.GeneratedLaws.{keys_are_drawn}
use Rattle.cca_laws.proofs.drawing.keys_are_drawn.Goals as goal

pub returns-clause-keys : goal.returns-clause-keys
returns-clause-keys c = keys_are_drawn

pub returns-clause-one : goal.returns-clause-one
returns-clause-one c = one_key
