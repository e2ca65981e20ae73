use Rattle.cca_laws.proofs.GeneratedLaws.{halves_differ}
use Rattle.cca_laws.proofs.HalfLaws.{forms_unique}
use Rattle.cca_laws.proofs.halves.generated_halves_are_unique.Goals as goal

pub returns-clause-halves : goal.returns-clause-halves
returns-clause-halves c = halves_differ

pub returns-clause-vectors : goal.returns-clause-vectors
returns-clause-vectors c = forms_unique
