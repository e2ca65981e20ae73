use Rattle.cca_laws.proofs.InsideLaws.{compare_patterns, stay_inside}
use Rattle.cca_laws.proofs.inside.registers_stay_inside.Goals as goal

pub returns-clause-replies : goal.returns-clause-replies
returns-clause-replies c = stay_inside

pub returns-clause-patterns : goal.returns-clause-patterns
returns-clause-patterns c = compare_patterns
