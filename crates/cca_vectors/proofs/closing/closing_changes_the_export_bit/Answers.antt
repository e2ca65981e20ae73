use Rattle.cca_vectors.proofs.ClosedBitLemmas.{halves_closed}
use Rattle.cca_vectors.proofs.closing.closing_changes_the_export_bit.Goals as goal

pub returns-clause-left : goal.returns-clause-left
returns-clause-left c vector valid some = (halves_closed vector valid some).0

pub returns-clause-right : goal.returns-clause-right
returns-clause-right c vector valid some = (halves_closed vector valid some).1
