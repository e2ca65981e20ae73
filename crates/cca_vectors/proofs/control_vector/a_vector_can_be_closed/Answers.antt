use Rattle.cca_vectors.proofs.ClosingLemmas.{closing_length, closing_off, closing_valid}
use Rattle.cca_vectors.proofs.control_vector.a_vector_can_be_closed.Goals as goal

pub returns-clause-valid : goal.returns-clause-valid
returns-clause-valid c = closing_valid

pub returns-clause-closed : goal.returns-clause-closed
returns-clause-closed c = closing_off

pub returns-clause-length : goal.returns-clause-length
returns-clause-length c = closing_length
