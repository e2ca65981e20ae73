use Rattle.cca_vectors.proofs.DefaultLemmas.{default_for_length, default_for_valid, default_length, default_valid}
use Rattle.cca_vectors.proofs.default_vector.default_vectors_are_valid.Goals as goal

pub returns-clause-valid : goal.returns-clause-valid
returns-clause-valid c = default_valid

pub returns-clause-length : goal.returns-clause-length
returns-clause-length c = default_length

pub returns-clause-valid_for : goal.returns-clause-valid_for
returns-clause-valid_for c = default_for_valid

pub returns-clause-length_for : goal.returns-clause-length_for
returns-clause-length_for c = default_for_length
