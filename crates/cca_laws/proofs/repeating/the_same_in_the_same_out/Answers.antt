use Rattle.cca_laws.proofs.DiskLaws.{one_state, same_replies, same_bytes}
use Rattle.cca_laws.proofs.repeating.the_same_in_the_same_out.Goals as goal

pub returns-clause-one : goal.returns-clause-one
returns-clause-one c = one_state

pub returns-clause-replies : goal.returns-clause-replies
returns-clause-replies c = same_replies

pub returns-clause-bytes : goal.returns-clause-bytes
returns-clause-bytes c = same_bytes
