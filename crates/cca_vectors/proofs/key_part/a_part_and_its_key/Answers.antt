use Rattle.cca_vectors.proofs.PartLemmas.{part_left, part_length, part_right, part_turned, part_twice, part_valid}
use Rattle.cca_vectors.proofs.key_part.a_part_and_its_key.Goals as goal

pub returns-clause-valid : goal.returns-clause-valid
returns-clause-valid c = part_valid

pub returns-clause-twice : goal.returns-clause-twice
returns-clause-twice c = part_twice

pub returns-clause-length : goal.returns-clause-length
returns-clause-length c = part_length

pub returns-clause-part : goal.returns-clause-part
returns-clause-part c = part_turned

pub returns-clause-left : goal.returns-clause-left
returns-clause-left c = λ vector n valid. part_left vector valid n

pub returns-clause-right : goal.returns-clause-right
returns-clause-right c = λ vector n valid. part_right vector valid n
