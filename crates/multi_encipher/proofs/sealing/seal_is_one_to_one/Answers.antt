use Rattle.multi_encipher.proofs.SealLaws.{one_to_one}
use Rattle.multi_encipher.proofs.sealing.seal_is_one_to_one.Goals as goal

pub returns : goal.returns
returns c = λ bundle vector. one_to_one bundle vector
