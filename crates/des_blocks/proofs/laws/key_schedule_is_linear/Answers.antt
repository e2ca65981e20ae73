use Rattle.des_blocks.proofs.LinearLemmas.{round_keys-xor}
use Rattle.des_blocks.proofs.laws.key_schedule_is_linear.Goals as goal

pub returns : goal.returns
returns c = round_keys-xor
