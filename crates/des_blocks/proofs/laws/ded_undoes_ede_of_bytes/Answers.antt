use Rattle.des_blocks.proofs.ValueLemmas.{bytes-ede, bytes-ded, ded-ede, ede-ded, ede-same, ded-same}
use Rattle.des_blocks.proofs.laws.ded_undoes_ede_of_bytes.Goals as goal

pub returns : goal.returns
returns c = record { enciphered = bytes-ede; deciphered = bytes-ded; undone = ded-ede; redone = ede-ded; single = ede-same; single_back = ded-same }
