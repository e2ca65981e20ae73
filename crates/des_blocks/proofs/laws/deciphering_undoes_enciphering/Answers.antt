use Rattle.des_blocks.proofs.LawLemmas.{decipher-encipher, encipher-decipher}
use Rattle.des_blocks.proofs.laws.deciphering_undoes_enciphering.Goals as goal

pub returns : goal.returns
returns c = record { undone = decipher-encipher; redone = encipher-decipher }
