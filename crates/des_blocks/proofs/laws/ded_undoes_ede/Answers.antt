use Rattle.des_blocks.proofs.LawLemmas.{ded_under-ede_under, ede_under-ded_under}
use Rattle.des_blocks.proofs.laws.ded_undoes_ede.Goals as goal

pub returns : goal.returns
returns c = record { undone = ded_under-ede_under; redone = ede_under-ded_under }
