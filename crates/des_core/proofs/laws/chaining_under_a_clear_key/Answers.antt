use Rattle.des_blocks.proofs.ClearKeyLemmas.{cbc-double, cbc-single, uncbc-double, uncbc-single}
use Rattle.des_core.proofs.laws.chaining_under_a_clear_key.Goals as goal

pub returns : goal.returns
returns c = record { single = cbc-single; double = cbc-double; single_back = uncbc-single; double_back = uncbc-double }
