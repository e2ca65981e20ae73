use Rattle.key_parts.proofs.XorLemmas.{only_part}
use Rattle.key_parts.proofs.laws.the_other_parts_say_nothing.Goals as goal

pub returns : goal.returns
returns c = only_part
