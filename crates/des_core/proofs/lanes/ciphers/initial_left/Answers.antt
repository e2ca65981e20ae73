use Rattle.std.proofs.Common.{take, reverse, refl, ap, ◌∙◌}
use Rattle.des_blocks.specs.Des.{places}
use Rattle.des_blocks.specs.Tables.{initial_permutation}
use Rattle.des_core.specs.Lanes.{lane}
use Rattle.des_core.proofs.CipherLemmas.{initial-left, left_places, vectors-pick, written-is}
use Rattle.des_core.proofs.lanes.ciphers.initial_left.Goals as goal

pub returns-clause-vectors : goal.returns-clause-vectors
unfolding left_places
returns-clause-vectors c = vectors-pick left_places 64 c.args.words.now c.told-words c.requires refl

pub returns-clause-lanes : goal.returns-clause-lanes
unfolding left_places
returns-clause-lanes c e i =
    initial-left e i c.args.words.now ∙ ap (λ ws. take 32 (places initial_permutation (reverse (lane e i ws)))) (written-is 64 c.args.words.now c.told-words)
