use Rattle.std.proofs.Common.{drop, reverse, refl, ap, ◌∙◌}
use Rattle.des_blocks.specs.Des.{places}
use Rattle.des_blocks.specs.Tables.{initial_permutation}
use Rattle.des_core.specs.Lanes.{lane}
use Rattle.des_core.proofs.CipherLemmas.{initial-right, right_places, vectors-pick, written-is}
use Rattle.des_core.proofs.lanes.ciphers.initial_right.Goals as goal

pub returns-clause-vectors : goal.returns-clause-vectors
unfolding right_places
returns-clause-vectors c = vectors-pick right_places 64 c.args.words.now c.told-words c.requires refl

pub returns-clause-lanes : goal.returns-clause-lanes
unfolding right_places
returns-clause-lanes c e i =
    initial-right e i c.args.words.now ∙ ap (λ ws. drop 32 (places initial_permutation (reverse (lane e i ws)))) (written-is 64 c.args.words.now c.told-words)
