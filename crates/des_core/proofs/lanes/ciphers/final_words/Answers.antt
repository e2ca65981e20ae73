use Rattle.std.proofs.Common.{◌++◌, refl, ap, ◌∙◌}
use Rattle.des_blocks.specs.Des.{places}
use Rattle.des_blocks.specs.Tables.{final_permutation}
use Rattle.des_core.specs.Lanes.{lane}
use Rattle.des_core.proofs.CipherLemmas.{final-lanes, halves, halves-vectors, vectors-pick, word_places, written, written-is}
use Rattle.des_core.proofs.lanes.ciphers.final_words.Goals as goal

pub returns-clause-vectors : goal.returns-clause-vectors
unfolding word_places halves written
returns-clause-vectors c =
    let left = c.args.left.now in
    let right = c.args.right.now in
    let both = halves-vectors left right c.told-left c.told-right c.requires.left c.requires.right in
    vectors-pick word_places 64 (halves left right) both.size both.vectors refl

pub returns-clause-lanes : goal.returns-clause-lanes
unfolding word_places halves written
returns-clause-lanes c e i =
    let left = c.args.left.now in
    let right = c.args.right.now in
    final-lanes e i left right
    ∙ ap (λ ws. places final_permutation (lane e i ws ++ lane e i (written 32 right))) (written-is 32 left c.told-left)
    ∙ ap (λ ws. places final_permutation (lane e i left ++ lane e i ws)) (written-is 32 right c.told-right)
