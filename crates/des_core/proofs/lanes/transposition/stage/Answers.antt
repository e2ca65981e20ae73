use Rattle.std.proofs.Common.{◌≡◌, ap, ◌∙◌, refl, arith}
use Rattle.des_core.specs.Stages.{first_row, second_row}
use Rattle.des_core.proofs.StageLemmas.{first-below, paired, paired-more, stage-bits, stage-vectors}
use Rattle.des_core.proofs.lanes.transposition.stage.Goals as goal

pub bounds-words-at-in-loop-pair : goal.bounds-words-at-in-loop-pair
bounds-words-at-in-loop-pair c = let below = (first-below c.args.apart c.args.mask c.loop-pair.pair c.requires.stage c.loop-pair-test.true).1 in omega arith

pub exchanged-requires : goal.exchanged-requires
exchanged-requires c = let below = (first-below c.args.apart c.args.mask c.loop-pair.pair c.requires.stage c.loop-pair-test.true).1 in omega arith

pub bounds-words-at-in-loop-pair-3 : goal.bounds-words-at-in-loop-pair-3
bounds-words-at-in-loop-pair-3 c = let below = (first-below c.args.apart c.args.mask c.loop-pair.pair c.requires.stage c.loop-pair-test.true).1 in omega arith

pub loop-pair-init : goal.loop-pair-init
loop-pair-init c = record { rows = refl }

pub loop-pair-preserved : goal.loop-pair-preserved
loop-pair-preserved c = record {
  rows = paired-more c.args.apart c.args.mask c.loop-pair.pair c.args.words.now c.loop-pair.words _ c.exchanged.result.0 c.exchanged.result.1 c.loop-pair.invariant.rows c.exchanged.ensures.first c.exchanged.ensures.second refl;
}

pub returns-clause-bits : goal.returns-clause-bits
returns-clause-bits c =
    let all : c.loop-pair.pair ≡ 32 = omega arith in
    stage-bits c.args.apart c.args.mask c.args.words.now c.loop-pair.words c.requires.stage c.told-words c.requires.vectors
    (c.loop-pair.invariant.rows ∙ ap (λ n. paired (first_row c.args.apart c.args.mask) (second_row c.args.apart c.args.mask) c.args.apart n c.args.words.now) all)

pub returns-clause-vectors : goal.returns-clause-vectors
returns-clause-vectors c =
    let all : c.loop-pair.pair ≡ 32 = omega arith in
    stage-vectors c.args.apart c.args.mask c.args.words.now c.loop-pair.words c.requires.stage c.told-words c.requires.vectors
    (c.loop-pair.invariant.rows ∙ ap (λ n. paired (first_row c.args.apart c.args.mask) (second_row c.args.apart c.args.mask) c.args.apart n c.args.words.now) all)
