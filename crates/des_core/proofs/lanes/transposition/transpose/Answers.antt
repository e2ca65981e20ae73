use Rattle.des_core.proofs.LaneTurnLemmas.{stage-1, stage-16, stage-2, stage-32, stage-4, stage-8, transposed}
use Rattle.des_core.proofs.lanes.transposition.transpose.Goals as goal

pub stage-requires-clause-stage : goal.stage-requires-clause-stage
stage-requires-clause-stage c = stage-32

pub stage-requires-2-clause-stage : goal.stage-requires-2-clause-stage
stage-requires-2-clause-stage c = stage-16

pub stage-requires-3-clause-stage : goal.stage-requires-3-clause-stage
stage-requires-3-clause-stage c = stage-8

pub stage-requires-4-clause-stage : goal.stage-requires-4-clause-stage
stage-requires-4-clause-stage c = stage-4

pub stage-requires-5-clause-stage : goal.stage-requires-5-clause-stage
stage-requires-5-clause-stage c = stage-2

pub stage-requires-6-clause-stage : goal.stage-requires-6-clause-stage
stage-requires-6-clause-stage c = stage-1

pub returns-clause-bits : goal.returns-clause-bits
returns-clause-bits c =
    transposed c.args.words.now c.stage.new.words c.stage-2.new.words c.stage-3.new.words c.stage-4.new.words c.stage-5.new.words c.stage-6.new.words
    c.stage.ensures.bits c.stage-2.ensures.bits c.stage-3.ensures.bits c.stage-4.ensures.bits c.stage-5.ensures.bits c.stage-6.ensures.bits
