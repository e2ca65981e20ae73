use Rattle.std.proofs.Common.{arith}
use Rattle.des_blocks.proofs.GatherLemmas.{gathered-all, gathered-more, gathered-done}
use Rattle.des_blocks.proofs.gathering.gathered.Goals as goal

pub loop-row-init : goal.loop-row-init
loop-row-init g c = record { value = gathered-all g.row.ENTRIES g.row.BITS c.args.rows.now c.args.word }

pub loop-row-preserved : goal.loop-row-preserved
loop-row-preserved g c = record {
  value = gathered-more g.row.ENTRIES g.row.BITS c.args.rows.now c.row-item.result c.loop-row.out c.loop-row.rest c.loop-row.row-index _ (omega arith) c.row-item.is c.loop-row.invariant.value;
}

pub returns : goal.returns
returns g c = gathered-done g.row.ENTRIES g.row.BITS c.args.rows.now c.loop-row.out c.loop-row.rest c.loop-row.row-index _ (omega arith) c.loop-row.invariant.value
