use Rattle.std.proofs.Common.{arith, rules}
use Rattle.des_blocks.proofs.ColumnLemmas.{column-none, column-more, column-done}
use Rattle.des_blocks.proofs.gathering.gathered_each.Goals as goal

pub loop-row-init : goal.loop-row-init
loop-row-init c = record { size = search rules; value = λ at h. column-none at c.args.rows.now c.args.word h }

pub loop-row-preserved : goal.loop-row-preserved
loop-row-preserved c = record {
  size = search rules;
  value = λ at h. column-more at c.args.rows.now _ _ c.loop-row.out c.join_entry.new.words c.loop-row.rest c.loop-row.row-index _ h (omega arith) c.join_entry.ensures.entries c.join_entry.ensures.size c.loop-row.invariant.size c.join_entry.ensures.joined
      (c.loop-row.invariant.value at h);
}

pub returns : goal.returns
returns c = λ at h. column-done at c.args.rows.now c.loop-row.out c.loop-row.rest c.loop-row.row-index _ (omega arith) (c.loop-row.invariant.value at h)
