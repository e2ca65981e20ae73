use Rattle.std.proofs.Common.{refl, arith, rules}
use Rattle.des_blocks.proofs.ColumnLemmas.{words-none, words-more, words-all}
use Rattle.des_blocks.proofs.gathering.join.Goals as goal

pub loop-at-init : goal.loop-at-init
loop-at-init c = record { size = search rules; front = words-none c.args.words.now c.args.others.now }

pub loop-at-preserved : goal.loop-at-preserved
loop-at-preserved c = record {
  size = search rules;
  front = words-more c.args.words.now c.args.others.now c.loop-at.words c.loop-at.at _ _ c.loop-at.invariant.front (omega arith) (omega arith) refl refl;
}

pub returns-clause-joined : goal.returns-clause-joined
returns-clause-joined c = words-all c.args.words.now c.args.others.now c.loop-at.words c.loop-at.at c.loop-at.invariant.front (omega arith) (omega arith)
