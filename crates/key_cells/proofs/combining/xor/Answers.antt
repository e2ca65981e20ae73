use Rattle.std.proofs.Common.{refl, arith}
use Rattle.key_cells.proofs.ByteLemmas.{combined_none, combined_more, combined_all, combined_bytes}
use Rattle.key_cells.proofs.combining.xor.Goals as goal

pub loop-at-init : goal.loop-at-init
loop-at-init c = combined_none c.args.into.now c.args.other.now (λ k. omega (arith, c.type_inv.into k))

pub loop-at-preserved : goal.loop-at-preserved
loop-at-preserved c =
    combined_more c.args.into.now c.args.other.now c.loop-at.into c.loop-at.at _ _ c.loop-at.invariant (omega arith) (omega arith) refl refl
    (omega (arith, c.type_inv.other c.loop-at.at))

pub returns-clause-combined : goal.returns-clause-combined
returns-clause-combined c = combined_all c.args.into.now c.args.other.now c.loop-at.into c.loop-at.at c.loop-at.invariant (omega arith) (omega arith)

pub returns-clause-bytes : goal.returns-clause-bytes
returns-clause-bytes c = combined_bytes c.args.into.now c.args.other.now c.loop-at.into _ c.loop-at.at c.loop-at.invariant (omega arith)
