use Rattle.std.proofs.Common.{◌≡◌, length, refl, arith}
use Rattle.key_cells.specs.Secret.{bytes_of}
use Rattle.key_cells.proofs.ByteLemmas.{combined_none, combined_more, combined_all, combined_bytes}
use Rattle.master_registers.proofs.combining.xor_secret.Goals as goal

pub loop-at-init : goal.loop-at-init
loop-at-init g c = combined_none c.args.into.now (bytes_of c.args.secret.now) (λ k. omega (arith, c.type_inv.into k))

pub loop-at-preserved : goal.loop-at-preserved
loop-at-preserved g c =
    combined_more c.args.into.now (bytes_of c.args.secret.now) c.loop-at.into c.loop-at.at _ _ c.loop-at.invariant (omega arith) (omega (arith, c.byte.ensures.size)) refl
    c.byte.ensures.value c.byte.type_inv

pub returns-clause-combined : goal.returns-clause-combined
returns-clause-combined g c =
    let whole : length (bytes_of c.args.secret.now) ≡ g.row.N = c.args.secret.now.whole in
    combined_all c.args.into.now (bytes_of c.args.secret.now) c.loop-at.into c.loop-at.at c.loop-at.invariant (omega arith) (omega arith)

pub returns-clause-bytes : goal.returns-clause-bytes
returns-clause-bytes g c = combined_bytes c.args.into.now (bytes_of c.args.secret.now) c.loop-at.into g.row.N c.loop-at.at c.loop-at.invariant (omega arith)
