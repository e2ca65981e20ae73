use Rattle.std.proofs.Common.{◌<◌, ◌^◌, rules}
use Rattle.des_blocks.proofs.HalfLemmas.{exit-block}
use Rattle.des_blocks.proofs.blocks.final_block.Goals as goal

pub returns : goal.returns
returns c both are =
    let left : c.args.halves.left < 2 ^ 64 = search rules in
    let right : c.args.halves.right < 2 ^ 64 = search rules in
    rw (c.gathered.ensures, c.gathered-2.ensures) (exit-block c.args.halves.left c.args.halves.right both left right are)
