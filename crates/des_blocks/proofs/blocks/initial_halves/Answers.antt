use Rattle.std.proofs.Common.{◌<◌, ◌^◌, rules}
use Rattle.des_blocks.proofs.HalfLemmas.{entry-halves}
use Rattle.des_blocks.proofs.blocks.initial_halves.Goals as goal

pub returns : goal.returns
returns c =
    let fits : c.args.block < 2 ^ 64 = search rules in
    rw (c.gathered.ensures, c.gathered-2.ensures) (entry-halves c.args.block fits)
