use Rattle.des_blocks.proofs.PieceLemmas.{pieces-are}
use Rattle.std.proofs.Common.{◌<◌, ◌^◌, rules}
use Rattle.des_blocks.proofs.key_schedule.key_words.Goals as goal

pub returns : goal.returns
returns c =
    let fits : c.args.key < 2 ^ 64 = search rules in
    pieces-are c.gathered_each.result c.args.key fits c.gathered_each.ensures
