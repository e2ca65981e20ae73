use Rattle.std.proofs.Common.{◌<◌, lit<, arith, rules}
use Rattle.key_cells.specs.Secret.{bytes_of}
use Rattle.des_blocks.proofs.KeyWordLemmas.{no-bytes, word-more, word-small}
use Rattle.des_blocks.proofs.key_schedule.key_word.Goals as goal

pub loop-at-init : goal.loop-at-init
loop-at-init c = record { small = lit< tt; value = no-bytes }

pub loop-at-preserved : goal.loop-at-preserved
loop-at-preserved c =
    let byte : c.byte.result < 256 = search rules in
    record {
      small = word-small c.loop-at.word c.loop-at.at c.byte.result (omega arith) byte c.loop-at.invariant.small;
      value = word-more (bytes_of c.args.key.now) c.loop-at.word c.loop-at.at c.byte.result (omega (arith, c.byte.ensures.size)) c.byte.ensures.size byte c.byte.ensures.value c.loop-at.invariant.small c.loop-at.invariant.value;
    }
