use Rattle.std.proofs.Common.{subst}
use Rattle.key_cells.specs.Secret.{bytes_of}
use Rattle.des_blocks.specs.Bits.{byte_bits}
use Rattle.des_blocks.specs.Schedules.{AreKeysOf}
use Rattle.des_blocks.proofs.key_schedule.schedule.Goals as goal

pub returns : goal.returns
returns c =
    c.put_keys.ensures (byte_bits (bytes_of c.args.key.now)) (subst (AreKeysOf c.key_words.result) c.key_word.ensures c.key_words.ensures)
