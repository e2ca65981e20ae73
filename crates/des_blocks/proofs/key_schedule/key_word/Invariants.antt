use Rattle.std.proofs.Common.{◌≡◌, ◌<◌, ◌^◌, ◌*◌, take}
use Rattle.key_cells.specs.Secret.{bytes_of}
use Rattle.des_blocks.specs.Bits.{bits, byte_bits}
use Rattle.des_blocks.proofs.key_schedule.key_word.Given as goal

abbrev pub invariant-loop-at : goal.invariant-loop-at
invariant-loop-at l = record {
  small : l.word < 2 ^ (8 * l.at);
  value : bits (8 * l.at) l.word ≡ byte_bits (take l.at (bytes_of l.key));
}
