use Rattle.std.proofs.Common.{◌≡◌, ℕ, List, ◌*◌, length, take}
use Rattle.des_blocks.specs.Des.{places}
use Rattle.des_blocks.proofs.Numbers.{key_numbers}
use Rattle.des_blocks.specs.Schedules.{AreKeysOf, group_bits}
use Rattle.des_blocks.proofs.key_schedule.put_keys.Given as goal

abbrev pub invariant-loop-round : goal.invariant-loop-round
invariant-loop-round l = record {
  size : length l.out.groups ≡ 128;
  value : (key : List ℕ) → AreKeysOf l.words key → group_bits (take (8 * l.round) l.out.groups) ≡ take (48 * l.round) (places key_numbers key);
}
