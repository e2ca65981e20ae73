-- Verification patterns of master keys, by Python's hashlib.
use Rattle.std.specs.Prelude.{◌≡◌, replicate}
use Rattle.std.specs.Int.{to_be_bytes, w64}
use Rattle.std.specs.List.{range_with_len}
use Rattle.master_registers.specs.Masters.{pattern_of_master}

pub record PatternsStand : Type 0 where
  pub of_zeros : pattern_of_master (replicate 24 0) ≡ to_be_bytes w64 0x862e4f6e22d55ae0
  pub of_ones : pattern_of_master (replicate 24 0xff) ≡ to_be_bytes w64 0x0d5202c362645590
  pub counting_up : pattern_of_master (range_with_len 0 24) ≡ to_be_bytes w64 0xcf5f3c9201ae70a9
