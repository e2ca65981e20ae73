-- Ciphers under three schedules: DES under the first alone, and triple DES under all.
use Rattle.std.specs.Prelude.{ℕ, List}
use Rattle.key_cells.specs.declared.schedules.Schedule.{Schedule}
use Rattle.des_blocks.specs.Bits.{byte_bits, to_bytes}
use Rattle.des_blocks.specs.Des.{decipher}
use Rattle.des_blocks.specs.Schedules.{ded_under, keys_of, schedule_at}
use Rattle.des_core.specs.declared.ciphers.Cipher.{Cipher}
use Rattle.des_core.specs.declared.ciphers.Cipher.TheVariants as cipher

-- 64 bits deciphered
abbrev pub undone : Cipher → List Schedule → List ℕ → List ℕ
undone cipher.Des schedules block = decipher (keys_of (schedule_at schedules 0)) block
undone cipher.TripleDes schedules block = ded_under schedules block

-- a block of 8 bytes deciphered
abbrev pub undone_bytes : Cipher → List Schedule → List ℕ → List ℕ
undone_bytes cipher schedules block = to_bytes (undone cipher schedules (byte_bits block))
