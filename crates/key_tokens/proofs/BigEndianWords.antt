-- The words that byteorder reads and writes are std's.
use Rattle.std.proofs.Common.{◌≡◌, ℕ, List, arith}
use Rattle.std.specs.Int.{from_be_bytes, w32}
use Rattle.byteorder.specs.Endian.{big_number}

pub word_is : (bytes : List ℕ) → big_number 4 bytes ≡ from_be_bytes w32 bytes
word_is bytes = omega arith
