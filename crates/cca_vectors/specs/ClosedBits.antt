-- A half of a control vector made one that forbids export, bit by bit.
use Rattle.std.specs.Prelude.{◌≡◌, ◌≢◌, ◌<◌, ℕ, List, slice_index}
use Rattle.cca_vectors.specs.Bits.{bit}
use Rattle.cca_vectors.specs.Vectors.{IsEven}

-- the export bit 17 is off, bit 23 is as the parity of byte 2 asks, and every other bit is as it was
pub record HasClosed (old new : List ℕ) : Type 0 where
  pub off : bit new 17 ≡ 0
  pub even : IsEven (slice_index new 2)
  pub others : (n : ℕ) → n < 64 → n ≢ 17 → n ≢ 23 → bit new n ≡ bit old n
