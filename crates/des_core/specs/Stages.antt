-- Stages of the transposition of 64 rows and columns.
use Rattle.std.specs.Prelude.{◌≡◌, ℕ, ◌+◌, ◌-◌, ◌*◌, ◌/◌, ◌%◌, ◌^◌, ◌<◌, List, replicate, bit_and, bit_xor}
use Rattle.std.specs.Int.{bit_at}
use Rattle.std.specs.Simd.Lanes.{zip2}

-- rows a power of two apart, and a mask of the columns in whose numbers that power is 0
pub record IsStage (apart mask : ℕ) : Type 0 where
  pub power : (k : ℕ) × (k < 6) × (apart ≡ 2 ^ k)
  pub columns : (c : ℕ) → c < 64 → bit_at mask c ≡ 1 - c / apart % 2

-- a number with the bit of a power of two taken from another number
abbrev pub with_bit : ℕ → ℕ → ℕ → ℕ
with_bit apart n other = n - apart * (n / apart % 2) + apart * (other / apart % 2)

-- the bits that two rows exchange
abbrev pub turning : ℕ → ℕ → List ℕ → List ℕ → List ℕ
turning apart mask a b =
    zip2 bit_and (zip2 bit_xor (zip2 (λ x k. x / 2 ^ k) a (replicate 2 apart)) b) (replicate 2 mask)

-- the first of two rows after the exchange
abbrev pub first_row : ℕ → ℕ → List ℕ → List ℕ → List ℕ
first_row apart mask a b =
    zip2 bit_xor a (zip2 (λ x k. x * 2 ^ k % 2 ^ 64) (turning apart mask a b) (replicate 2 apart))

-- the second one
abbrev pub second_row : ℕ → ℕ → List ℕ → List ℕ → List ℕ
second_row apart mask a b = zip2 bit_xor b (turning apart mask a b)
