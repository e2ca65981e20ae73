-- Lists of bytes.
use Rattle.std.specs.Prelude.{◌≡◌, ℕ, ◌<◌, Bool, ◌==◌, List, [], ◌∷◌, length, replicate, All, bit_xor}
use Rattle.std.specs.List.{list_all}

-- n bytes
pub record AreBytes (n : ℕ) (xs : List ℕ) : Type 0 where
  pub size : length xs ≡ n
  pub each : All (λ b. b < 256) xs

-- each byte is zero
abbrev pub IsZero : List ℕ → Type 0
IsZero bytes = bytes ≡ replicate (length bytes) 0

-- the same as a test
abbrev pub is_zero : List ℕ → Bool
is_zero = list_all (λ byte. byte == 0)

-- The exclusive or (XOR) of two lists, of bits or of bytes: of each element of the one and the element of the other
-- beside it. It ends with the shorter list.
unfoldable pub xor : List ℕ → List ℕ → List ℕ
xor [] ys = []
xor (x ∷ xs) [] = []
xor (x ∷ xs) (y ∷ ys) = bit_xor x y ∷ xor xs ys
