-- A short list of bytes as it is kept: in the first of its places, and zeros in the rest.
use Rattle.std.specs.Prelude.{◌≡◌, ◌≤◌, ◌-◌, ℕ, List, ◌++◌, length, take, replicate}

-- filled with zeros to so many bytes
abbrev pub filled_to : ℕ → List ℕ → List ℕ
filled_to most list = list ++ replicate (most - length list) 0

-- the first so many of at most as many bytes are a list, and the rest fills it
pub record IsShort (most count : ℕ) (bytes : List ℕ) : Type 0 where
  pub short : count ≤ most
  pub long : length (take count bytes) ≡ count
  pub filled : bytes ≡ filled_to most (take count bytes)
