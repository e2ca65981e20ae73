-- What an array of bytes ends as, where its first bytes were lent for writing.
use Rattle.std.specs.Prelude.{ℕ, List, ◌++◌, drop}
use Rattle.std.specs.Borrow.{Lends, MutBor, Fml, Array, u8}

-- the first bytes become what was written, and the rest stays
abbrev pub LendsFront : ℕ → MutBor (List ℕ) → ℕ → MutBor (List ℕ) → Fml
LendsFront n bytes len r = Lends (Array u8 n) (Array u8 0) bytes r (λ written. written ++ drop len bytes.now)
