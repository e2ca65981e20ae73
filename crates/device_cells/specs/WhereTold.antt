-- What a clause says of a device's bytes: something where the device tells them, and nothing where it doesn't.
use Rattle.std.specs.Prelude.{ℕ, List, Option, None, Some, ⊤}

-- P holds of the bytes before and now. What was told is still told.
abbrev pub WhereTold : Option (List ℕ) → Option (List ℕ) → (List ℕ → List ℕ → Type 0) → Type 0
WhereTold None now P = ⊤
WhereTold (Some before) None P = ⊥
WhereTold (Some before) (Some now) P = P before now
