-- A verdict is a list of checks in order: the first that fails is named.
use Rattle.std.specs.Prelude.{ℕ, Bool, List, [], ◌∷◌, Option, None, Some, if◌then◌else◌}

-- a rule, by its number, and whether it is broken
pub record Check : Type 0 where
  pub rule : ℕ
  pub fails : Bool

abbrev pub check : ℕ → Bool → Check
check rule fails = record { rule = rule; fails = fails }

-- the first rule that is broken
abbrev pub first_failing : List Check → Option ℕ
first_failing [] = None
first_failing (c ∷ checks) = if c.fails then Some c.rule else first_failing checks
