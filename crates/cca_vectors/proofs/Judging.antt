-- A list of checks names no rule exactly where each of its tests holds.
use Rattle.std.proofs.Common.{◌≡◌, ℕ, Bool, true, false, not, List, [], ◌∷◌, ◌++◌, None, Some, refl}
use Rattle.cca_vectors.specs.Checks.{Check, check, first_failing}

-- the first check passed, and those after it name none
pub passes_first : (rule : ℕ) (test : Bool) (checks : List Check) → first_failing (check rule (not test) ∷ checks) ≡ None → test ≡ true
passes_first rule true checks none = refl
passes_first rule false checks none = cc

pub passes_rest : (rule : ℕ) (test : Bool) (checks : List Check) → first_failing (check rule (not test) ∷ checks) ≡ None → first_failing checks ≡ None
passes_rest rule true checks none = none
passes_rest rule false checks none = cc

pub passes : (rule : ℕ) (test : Bool) (checks : List Check) → test ≡ true → first_failing checks ≡ None → first_failing (check rule (not test) ∷ checks) ≡ None
passes rule true checks holds none = none
passes rule false checks holds none = cc

-- a list of checks after another
pub passed_over : (first second : List Check) → first_failing first ≡ None → first_failing (first ++ second) ≡ first_failing second
passed_over [] second none = refl
passed_over (c ∷ checks) second none =
    elim c.fails as (λ fails. first_failing (record { rule = c.rule; fails = fails } ∷ checks) ≡ None → first_failing ((record { rule = c.rule; fails = fails } ∷ checks) ++ second) ≡ first_failing second)
    [ true ↦ (λ h. cc) | false ↦ (λ h. passed_over checks second h) ] none

pub stopped_in : (first second : List Check) (rule : ℕ) → first_failing first ≡ Some rule → first_failing (first ++ second) ≡ Some rule
stopped_in [] second rule named = cc
stopped_in (c ∷ checks) second rule named =
    elim c.fails as (λ fails. first_failing (record { rule = c.rule; fails = fails } ∷ checks) ≡ Some rule → first_failing ((record { rule = c.rule; fails = fails } ∷ checks) ++ second) ≡ Some rule)
    [ true ↦ (λ h. h) | false ↦ (λ h. stopped_in checks second rule h) ] named

pub none_in_first : (first second : List Check) → first_failing (first ++ second) ≡ None → first_failing first ≡ None
none_in_first [] second none = refl
none_in_first (c ∷ checks) second none =
    elim c.fails as (λ fails. first_failing ((record { rule = c.rule; fails = fails } ∷ checks) ++ second) ≡ None → first_failing (record { rule = c.rule; fails = fails } ∷ checks) ≡ None)
    [ true ↦ (λ h. cc) | false ↦ (λ h. none_in_first checks second h) ] none

-- the first check is broken
pub fails_first : (rule : ℕ) (test : Bool) (checks : List Check) → test ≡ false → first_failing (check rule (not test) ∷ checks) ≡ Some rule
fails_first rule true checks fails = cc
fails_first rule false checks fails = refl
