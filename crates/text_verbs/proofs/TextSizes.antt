-- A text that passes rule 23 fits into the workbench.
use Rattle.std.proofs.Common.{◌≡◌, ◌≤◌, ℕ, true, false, None, refl}
use Rattle.std.specs.Prelude.{Bool, not, [], ◌∷◌}
use Rattle.cca_vectors.specs.Checks.{check, first_failing}
use Rattle.verb_rules.specs.LengthChecks.{text_checks, has_length}
use Rattle.verb_rules.specs.declared.lengths.TextUse.{TextUse}
use Rattle.verb_rules.proofs.LengthLemmas.{text_fits}

passes : (b : Bool) → first_failing (check 23 (not b) ∷ []) ≡ None → b ≡ true
passes true is = refl
passes false is = cc is

pub fits : (use_of : TextUse) (n : ℕ) → first_failing (text_checks use_of n) ≡ None → n ≤ 4096
fits use_of n is = text_fits use_of n (passes (has_length use_of n) is)
