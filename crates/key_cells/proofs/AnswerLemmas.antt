-- What an answer is not, and what is known of one that is no error.
use Rattle.std.proofs.Common.{◌≡◌, Bool, true, false, Ok, Err, sym, ◌∙◌}
use Rattle.std.specs.Prelude.{Result, OnOk, is_err}

-- a value is no error
pub no_err : {E T P : Type 0} {x : T} {e : E} → ◌≡◌ {A = Result T E} (Ok x) (Err e) → P
no_err is = absurd (cc is)

-- what a call says of its value, where it answered no error
pub unless_err : {T E P : Type 0} (r : Result T E) → is_err r ≡ false → OnOk r P → P
unless_err (Ok x) is holds = holds
unless_err (Err e) is holds = let wrong : true ≡ false = is in absurd (cc)

-- a test that fails doesn't hold
pub not_true : (b : Bool) → b ≡ false → b ≡ true → ⊥
not_true b is holds = let both : true ≡ false = sym holds ∙ is in cc
