-- What an exit doesn't say.
use Rattle.std.proofs.Common.{◌≡◌, true, false}

-- an answer that is none isn't some
pub never : {P : Type 0} → false ≡ true → P
never {P} wrong = absurd (cc)
