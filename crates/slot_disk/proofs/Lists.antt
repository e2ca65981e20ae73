-- Facts on lists.
use Rattle.std.proofs.Common.{◌≡◌, ℕ, suc, List, [], ◌∷◌, ◌++◌, take, drop, length, ap, ◌∙◌, arith}
use Rattle.std.proofs.Math.ListN.{set}
use Rattle.std.proofs.Math.Seq.{set-append_seam}

-- a write to the last place of a list that was turned by one
pub set-turned : {X : Type 0} (xs : List X) (n : ℕ) (v : X) → length xs ≡ suc n → set (drop 1 xs ++ take 1 xs) n v ≡ drop 1 xs ++ v ∷ []
set-turned [] n v is = absurd (omega arith)
set-turned {X} (x ∷ xs) n v is =
    let last : n ≡ length xs = omega arith in
    ap (λ (k : ℕ). set (xs ++ x ∷ []) k v) last ∙ set-append_seam xs x [] v
