-- What is decided: it holds, or it doesn't.
use Rattle.std.proofs.Common.{◌≡◌, ◌⊎◌, inl, inr, ℕ, Bool, true, false, List, refl}
use Rattle.std.specs.Prelude.{bytes_eq}
use Rattle.std.proofs.lemmas.Slice.Eq.{bytes_eq-Decides}

abbrev pub Decidable : Type 0 → Type 0
Decidable P = P ⊎ (P → ⊥)

pub like : (P Q : Type 0) → (P → Q) → (Q → P) → Decidable P → Decidable Q
like P Q there back (inl p) = inl (there p)
like P Q there back (inr none) = inr (λ q. none (back q))

pub both_decidable : (P Q : Type 0) → Decidable P → Decidable Q → Decidable (P × Q)
both_decidable P Q (inl p) (inl q) = inl (p, q)
both_decidable P Q (inl p) (inr q) = inr (λ pair. q pair.1)
both_decidable P Q (inr p) q = inr (λ pair. p pair.0)

pub by_bool : (b : Bool) → Decidable (b ≡ true)
by_bool true = inl refl
by_bool false = inr (λ is. let wrong : false ≡ true = is in cc)

pub same_bytes : (a b : List ℕ) → Decidable (a ≡ b)
same_bytes a b = like (bytes_eq a b ≡ true) (a ≡ b) (bytes_eq-Decides a b).0 (bytes_eq-Decides a b).1 (by_bool (bytes_eq a b))
