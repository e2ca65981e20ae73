-- The reply to CSNBKTP.
use Rattle.std.proofs.Common.{◌≡◌, ℕ, ◌≤◌, ◌++◌, ◌-◌, List, [], length, ap, ◌∙◌, arith}
use Rattle.std.specs.Prelude.{decimal}
use Rattle.std.proofs.lemmas.List.{append_assoc, append-nil}
use Rattle.std.proofs.lemmas.Fmt.{length-decimal-le_succ}

in_order : (ok a b d e f : List ℕ) → ((((([] ++ ok) ++ a) ++ b) ++ d) ++ e) ++ f ≡ ok ++ (a ++ (b ++ (d ++ (e ++ (f ++ [])))))
in_order ok a b d e f = simp (append-nil, append_assoc)

pub decimal_size : (n : ℕ) → n ≤ 16 → length (decimal n) ≤ 17
decimal_size n small = omega (arith, length-decimal-le_succ n (omega arith))

-- a reply that is written by five fields, one after the other
pub five_fields : (ok a b d e f empty start one two three four five : List ℕ) → empty ≡ [] → start ≡ empty ++ ok
    → one ≡ start ++ a → two ≡ one ++ b → three ≡ two ++ d → four ≡ three ++ e → five ≡ four ++ f
    → five ≡ ok ++ (a ++ (b ++ (d ++ (e ++ (f ++ [])))))
five_fields ok a b d e f empty start one two three four five is starts first second third fourth fifth =
    fifth ∙ ap (λ xs. xs ++ f) (fourth ∙ ap (λ xs. xs ++ e) (third ∙ ap (λ xs. xs ++ d) (second ∙ ap (λ xs. xs ++ b)
    (first ∙ ap (λ xs. xs ++ a) (starts ∙ ap (λ xs. xs ++ ok) is)))))
    ∙ in_order ok a b d e f
