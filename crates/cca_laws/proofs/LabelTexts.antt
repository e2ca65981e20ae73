-- A label may stand where the grammar wants one.
use Rattle.std.proofs.Common.{◌≡◌, ℕ, ◌==◌, true, List, [], ◌∷◌, length, refl, ap, ◌∙◌, arith, suc}
use Rattle.std.specs.Prelude.{nat_le, not, ◌&&◌}
use Rattle.std.specs.List.{list_all}
use Rattle.std.proofs.lemmas.Bool.{and_parts, ne_eqb}
use Rattle.std.proofs.lemmas.Bool.Decides.{nat_tests}
use Rattle.cca_roles.specs.Characters.{is_label_byte}
use Rattle.cca_roles.specs.Names.{IsLabel, is_label, starts_label}
use Rattle.verb_script.specs.Named.{is_label_text, is_visible}

seen_byte : (c : ℕ) → is_label_byte c ≡ true → is_visible c ≡ true
seen_byte c is = grind (arith, nat_tests)

all_seen : (xs : List ℕ) → list_all is_label_byte xs ≡ true → list_all is_visible xs ≡ true
all_seen [] are = refl
all_seen (x ∷ xs) are =
    let both = and_parts (is_label_byte x) (list_all is_label_byte xs) are in
    ap (λ b. b && list_all is_visible xs) (seen_byte x both.0) ∙ all_seen xs both.1

not_empty : (xs : List ℕ) → starts_label xs ≡ true → not (length xs == 0) ≡ true
not_empty [] is = cc is
not_empty (x ∷ xs) is = ap not (ne_eqb (suc (length xs)) 0 (omega arith))

-- a label may stand where one is wanted
pub label_may : (label : List ℕ) → IsLabel label → is_label_text label ≡ true
unfolding is_label
label_may label is =
    let both = and_parts (starts_label label && nat_le (length label) 64) (list_all is_label_byte label) is in
    let front = and_parts (starts_label label) (nat_le (length label) 64) both.0 in
    ap (λ b. b && list_all is_visible label) (not_empty label front.0) ∙ all_seen label both.1
