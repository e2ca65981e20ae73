-- What a call that judges answers, where others judged before it.
use Rattle.std.proofs.Common.{◌≡◌, ◌∙◌, ℕ, Bool, true, false, List, [], ◌∷◌, ◌++◌, None, Result, Ok, Err, eqb, refl, ap, ⊎_elim, rules}
use Rattle.std.specs.Prelude.{not, ◌&&◌, IfOk, IsTrue}
use Rattle.std.proofs.lemmas.Bool.{eq-eqb}
use Rattle.cca_vectors.specs.Checks.{Check, check, first_failing}
use Rattle.cca_vectors.specs.Classes.{class_of}
use Rattle.cca_vectors.specs.Permissions.{is_exportable}
use Rattle.cca_vectors.specs.Vectors.{length_of}
use Rattle.cca_vectors.proofs.Judging.{passed_over}
use Rattle.multi_encipher.proofs.SealLaws.{length_of-cases}
use Rattle.verb_rules.specs.Classes.{has}
use Rattle.verb_rules.specs.KeyChecks.{is_forbidden, vector_use_checks}
use Rattle.verb_rules.specs.Rules.{Judges}
use Rattle.verb_rules.specs.declared.needs.Need.{Need}
use Rattle.verb_rules.specs.declared.rules.Rule.{Rule}

-- the first checks pass, and the others are judged
pub judges_after : {A : Type 0} (xs ys : List Check) (r : Result A Rule) → first_failing xs ≡ None → Judges ys r → Judges (xs ++ ys) r
judges_after xs ys (Ok a) none says = passed_over xs ys none ∙ says
judges_after xs ys (Err r) none says = passed_over xs ys none ∙ says

-- what follows from a fact of what is granted
pub if_ok_gives : {A E : Type 0} (r : Result A E) (P Q : A → Type 0) → ((x : A) → P x → Q x) → IfOk r P → IfOk r Q
if_ok_gives (Ok x) P Q gives holds = gives x holds
if_ok_gives (Err e) P Q gives holds = tt

-- ---- double-length keys

none_of_four : (a b c d : Bool) → first_failing (check 19 a ∷ check 20 b ∷ check 21 c ∷ check 22 d ∷ []) ≡ None → d ≡ false
none_of_four true b c d h = cc
none_of_four false true c d h = cc
none_of_four false false true d h = cc
none_of_four false false false true h = cc
none_of_four false false false false h = refl

-- a key that is asked to be double length, and breaks no rule, is
pub double_passed : (need : Need) (vector : List ℕ) → first_failing (vector_use_checks need vector) ≡ None → IsTrue need.double → length_of vector ≡ 16
double_passed need vector none asked =
    ⊎_elim (λ (single : length_of vector ≡ 8).
    let double : need.double ≡ true = search rules in
    let off : (need.double && eqb (length_of vector) 8) ≡ false =
    none_of_four (not (has need.classes (class_of vector))) (is_forbidden need.usage vector) (need.export && not (is_exportable vector))
    (need.double && eqb (length_of vector) 8) none in
    let on : (need.double && eqb (length_of vector) 8) ≡ true = ap (λ d. d && eqb (length_of vector) 8) double ∙ eq-eqb (length_of vector) 8 single in
    cc)
    (λ (long : length_of vector ≡ 16). long)
    (length_of-cases vector)
