-- A list of one text, and the test of that text.
use Rattle.std.proofs.Common.{◌≡◌, ℕ, ◌<◌, ◌≤◌, Bool, List, [], ◌∷◌, length, get_or, map, sym, ap, ◌∙◌, arith}
use Rattle.std.specs.Prelude.{IsTrue, ◌↔◌}
use Rattle.std.specs.Str.{bytes_eq}
use Rattle.std.proofs.lemmas.Slice.Eq.{bytes_eq-Decides}

pub one_element : {A : Type 0} (xs : List A) (x : A) → 1 ≤ length xs → length xs < 2 → x ≡ get_or xs 0 x → xs ≡ x ∷ []
one_element [] x some below here = absurd (omega arith)
one_element (y ∷ []) x some below here = ap (λ z. z ∷ []) (sym here)
one_element (y ∷ z ∷ zs) x some below here = absurd (omega arith)

first_of : {A : Type 0} (x y : A) → x ∷ [] ≡ y ∷ [] → x ≡ y
first_of x y same = cc

-- one text is `word` where its bytes are
pub is_the_word : {A : Type 0} (text_of : A → List ℕ) (xs : List A) (x : A) (texts : List (List ℕ)) (text word : List ℕ) (r : Bool)
    → map text_of xs ≡ texts → xs ≡ x ∷ [] → text ≡ text_of x → r ≡ bytes_eq text word
    → (IsTrue r ↔ (texts ≡ word ∷ []))
is_the_word text_of xs x texts text word r shown one bytes tested =
    let texts_are : texts ≡ text ∷ [] = sym shown ∙ (ap (map text_of) one ∙ ap (λ b. b ∷ []) (sym bytes)) in
    let decides = bytes_eq-Decides text word in (
      λ yes. texts_are ∙ ap (λ b. b ∷ []) (decides.0 (sym tested ∙ yes)),
      λ same. tested ∙ decides.1 (first_of text word (sym texts_are ∙ same)),
    )
