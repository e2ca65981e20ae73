-- Replies of no field and of one, as they are written.
use Rattle.std.proofs.Common.{◌≡◌, ℕ, List, [], ◌∷◌, ◌++◌, sym, ap, ◌∙◌}
use Rattle.std.proofs.lemmas.List.{append-nil}
use Rattle.line_service.specs.Replies.{Hex, Text, Number, written, ok_text, hex_field, text_field, number_field}

append_nothing : (ok field : List ℕ) → (([] ++ ok) ++ field) ≡ ok ++ (field ++ [])
append_nothing ok field = simp append-nil

pub one_text : (name bytes a b d : List ℕ) → a ≡ [] → b ≡ a ++ ok_text → d ≡ b ++ text_field name bytes → d ≡ written (Text name bytes ∷ [])
one_text name bytes a b d start ok field =
    field ∙ ap (λ xs. xs ++ text_field name bytes) (ok ∙ ap (λ xs. xs ++ ok_text) start) ∙ append_nothing ok_text (text_field name bytes)

pub one_hex : (name bytes a b d : List ℕ) → a ≡ [] → b ≡ a ++ ok_text → d ≡ b ++ hex_field name bytes → d ≡ written (Hex name bytes ∷ [])
one_hex name bytes a b d start ok field =
    field ∙ ap (λ xs. xs ++ hex_field name bytes) (ok ∙ ap (λ xs. xs ++ ok_text) start) ∙ append_nothing ok_text (hex_field name bytes)

pub one_number : (name : List ℕ) (value : ℕ) (a b d : List ℕ) → a ≡ [] → b ≡ a ++ ok_text → d ≡ b ++ number_field name value
    → d ≡ written (Number name value ∷ [])
one_number name value a b d start ok field =
    field ∙ ap (λ xs. xs ++ number_field name value) (ok ∙ ap (λ xs. xs ++ ok_text) start) ∙ append_nothing ok_text (number_field name value)

pub no_fields : (a b : List ℕ) → a ≡ [] → b ≡ a ++ ok_text → b ≡ written []
no_fields a b start ok = ok ∙ (ap (λ xs. xs ++ ok_text) start ∙ sym (append-nil ok_text))
