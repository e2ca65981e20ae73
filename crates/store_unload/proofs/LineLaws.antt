-- The bytes of a request, as the parts that were put one behind the other.
use Rattle.std.proofs.Common.{◌≡◌, ◌∙◌, ℕ, List, [], ◌∷◌, ◌++◌, ap, append_assoc, codes, sym}
use Rattle.hex.specs.Hex.{encode_lower}
use Rattle.line_service.specs.Lines.{newline}
use Rattle.line_service.specs.Replies.{field_name, hex_field}
use Rattle.store_unload.specs.Moves.{import_line}
use Rattle.command_words.specs.declared.moves.Move.{Move}

pub import_is : (w : Move) (token label l1 l2 l3 l4 l5 l6 l7 : List ℕ) → l1 ≡ codes "CSNBKIM role=" ++ w.role_there
    → l2 ≡ l1 ++ hex_field (codes "token") token → l3 ≡ l2 ++ codes " transport=L:" → l4 ≡ l3 ++ w.transport_there
    → l5 ≡ l4 ++ codes " to=L:" → l6 ≡ l5 ++ label → l7 ≡ l6 ++ newline ∷ [] → l7 ≡ import_line w token label ++ newline ∷ []
unfolding field_name hex_field
import_is w token label l1 l2 l3 l4 l5 l6 l7 e1 e2 e3 e4 e5 e6 e7 =
    let role = codes "CSNBKIM role=" ++ w.role_there in
    let s2 : l2 ≡ (role ++ codes " token=") ++ encode_lower token =
    e2 ∙ (ap (λ x. x ++ hex_field (codes "token") token) e1 ∙ sym (append_assoc role (codes " token=") (encode_lower token))) in
    e7 ∙ ap (λ x. x ++ newline ∷ []) (e6 ∙ ap (λ x. x ++ label) (e5 ∙ ap (λ x. x ++ codes " to=L:") (e4 ∙ ap (λ x. x ++ w.transport_there)
    (e3 ∙ ap (λ x. x ++ codes " transport=L:") s2))))
