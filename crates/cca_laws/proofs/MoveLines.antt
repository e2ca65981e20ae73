-- The lines of a request file that moves a store are its requests: no byte of a request is a newline.
use Rattle.std.proofs.Common.{◌≡◌, ℕ, List, [], ◌∷◌, ◌++◌, length, map, Option, None, Some, T, refl, subst, ap, ◌∙◌, append_assoc, codes}
use Rattle.std.specs.Prelude.{nat_le, ◌&&◌}
use Rattle.std.specs.List.{concat, flat_map, list_all}
use Rattle.hex.specs.Hex.{encode_lower}
use Rattle.cca_roles.specs.Names.{IsRoleName, is_name_byte, is_role_name, starts_name}
use Rattle.record_bodies.specs.Entries.{directory}
use Rattle.line_service.specs.Lines.{lines, newline}
use Rattle.line_service.proofs.CutLines.{lines-nil, lines-whole}
use Rattle.cca_machine.specs.State.{State}
use Rattle.store_unload.specs.Moves.{create_line, import_line, labels_of, move_file, moving_requests, reason, requests_by, requests_for, token_of_label, with_newlines}
use Rattle.command_words.specs.declared.moves.Move.{Move}
use Rattle.cca_laws.specs.Moving.{IsPermittedMove}
use Rattle.cca_laws.proofs.CleanLaws.{append_clean, both, byte_clean, clean_is, first_of_both, hex_clean, is_clean, is_clean_byte, second_of_both, truth}
use Rattle.cca_laws.proofs.ReplyLaws.{all_clean, ascending_clean, label_clean, store_labels}

-- ---- the requests

name_byte_clean : (c : ℕ) → T (is_name_byte c) → T (is_clean_byte c)
name_byte_clean c may = byte_clean c (λ is. subst (λ x. T (is_name_byte x)) is may)

role_clean : (name : List ℕ) → IsRoleName name → T (is_clean name)
unfolding is_role_name
role_clean name is =
    all_clean is_name_byte name_byte_clean name
    (second_of_both (starts_name name && nat_le (length name) 8) (list_all is_name_byte name) (truth (is_role_name name) is))

module _ (w : Move) (role : T (is_clean w.role_there)) (transport : T (is_clean w.transport_there)) (label : List ℕ) (clean : T (is_clean label)) where
  create_clean : T (is_clean (create_line w label))
  create_clean =
      append_clean (codes "CSNBKRC role=" ++ w.role_there ++ codes " label=") label
      (append_clean (codes "CSNBKRC role=" ++ w.role_there) (codes " label=") (append_clean (codes "CSNBKRC role=") w.role_there tt role) tt) clean

  abbrev import_front : List ℕ → List ℕ
  import_front token = codes "CSNBKIM role=" ++ w.role_there ++ codes " token=" ++ encode_lower token

  front_clean : (token : List ℕ) → T (is_clean (import_front token))
  front_clean token =
      append_clean (codes "CSNBKIM role=" ++ w.role_there ++ codes " token=") (encode_lower token)
      (append_clean (codes "CSNBKIM role=" ++ w.role_there) (codes " token=") (append_clean (codes "CSNBKIM role=") w.role_there tt role) tt)
      (hex_clean token)

  import_clean : (token : List ℕ) → T (is_clean (import_line w token label))
  import_clean token =
      append_clean (import_front token ++ codes " transport=L:" ++ w.transport_there ++ codes " to=L:") label
      (append_clean (import_front token ++ codes " transport=L:" ++ w.transport_there) (codes " to=L:")
      (append_clean (import_front token ++ codes " transport=L:") w.transport_there
      (append_clean (import_front token) (codes " transport=L:") (front_clean token) tt) transport) tt)
      clean

  requests_clean : (s : State) (why : Option (List ℕ)) → T (list_all is_clean (requests_by why s w label))
  requests_clean s (Some rule) = tt
  requests_clean s None =
      let token : List ℕ = token_of_label s w label in
      both (is_clean (create_line w label)) (list_all is_clean (import_line w token label ∷ [])) create_clean
      (both (is_clean (import_line w token label)) (list_all is_clean []) (import_clean token) tt)

-- ---- the file

-- lines with their newlines, and what follows them
lines_with : (rows : List (List ℕ)) (rest : List ℕ) → T (list_all is_clean rows) → lines (with_newlines rows ++ rest) ≡ rows ++ lines rest
lines_with [] rest clean = refl
lines_with (row ∷ rows) rest clean =
    ap lines (append_assoc (row ++ newline ∷ []) (with_newlines rows) rest ∙ append_assoc row (newline ∷ []) (with_newlines rows ++ rest))
    ∙ (lines-whole row (with_newlines rows ++ rest) (clean_is row (first_of_both (is_clean row) (list_all is_clean rows) clean))
    ∙ ap (λ (ls : List (List ℕ)). row ∷ ls) (lines_with rows rest (second_of_both (is_clean row) (list_all is_clean rows) clean)))

lines_of_parts : (f : List ℕ → List (List ℕ)) → ((label : List ℕ) → T (is_clean label) → T (list_all is_clean (f label)))
    → (labels : List (List ℕ)) → T (list_all is_clean labels) → lines (concat (map (λ label. with_newlines (f label)) labels)) ≡ flat_map f labels
lines_of_parts f each [] clean = lines-nil
lines_of_parts f each (label ∷ labels) clean =
    lines_with (f label) (concat (map (λ l. with_newlines (f l)) labels)) (each label (first_of_both (is_clean label) (list_all is_clean labels) clean))
    ∙ ap (λ (ls : List (List ℕ)). f label ++ ls) (lines_of_parts f each labels (second_of_both (is_clean label) (list_all is_clean labels) clean))

-- the lines of the file are the requests
pub lines_are : (s : State) (w : Move) → IsPermittedMove s w → lines (move_file s w) ≡ moving_requests s w
lines_are s w p =
    lines_of_parts (requests_for s w)
    (λ label clean. requests_clean w (role_clean w.role_there p.role) (label_clean w.transport_there p.transport) label clean s (reason s w label))
    (labels_of s) (ascending_clean (directory s.labels) (store_labels s p.store_here p.stands.store))
