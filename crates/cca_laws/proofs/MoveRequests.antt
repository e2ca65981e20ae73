-- The lines of a moved label spell their requests.
use Rattle.std.proofs.Common.{◌≡◌, ℕ, ◌≤◌, ◌==◌, true, List, [], ◌∷◌, ◌++◌, length, Some, refl, sym, ap, ◌∙◌, codes, arith, append_assoc, length-append}
use Rattle.std.specs.Prelude.{◌&&◌}
use Rattle.std.specs.List.{list_all}
use Rattle.std.proofs.lemmas.List.{append-nil}
use Rattle.std.proofs.lemmas.List.Sums.{list_all-from_AllPass}
use Rattle.hex.specs.Hex.{IsBytes, encode_lower, is_hex_digit, lower_digits}
use Rattle.hex.proofs.HexLemmas.{decode_of-encode_lower, decode_of-ok, length-encode_with}
use Rattle.cca_roles.specs.NameLaws.{label_short, role_short}
use Rattle.cca_roles.specs.Names.{IsLabel, IsRoleName, is_label}
use Rattle.line_service.specs.Reading.{line_limit}
use Rattle.verb_script.specs.Grammar.{Request, Spells}
use Rattle.verb_script.specs.declared.rows.RequestName.TheVariants.{Csnbkim, Csnbkrc}
use Rattle.verb_script.specs.Requests.{request_of}
use Rattle.verb_script.specs.Values.{is_hex}
use Rattle.verb_script.proofs.GrammarLaws.{request_of-complete}
use Rattle.cca_laws.proofs.LabelTexts.{label_may}
use Rattle.store_unload.specs.Moves.{create_line, import_line}
use Rattle.command_words.specs.declared.moves.Move.{Move}
use Rattle.cca_laws.specs.KeyInParts.{by_label}

-- ---- the requests

-- CSNBKRC of a label
abbrev pub create_request : Move → List ℕ → Request
create_request w label = record { name = Csnbkrc; values = w.role_there ∷ label ∷ [] }

-- CSNBKIM of a token into the record of a label
abbrev pub import_request : Move → List ℕ → List ℕ → Request
import_request w token label = record {
  name = Csnbkim;
  values = w.role_there ∷ encode_lower token ∷ by_label w.transport_there ∷ by_label label ∷ [];
}

-- ---- their words

-- 64 bytes as 128 digits
digits_may : (bytes : List ℕ) → length bytes ≡ 64 → IsBytes bytes → is_hex 128 (encode_lower bytes) ≡ true
digits_may bytes long are =
    let size : length (encode_lower bytes) ≡ 128 = omega (arith, length-encode_with lower_digits bytes) in
    let each = (decode_of-ok (encode_lower bytes) bytes (decode_of-encode_lower bytes are)).1 in
    ap (λ n. (n == 128) && list_all is_hex_digit (encode_lower bytes)) size ∙ list_all-from_AllPass is_hex_digit (encode_lower bytes) each

-- ---- pieces, one behind another

four : (a b c d : List ℕ) → ((a ++ b) ++ c) ++ d ≡ a ++ (b ++ (c ++ d))
four a b c d = simp append_assoc

eight : (a b c d e f g h : List ℕ) → ((((((a ++ b) ++ c) ++ d) ++ e) ++ f) ++ g) ++ h ≡ a ++ (b ++ (c ++ (d ++ (e ++ (f ++ (g ++ h))))))
eight a b c d e f g h = simp append_assoc

-- ---- what the lines spell

module _ (w : Move) (role : IsRoleName w.role_there) (transport : IsLabel w.transport_there) (label : List ℕ) (is_label : IsLabel label) where
  create_spells : Spells (create_request w label) (create_line w label)
  create_spells = record {
    texts = w.role_there ∷ label ∷ [];
    text = four (codes "CSNBKRC role=") w.role_there (codes " label=") label
        ∙ ap (λ (end : List ℕ). codes "CSNBKRC role=" ++ (w.role_there ++ (codes " label=" ++ end))) (sym (append-nil label));
    accepted = (role, (label_may label is_label, tt));
    values = refl;
  }

  pub create_line_is : request_of (create_line w label) ≡ Some (create_request w label)
  create_line_is = request_of-complete (create_line w label) (create_request w label) create_spells

  pub create_line_short : length (create_line w label) ≤ line_limit
  create_line_short = simp length-append (omega (arith, role_short w.role_there role, label_short label is_label))

  module _ (token : List ℕ) (long : length token ≡ 64) (are : IsBytes token) where
    import_spells : Spells (import_request w token label) (import_line w token label)
    import_spells = record {
      texts = w.role_there ∷ encode_lower token ∷ by_label w.transport_there ∷ by_label label ∷ [];
      text =
          eight (codes "CSNBKIM role=") w.role_there (codes " token=") (encode_lower token) (codes " transport=L:") w.transport_there (codes " to=L:") label
          ∙ ap (λ (end : List ℕ).
          codes "CSNBKIM role=" ++ (w.role_there ++ (codes " token=" ++ (encode_lower token ++ (codes " transport=L:" ++ (w.transport_there ++ (codes " to=L:" ++ end)))))))
          (sym (append-nil label));
      accepted = (role, (digits_may token long are, (label_may w.transport_there transport, (label_may label is_label, tt))));
      values = refl;
    }

    pub import_line_is : request_of (import_line w token label) ≡ Some (import_request w token label)
    import_line_is = request_of-complete (import_line w token label) (import_request w token label) import_spells

    pub import_line_short : length (import_line w token label) ≤ line_limit
    import_line_short =
        simp (length-append, length-encode_with) (omega (
          arith,
          long,
          role_short w.role_there role,
          label_short w.transport_there transport,
          label_short label is_label,
        ))
