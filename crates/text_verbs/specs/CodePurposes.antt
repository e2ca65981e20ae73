-- What the code of a text is for, and what is shown of it.
use Rattle.std.specs.Prelude.{◌≡◌, ⊤, ℕ, List, [], ◌∷◌, IsTrue, None, codes, length, take}
use Rattle.std.specs.Str.{bytes_eq}
use Rattle.cca_vectors.specs.Checks.{first_failing}
use Rattle.cca_vectors.specs.Vectors.{length_of}
use Rattle.line_service.specs.Replies.{Field, Hex, Text}
use Rattle.verb_rules.specs.Keys.{HasHalves}
use Rattle.verb_rules.specs.LengthChecks.{mac_checks, text_checks}
use Rattle.verb_rules.specs.declared.judging.Judged.{Judged}
use Rattle.verb_rules.specs.declared.lengths.TextUse.TheVariants as use_of
use Rattle.verb_rules.specs.declared.lengths.MacRule.{MacRule}
use Rattle.verb_script.specs.Grammar.{accepts, mac_text}
use Rattle.verb_script.specs.declared.rows.RequestName.{RequestName}
use Rattle.verb_script.specs.declared.rows.RequestName.TheVariants.{Csnbmgn, CsnbmgnLast, Csnbmvr, CsnbmvrLast}
use Rattle.verb_script.specs.Values.{hex_value}
use Rattle.cca_machine.specs.Act.{yes_or_no}
use Rattle.cca_machine.specs.Choices.{mac_length_named}
use Rattle.text_verbs.specs.declared.codes.Purpose.{Purpose}
use Rattle.text_verbs.specs.declared.codes.Purpose.TheVariants.{Generate, Verify}

-- the digits of a code that is verified are those of one
abbrev pub IsPurpose : Purpose → Type 0
IsPurpose (Generate count) = ⊤
IsPurpose (Verify mac) = IsTrue (accepts mac_text mac.now)

-- the row of a whole text, and that of the last segment of one
abbrev pub whole_code_row : Purpose → RequestName
whole_code_row (Generate count) = Csnbmgn
whole_code_row (Verify mac) = Csnbmvr

abbrev pub last_code_row : Purpose → RequestName
last_code_row (Generate count) = CsnbmgnLast
last_code_row (Verify mac) = CsnbmvrLast

-- what the row's field says of it
abbrev pub purpose_text : Purpose → List ℕ
purpose_text (Generate count) = count.now
purpose_text (Verify mac) = mac.now

-- the leftmost bytes of the code, or whether it begins with these
abbrev pub code_fields : Purpose → List ℕ → List Field
code_fields (Generate count) code =
    Hex (codes "mac") (take (mac_length_named count.now) code) ∷ []
code_fields (Verify mac) code =
    Text (codes "match") (yes_or_no
    (bytes_eq (hex_value mac.now) (take (length (hex_value mac.now)) code))) ∷ []

-- a text of this many bytes has a code by the rule under the key, which has its halves
pub record IsCoded (method : MacRule) (judged : Judged) (size : ℕ) : Type 0 where
  pub halves : HasHalves judged
  pub text : first_failing (text_checks use_of.Mac size) ≡ None
  pub key : first_failing (mac_checks method (length_of judged.token.vector)) ≡ None
