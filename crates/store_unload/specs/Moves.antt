-- A store that is moved to another module: what is judged, which labels are moved, and the request file and the report of
-- it.
use Rattle.std.specs.Prelude.{ℕ, bit_or, true, List, [], ◌∷◌, ◌++◌, codes, map, Option, Some, None, if◌then◌else◌}
use Rattle.std.specs.List.{concat, flat_map}
use Rattle.std.specs.Option.{option_map}
use Rattle.std.specs.Str.{bytes_eq}
use Rattle.hex.specs.Hex.{encode_lower}
use Rattle.cca_vectors.specs.Checks.{Check, first_failing}
use Rattle.key_tokens.specs.Denotes.{ClearKey}
use Rattle.key_transport.specs.Tokens.{external_token}
use Rattle.record_bodies.specs.Entries.{directory}
use Rattle.line_service.specs.Lines.{newline}
use Rattle.line_service.specs.Replies.{two_digits}
use Rattle.cca_roles.specs.Roles.{points_of}
use Rattle.store_move.specs.Exports.{export_checks, exporter}
use Rattle.verb_rules.specs.KeyChecks.{use_checks}
use Rattle.cca_machine.specs.Keys.{key_of_label, or_no_key}
use Rattle.cca_machine.specs.Listing.{ascending}
use Rattle.cca_machine.specs.Points.{point}
use Rattle.cca_machine.specs.State.{State}
use Rattle.cca_machine.specs.Verdict.{checks_of_role, record_checks}
use Rattle.command_words.specs.declared.moves.Move.{Move}

-- the clear key of a label that holds one
abbrev pub clear_of : State → List ℕ → ClearKey
clear_of s label = (or_no_key (key_of_label s label)).clear

-- ---- what is judged before

-- rules 03 and 04 of the role, which needs the points of CSNBKEX and CSNBKRL, and rule 05
abbrev pub role_checks : State → List ℕ → List Check
role_checks s role =
    checks_of_role s (points_of role s.roles) (bit_or (point (codes "KEX")) (point (codes "KRL"))) true

-- and rules 06 to 08, 17 and 19 to 22 of the label whose key is the transport key
abbrev pub move_checks : State → Move → List Check
move_checks s w =
    role_checks s w.role ++ record_checks s w.transport ++ use_checks exporter (clear_of s w.transport).vector

-- ---- a label

-- Why a label isn't moved: it is named as the transport key's there, or its key may not be exported, by this rule. None
-- where it is moved.
abbrev pub reason : State → Move → List ℕ → Option (List ℕ)
reason s w label =
    if bytes_eq label w.transport_there then Some (codes "target")
    else option_map two_digits (first_failing (export_checks (key_of_label s label)))

-- the external token of its key under the transport key
abbrev pub token_of_label : State → Move → List ℕ → List ℕ
token_of_label s w label = external_token (clear_of s w.transport).key (clear_of s label)

abbrev pub create_line : Move → List ℕ → List ℕ
create_line w label = codes "CSNBKRC role=" ++ w.role_there ++ codes " label=" ++ label

abbrev pub import_line : Move → List ℕ → List ℕ → List ℕ
import_line w token label =
    codes "CSNBKIM role=" ++ w.role_there ++ codes " token=" ++ encode_lower token
    ++ codes " transport=L:" ++ w.transport_there ++ codes " to=L:" ++ label

abbrev pub requests_by : Option (List ℕ) → State → Move → List ℕ → List (List ℕ)
requests_by (Some why) s w label = []
requests_by None s w label =
    create_line w label ∷ import_line w (token_of_label s w label) label ∷ []

-- the requests that move it: its record is created, and its key imported; none where it isn't moved
abbrev pub requests_for : State → Move → List ℕ → List (List ℕ)
requests_for s w label = requests_by (reason s w label) s w label

abbrev pub remarks_by : Option (List ℕ) → List ℕ → List (List ℕ)
remarks_by None label = []
remarks_by (Some why) label = (codes "kept " ++ label ++ codes " " ++ why) ∷ []

-- what the report says of it: nothing where it is moved
abbrev pub remarks_on : State → Move → List ℕ → List (List ℕ)
remarks_on s w label = remarks_by (reason s w label) label

-- ---- all labels, in ascending order

abbrev pub labels_of : State → List (List ℕ)
labels_of s = ascending (directory s.labels)

-- the requests of the file
abbrev pub moving_requests : State → Move → List (List ℕ)
moving_requests s w = flat_map (requests_for s w) (labels_of s)

-- lines as bytes, each with a newline
abbrev pub with_newlines : List (List ℕ) → List ℕ
with_newlines lines = flat_map (λ line. line ++ newline ∷ []) lines

-- what each label adds to the file, and to the report
abbrev pub file_parts : State → Move → List (List ℕ)
file_parts s w = map (λ label. with_newlines (requests_for s w label)) (labels_of s)

abbrev pub report_parts : State → Move → List (List ℕ)
report_parts s w = map (λ label. with_newlines (remarks_on s w label)) (labels_of s)

-- the request file, and the report
abbrev pub move_file : State → Move → List ℕ
move_file s w = concat (file_parts s w)

abbrev pub move_report : State → Move → List ℕ
move_report s w = concat (report_parts s w)
