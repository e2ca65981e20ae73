-- What a request does where no rule refuses it, and what comes of it.
use Rattle.std.specs.Int.{from_be_bytes, w32}
use Rattle.std.specs.Prelude.{ℕ, Bool, true, false, ◌+◌, ◌==◌, ◌++◌, take, length, List, [], ◌∷◌, codes, Option, Some, None, if◌then◌else◌}
use Rattle.cca_vectors.specs.declared.key_class.Class.{Class}
use Rattle.cca_vectors.specs.declared.key_class.Class.TheVariants.{Data, Cipher, Mac, Exporter, Importer, Other}
use Rattle.cca_vectors.specs.Vectors.{length_of, left_of}
use Rattle.cca_vectors.specs.Classes.{class_of}
use Rattle.key_tokens.specs.declared.key_token.Kind.{Kind}
use Rattle.key_tokens.specs.declared.key_token.Kind.TheVariants.{Internal, External}
use Rattle.key_tokens.specs.declared.key_token.Token.{Token}
use Rattle.key_tokens.specs.Fields.{token_of}
use Rattle.line_service.specs.Replies.{Reply, Refused, Done, Field, Hex, Text, Number}
use Rattle.master_registers.specs.Masters.{NewRegister, Empty, Partial, Full, Masters}
use Rattle.record_bodies.specs.LabelChanges.{created, written, deleted}
use Rattle.record_bodies.specs.Directory.{free_cell}
use Rattle.record_bodies.specs.Entries.{Entry, directory}
use Rattle.record_bodies.specs.Turning.{aged}
use Rattle.key_tokens.specs.Denotes.{ClearKey, Denoted}
use Rattle.cca_vectors.specs.declared.key_type.KeyType.{KeyType}
use Rattle.key_parts.specs.Parts.{first_key, combined_key}
use Rattle.key_transport.specs.Generated.{generated_key}
use Rattle.key_transport.specs.Tokens.{as_current, closed_key, changed_token, external_token}
use Rattle.verb_script.specs.Named.{label_named}
use Rattle.verb_script.specs.Grammar.{Request, value_of}
use Rattle.verb_script.specs.declared.rows.RequestName.{RequestName}
use Rattle.verb_script.specs.declared.rows.RequestName.TheVariants.{Csnbktp, Csnbenc, CsnbencFirst, CsnbencMiddle, CsnbencLast, Csnbdec, CsnbdecFirst, CsnbdecMiddle, CsnbdecLast, Csnbmgn, CsnbmgnFirst, CsnbmgnMiddle, CsnbmgnLast, Csnbmvr, CsnbmvrFirst, CsnbmvrMiddle, CsnbmvrLast, Csnbkyt, Csnbcki, Csnbrng, CsnbkgnOp, CsnbkgnPair, CsnbkgnOut, Csnbkim, Csnbkex, Csnbpex, Csnbktc, CsnbkpiFirst, CsnbkpiMiddle, Csnbktr, Csnbkrc, Csnbkrw, Csnbkrr, Csnbkrd, Csnbkrl, CsnbmkpPart, CsnbmkpClear, CsnbmkpSet, CsuaaciDefine, CsuaaciRemove, Reencipher, ReencipherAhead, ReencipherDrop}
use Rattle.cca_roles.specs.Roles.{define_place, after_define, remove_place, after_remove}
use Rattle.record_bodies.specs.Further.{further, changed_count}
use Rattle.record_bodies.specs.declared.actions.StoreAction.{StoreAction}
use Rattle.record_bodies.specs.declared.actions.StoreAction.TheVariants.{Renew, Ahead, Drop}
use Rattle.cca_machine.specs.State.{State}
use Rattle.cca_machine.specs.Actions.{part_action}
use Rattle.master_registers.specs.Actions.{after_action}
use Rattle.master_registers.specs.declared.actions.Action.TheVariants.{Clear, Set}
use Rattle.cca_machine.specs.Choices.{pad_named, mac_rule_named, mac_length_named, form_named, type_in, target_named, is_last_part}
use Rattle.cca_machine.specs.Draws.{length_in}
use Rattle.cca_machine.specs.Keys.{key_in_field, imported, key_of_request, key_of_token, key_of_label, cell_with, or_no_key, any_old, warning}
use Rattle.cca_machine.specs.Listing.{label_fields}
use Rattle.cca_machine.specs.Operands.{operands, listed}
use Rattle.cca_machine.specs.Verdict.{Refusal, bytes_in, chain_in, code_rule, part_in, verdict}
use Rattle.cipher_verbs.specs.CipherTexts.{enciphered_text, deciphered_text, test_value}
use Rattle.cipher_verbs.specs.Imported.{imported_key}
use Rattle.cipher_verbs.specs.RandomBytes.{in_form}
use Rattle.mac_verbs.specs.Codes.{code_of, is_code}
use Rattle.verb_rules.specs.Keys.{keys_of, token_for}
use Rattle.verb_rules.specs.declared.lengths.MacRule.{MacRule}
use Rattle.cipher_verbs.specs.declared.padding.Pad.{Pad}
use Rattle.des_blocks.specs.Modes.{zero_block}
use Rattle.text_segments.specs.Chains.{chain_bytes, first_chain}
use Rattle.text_segments.specs.Segments.{chain_after, last_code, last_text, segment_text}
use Rattle.text_segments.specs.declared.chains.Chain.{Chain}
use Rattle.text_segments.specs.declared.modes.Mode.{Mode}
use Rattle.text_segments.specs.declared.modes.Mode.TheVariants as mode
use Rattle.std.specs.Str.{bytes_eq}

-- what a permitted request does
pub data Effect : Type 0 where
  -- a reply alone
  Show : List Field → Effect
  -- the registers and the labels become these
  Become : Masters → List (Option Entry) → Effect
  -- the role of this name has these access control points
  DefineRole : List ℕ → ℕ → Effect
  -- the role of this name is no longer held
  RemoveRole : List ℕ → Effect
  -- this label is held, with nothing in its record
  Create : List ℕ → Effect
  -- the record of this label has this key, whatever it had; the reply has these fields
  Write : List ℕ → Denoted → List Field → Effect
  -- the label is no longer held
  Delete : List ℕ → Effect
  -- every label is what the action makes of it
  ChangeLabels : StoreAction → Effect

-- ---- the reply to CSNBKTP

abbrev pub kind_name : Kind → List ℕ
kind_name Internal = codes "internal"
kind_name External = codes "external"

abbrev pub class_name : Class → List ℕ
class_name Data = codes "DATA"
class_name Cipher = codes "CIPHER"
class_name Mac = codes "MAC"
class_name Exporter = codes "EXPORTER"
class_name Importer = codes "IMPORTER"
class_name Other = codes "OTHER"

-- the control vector as it is shown: the left half, and the right half where the key has one
abbrev pub shown_vector : List ℕ → List ℕ
shown_vector vector = if length_of vector == 8 then left_of vector else vector

-- kind, class, length, control vector and master key pattern of a key token
abbrev pub token_fields : Token → List Field
token_fields token =
    Text (codes "kind") (kind_name token.kind)
    ∷ Text (codes "class") (class_name (class_of token.vector))
    ∷ Number (codes "length") (length_of token.vector)
    ∷ Hex (codes "vector") (shown_vector token.vector)
    ∷ Hex (codes "pattern") token.pattern
    ∷ []

-- ---- what each request does

-- ---- replies over clear keys

abbrev pub or_empty : Option (List ℕ) → List ℕ
or_empty None = []
or_empty (Some bytes) = bytes

abbrev pub yes_or_no : Bool → List ℕ
yes_or_no true = codes "yes"
yes_or_no false = codes "no"

-- the access control points in a request's field `points`
abbrev pub points_in : Request → ℕ
points_in request = from_be_bytes w32 (value_of request (codes "points"))

-- a key goes into the record of a label; or into the reply, as a token in a field of this name. Further fields follow.
abbrev pub delivered_with : State → List ℕ → Option (List ℕ) → Denoted → List Field → Effect
delivered_with s field None key fields =
    Show (Hex field (token_for (keys_of s.registers) key) ∷ fields)
delivered_with s field (Some label) key fields =
    Write label key (Text (codes "stored") label ∷ fields)

abbrev pub delivered : State → List ℕ → Option (List ℕ) → Denoted → Effect
delivered s field to key = delivered_with s field to key []

-- the types of a request's two generated keys
abbrev pub type1_of : Request → KeyType
type1_of r = type_in (value_of r (codes "type1"))

abbrev pub type2_of : Request → KeyType
type2_of r = type_in (value_of r (codes "type2"))

-- the external token of a key under the transport key of a field
abbrev pub token_out : State → Request → List ℕ → ClearKey → List ℕ
token_out s r field clear = external_token (key_in_field s r field).key clear

-- ---- texts in segments

-- the text that a segment gives, and the chain after it
abbrev pub segment_fields : ClearKey → Mode → Chain → List ℕ → List Field
segment_fields clear mode chain text =
    Hex (codes "text") (segment_text clear mode chain text)
    ∷ Hex (codes "chain") (chain_bytes (chain_after clear mode chain text)) ∷ []

-- of a code a segment gives the chain alone
abbrev pub code_segment_fields : ClearKey → MacRule → Chain → List ℕ → List Field
code_segment_fields clear rule chain text =
    Hex (codes "chain") (chain_bytes (chain_after clear (mode.Mac rule) chain text)) ∷ []

-- the text that the last segment gives
abbrev pub last_text_fields : ClearKey → Mode → Chain → Pad → List ℕ → List Field
last_text_fields clear mode chain padding text =
    Hex (codes "text") (or_empty (last_text clear mode chain padding text)) ∷ []

-- the leftmost bytes, so many, of the code after the last segment
abbrev pub last_code_fields : ClearKey → MacRule → Chain → ℕ → List ℕ → List Field
last_code_fields clear rule chain count text =
    Hex (codes "mac") (take count (last_code clear rule chain text)) ∷ []

-- whether the bytes are the leftmost so many of that code
abbrev pub last_match_fields : ClearKey → MacRule → Chain → List ℕ → List ℕ → List Field
last_match_fields clear rule chain mac text =
    Text (codes "match") (yes_or_no
    (bytes_eq mac (take (length mac) (last_code clear rule chain text)))) ∷ []

-- what a segment of a request shows, by what it goes on from
abbrev pub shown_segment : State → Mode → Chain → Request → Effect
shown_segment s mode chain r =
    Show (segment_fields (key_of_request s r) mode chain (bytes_in r (codes "text")))

abbrev pub shown_last : State → Mode → Request → Effect
shown_last s mode r =
    Show (last_text_fields (key_of_request s r) mode (chain_in r)
    (pad_named (value_of r (codes "pad"))) (bytes_in r (codes "text")))

abbrev pub shown_code_segment : State → Chain → Request → Effect
shown_code_segment s chain r =
    Show (code_segment_fields (key_of_request s r) (code_rule r) chain (bytes_in r (codes "text")))

-- ---- with the random bytes that are drawn for it

abbrev pub effect : State → List ℕ → RequestName → Request → Effect
effect s drawn Csnbktp r = Show (token_fields (token_of (bytes_in r (codes "token"))))
effect s drawn Csnbenc r =
    Show (Hex (codes "text")
    (enciphered_text (key_of_request s r) (bytes_in r (codes "iv"))
    (pad_named (value_of r (codes "pad"))) (bytes_in r (codes "text"))) ∷ [])
effect s drawn CsnbencFirst r =
    shown_segment s mode.Encipher (first_chain (bytes_in r (codes "iv"))) r
effect s drawn CsnbencMiddle r = shown_segment s mode.Encipher (chain_in r) r
effect s drawn CsnbencLast r = shown_last s mode.Encipher r
effect s drawn Csnbdec r =
    Show (Hex (codes "text")
    (or_empty (deciphered_text (key_of_request s r) (bytes_in r (codes "iv"))
    (pad_named (value_of r (codes "pad"))) (bytes_in r (codes "text")))) ∷ [])
effect s drawn CsnbdecFirst r =
    shown_segment s mode.Decipher (first_chain (bytes_in r (codes "iv"))) r
effect s drawn CsnbdecMiddle r = shown_segment s mode.Decipher (chain_in r) r
effect s drawn CsnbdecLast r = shown_last s mode.Decipher r
effect s drawn Csnbmgn r =
    Show (Hex (codes "mac") (take (mac_length_named (value_of r (codes "length")))
    (code_of (mac_rule_named (value_of r (codes "rule"))) (key_of_request s r)
    (bytes_in r (codes "text")))) ∷ [])
effect s drawn CsnbmgnFirst r = shown_code_segment s (first_chain zero_block) r
effect s drawn CsnbmgnMiddle r = shown_code_segment s (chain_in r) r
effect s drawn CsnbmgnLast r =
    Show (last_code_fields (key_of_request s r) (code_rule r) (chain_in r)
    (mac_length_named (value_of r (codes "length"))) (bytes_in r (codes "text")))
effect s drawn Csnbmvr r =
    Show (Text (codes "match") (yes_or_no
    (is_code (mac_rule_named (value_of r (codes "rule"))) (key_of_request s r)
    (bytes_in r (codes "text")) (bytes_in r (codes "mac")))) ∷ [])
effect s drawn CsnbmvrFirst r = shown_code_segment s (first_chain zero_block) r
effect s drawn CsnbmvrMiddle r = shown_code_segment s (chain_in r) r
effect s drawn CsnbmvrLast r =
    Show (last_match_fields (key_of_request s r) (code_rule r) (chain_in r)
    (bytes_in r (codes "mac")) (bytes_in r (codes "text")))
effect s drawn Csnbkyt r = Show (Hex (codes "value") (test_value (key_of_request s r)) ∷ [])
effect s drawn Csnbcki r =
    delivered s (codes "token") (label_named (value_of r (codes "to")))
    (imported_key (bytes_in r (codes "clear")))
effect s drawn Csnbrng r =
    Show (Hex (codes "random") (in_form (form_named (value_of r (codes "form"))) drawn) ∷ [])
effect s drawn CsnbkgnOp r =
    delivered s (codes "token1") (label_named (value_of r (codes "to")))
    (as_current (generated_key (type1_of r) (length_in r) drawn))
effect s drawn CsnbkgnPair r =
    delivered_with s (codes "token1") (label_named (value_of r (codes "to")))
    (as_current (generated_key (type1_of r) (length_in r) drawn))
    (Hex (codes "token2")
    (token_out s r (codes "transport2") (generated_key (type2_of r) (length_in r) drawn)) ∷ [])
effect s drawn CsnbkgnOut r = Show (
    Hex (codes "token1")
    (token_out s r (codes "transport1") (generated_key (type1_of r) (length_in r) drawn))
    ∷ Hex (codes "token2")
    (token_out s r (codes "transport2") (generated_key (type2_of r) (length_in r) drawn))
    ∷ [])
effect s drawn Csnbkim r =
    delivered s (codes "token") (label_named (value_of r (codes "to")))
    (as_current (imported (key_in_field s r (codes "transport")) (bytes_in r (codes "token"))))
effect s drawn Csnbkex r =
    Show (Hex (codes "token") (token_out s r (codes "transport") (key_of_request s r)) ∷ [])
effect s drawn Csnbpex r =
    delivered s (codes "token") (label_named (value_of r (codes "to")))
    (as_current (closed_key (key_of_request s r)))
effect s drawn Csnbktc r = Show (Hex (codes "token")
    (changed_token s.registers (target_named (value_of r (codes "rule")))
    (or_no_key (key_of_token s (bytes_in r (codes "token")))).clear) ∷ [])
effect s drawn CsnbkpiFirst r =
    delivered s (codes "token") (label_named (value_of r (codes "to")))
    (as_current (first_key (type_in (value_of r (codes "type"))) (part_in r)))
effect s drawn CsnbkpiMiddle r =
    delivered s (codes "token") (label_named (value_of r (codes "to")))
    (as_current (combined_key (is_last_part (value_of r (codes "rule")))
    (key_of_request s r) (part_in r)))
effect s drawn Csnbktr r =
    Show (Hex (codes "token")
    (token_out s r (codes "transport2")
    (imported (key_in_field s r (codes "transport1")) (bytes_in r (codes "token")))) ∷ [])
effect s drawn Csnbkrc r = Create (value_of r (codes "label"))
effect s drawn Csnbkrw r =
    Write (value_of r (codes "label")) (or_no_key (key_of_token s (bytes_in r (codes "token")))) []
effect s drawn Csnbkrr r =
    Show (Hex (codes "token")
    (token_for (keys_of s.registers)
    (or_no_key (key_of_label s (value_of r (codes "label"))))) ∷ [])
effect s drawn Csnbkrd r = Delete (value_of r (codes "label"))
effect s drawn Csnbkrl r = Show (label_fields (value_of r (codes "prefix")) (directory s.labels))
effect s drawn CsnbmkpPart r =
    Become
    (after_action (part_action (value_of r (codes "action")))
    (bytes_in r (codes "part")) s.registers)
    s.labels
effect s drawn CsnbmkpClear r = Become (after_action Clear [] s.registers) s.labels
effect s drawn CsnbmkpSet r = Become (after_action Set [] s.registers) (aged (keys_of s.registers) s.labels)
effect s drawn CsuaaciDefine r = DefineRole (value_of r (codes "name")) (points_in r)
effect s drawn CsuaaciRemove r = RemoveRole (value_of r (codes "name"))
effect s drawn Reencipher r = ChangeLabels Renew
effect s drawn ReencipherAhead r = ChangeLabels Ahead
effect s drawn ReencipherDrop r = ChangeLabels Drop

-- ---- what comes of it

-- the cells of a disk that are written
pub data Cells : Type 0 where
  NoCell : Cells
  OneCell : ℕ → Cells
  -- of the cells of these labels those whose label the action changes
  ChangedCells : StoreAction → List (Option Entry) → Cells

pub record Outcome : Type 0 where
  pub state : State
  pub reply : Reply
  pub module_cells : Cells
  pub store_cells : Cells
  -- what else a stop on the way may leave: of a request that writes many cells, the state once it came to this one
  pub between : ℕ → State

-- how full the new master key register is
abbrev pub new_name : NewRegister → List ℕ
new_name Empty = codes "empty"
new_name (Partial bytes) = codes "partial"
new_name (Full bytes) = codes "full"

abbrev pub written_in : Option ℕ → Denoted → List (Option Entry) → List (Option Entry)
written_in None key labels = labels
written_in (Some cell) key labels = written cell key labels

abbrev pub deleted_in : Option ℕ → List (Option Entry) → List (Option Entry)
deleted_in None labels = labels
deleted_in (Some cell) labels = deleted cell labels

abbrev pub state_after : State → Effect → State
state_after s (Show fields) = s
state_after s (Become m labels) = record s { registers = m; labels = labels }
state_after s (DefineRole name points) = record s { roles = after_define name points s.roles }
state_after s (RemoveRole name) = record s { roles = after_remove name s.roles }
state_after s (Create label) = record s { labels = created label s.labels }
state_after s (Write label key fields) =
    record s { labels = written_in (cell_with s label) key s.labels }
state_after s (Delete label) = record s { labels = deleted_in (cell_with s label) s.labels }
state_after s (ChangeLabels a) = record s { labels = further a s.labels 1024 }

-- the state once the labels in the cells below this one are what the action makes of them
abbrev pub state_between : State → Effect → ℕ → State
state_between s (Show fields) cell = s
state_between s (Become m labels) cell = s
state_between s (DefineRole name points) cell = s
state_between s (RemoveRole name) cell = s
state_between s (Create label) cell = s
state_between s (Write label key fields) cell = s
state_between s (Delete label) cell = s
state_between s (ChangeLabels a) cell = record s { labels = further a s.labels cell }

abbrev pub fields_after : State → Effect → List Field
fields_after s (Show fields) = fields
fields_after s (Become m labels) = Text (codes "new") (new_name m.coming) ∷ []
fields_after s (DefineRole name points) = []
fields_after s (RemoveRole name) = []
fields_after s (Create label) = []
fields_after s (Write label key fields) = fields
fields_after s (Delete label) = []
fields_after s (ChangeLabels a) = Number (codes "changed") (changed_count a s.labels) ∷ []

-- the registers stand in cell 0, the roles in the cells behind it
abbrev pub module_cells_after : State → Effect → Cells
module_cells_after s (Show fields) = NoCell
module_cells_after s (Become m labels) = OneCell 0
module_cells_after s (DefineRole name points) = OneCell (define_place name s.roles + 1)
module_cells_after s (RemoveRole name) = OneCell (remove_place name s.roles + 1)
module_cells_after s (Create label) = NoCell
module_cells_after s (Write label key fields) = NoCell
module_cells_after s (Delete label) = NoCell
module_cells_after s (ChangeLabels a) = NoCell

abbrev pub cell_or_none : Option ℕ → Cells
cell_or_none None = NoCell
cell_or_none (Some cell) = OneCell cell

-- each label stands in a cell of the store
abbrev pub store_cells_after : State → Effect → Cells
store_cells_after s (Show fields) = NoCell
store_cells_after s (Become m labels) = NoCell
store_cells_after s (DefineRole name points) = NoCell
store_cells_after s (RemoveRole name) = NoCell
store_cells_after s (Create label) = OneCell (free_cell (directory s.labels))
store_cells_after s (Write label key fields) = cell_or_none (cell_with s label)
store_cells_after s (Delete label) = cell_or_none (cell_with s label)
store_cells_after s (ChangeLabels a) = ChangedCells a s.labels

-- the reply ends with the warning
abbrev pub effected : State → Request → Effect → Outcome
effected s request e = record {
  state = state_after s e;
  reply = Done (fields_after s e ++ warning (any_old s (listed (operands request))));
  module_cells = module_cells_after s e;
  store_cells = store_cells_after s e;
  between = state_between s e;
}

-- a refusal changes nothing
abbrev pub refused : State → Refusal → Outcome
refused s r = record {
  state = s;
  reply = Refused r.rule r.operand;
  module_cells = NoCell;
  store_cells = NoCell;
  between = λ cell. s;
}

abbrev pub or_act : Option Refusal → State → List ℕ → Request → Outcome
or_act (Some r) s drawn request = refused s r
or_act None s drawn request = effected s request (effect s drawn request.name request)

-- what comes of a request, with the random bytes that it takes
unfoldable pub performed : State → List ℕ → Request → Outcome
performed s drawn request = or_act (verdict s drawn request) s drawn request
