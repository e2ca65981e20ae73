-- The parser's rows and fields as the grammar's.
use Rattle.std.specs.Prelude.{◌≡◌, map, ℕ, ◌+◌, ◌==◌, ◌&&◌, nat_eq, Bool, List, [], ◌∷◌, ◌++◌, drop, length, codes, get_or, Option, Some, None, if◌then◌else◌}
use Rattle.std.specs.List.{starts_with}
use denote.Ref.{Bor}
use Rattle.verb_script.specs.Grammar.{row_of, Row, FieldForm, accepts, role_name, other_role, action_field, chain_field, digits_field, form_field, iv_field, key_field, key_part_field, label_field, length_field, mac_field, mac_length_field, name_field, pad_field, part_field, part_rule_field, points_field, prefix_field, role_field, rule_field, segment_field, text_field, to_field, token_field, transport_field, type_field, word_field}
use Rattle.verb_script.specs.declared.rows.RequestName.{RequestName}
use Rattle.verb_script.specs.declared.fields.Field.{Field}
use Rattle.verb_script.specs.declared.fields.Field.TheVariants as field
use Rattle.verb_script.specs.declared.rows.RowForm.{RowForm}

-- a row with its name
pub record NamedRow : Type 0 where
  pub name : RequestName
  pub row : Row

-- the field of the grammar
abbrev pub field_seen : Field → FieldForm
field_seen field.Role = role_field
field_seen field.Key = key_field
field_seen field.Iv = iv_field
field_seen field.Pad = pad_field
field_seen field.Text = text_field
field_seen field.SegmentFirst = segment_field (codes "FIRST")
field_seen field.SegmentMiddle = segment_field (codes "MIDDLE")
field_seen field.Chain = chain_field
field_seen field.SegmentLast = segment_field (codes "LAST")
field_seen field.Rule = rule_field
field_seen field.MacLength = mac_length_field
field_seen field.Mac = mac_field
field_seen field.Token = token_field
field_seen field.ClearKey = digits_field (codes "clear") 16
field_seen field.To = to_field
field_seen field.NumberForm = form_field (codes "RANDOM" ∷ codes "ODD" ∷ codes "EVEN" ∷ [])
field_seen field.OpForm = form_field (codes "OP" ∷ [])
field_seen field.Length = length_field
field_seen field.Type1 = type_field (codes "type1")
field_seen field.PairForm = form_field (codes "OPEX" ∷ codes "OPIM" ∷ [])
field_seen field.Type2 = type_field (codes "type2")
field_seen field.Transport2 = transport_field (codes "transport2")
field_seen field.OutForm = form_field (codes "IMEX" ∷ codes "EXEX" ∷ codes "IMIM" ∷ [])
field_seen field.Transport1 = transport_field (codes "transport1")
field_seen field.Transport = transport_field (codes "transport")
field_seen field.ChangeRule = word_field (codes "rule") (codes "RTCMK" ∷ codes "RTNMK" ∷ [])
field_seen field.FirstPart = part_rule_field (codes "FIRST" ∷ [])
field_seen field.Type = type_field (codes "type")
field_seen field.KeyPart = key_part_field
field_seen field.FurtherPart = part_rule_field (codes "MIDDLE" ∷ codes "LAST" ∷ [])
field_seen field.Label = label_field
field_seen field.Prefix = prefix_field
field_seen field.PartAction = action_field (codes "FIRST" ∷ codes "MIDDLE" ∷ codes "LAST" ∷ [])
field_seen field.Part = part_field
field_seen field.ActionClear = action_field (codes "CLEAR" ∷ [])
field_seen field.ActionSet = action_field (codes "SET" ∷ [])
field_seen field.ActionDefine = action_field (codes "DEFINE" ∷ [])
field_seen field.Name = name_field role_name
field_seen field.Points = points_field
field_seen field.ActionRemove = action_field (codes "REMOVE" ∷ [])
field_seen field.OtherName = name_field other_role
field_seen field.ActionAhead = action_field (codes "AHEAD" ∷ [])
field_seen field.ActionDrop = action_field (codes "DROP" ∷ [])

-- a row of the grammar by its name
abbrev pub named_row : RequestName → NamedRow
named_row name = record { name = name; row = row_of name }

-- what the parser holds of a row
abbrev pub form_seen : RowForm → NamedRow
form_seen form = record {
  name = form.name;
  row = record { verb = form.verb.now; fields = map field_seen form.fields.now };
}

abbrev pub row_name : RowForm → RequestName
row_name form = form.name

-- what the parser holds of a row is what the grammar says of it
abbrev pub IsRow : RowForm → Type 0
IsRow form = form_seen form ≡ named_row (row_name form)

abbrev pub AreRows : List RowForm → Type 0
AreRows forms = map form_seen forms ≡ map named_row (map row_name forms)

-- the row's verb has this letter in its seventh place
abbrev pub has_seventh : ℕ → RequestName → Bool
has_seventh letter name = get_or (row_of name).verb 6 0 == letter

-- what follows the field's name and an equals sign in a word, where it is one of the field's values
abbrev pub text_after : FieldForm → List ℕ → Option (List ℕ)
text_after f word =
    let prefix = f.name ++ codes "=" in
    if starts_with nat_eq word prefix && accepts f.values (drop (length prefix) word)
    then Some (drop (length prefix) word)
    else None

-- the text at a place, where there is one
abbrev pub text_at : ℕ → List (Bor (List ℕ)) → List ℕ
text_at place room = (get_or room place record { ref_ptr = (0, 0); now = [] }).now

-- the texts of the fields, which stand one after another from this place on
abbrev pub texts_at : List FieldForm → ℕ → List (Bor (List ℕ)) → List (List ℕ)
texts_at [] place room = []
texts_at (f ∷ fs) place room = text_at place room ∷ texts_at fs (place + 1) room
