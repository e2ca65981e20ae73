-- Reply lines and their pieces, in bytes.
use Rattle.std.specs.Prelude.{ℕ, ◌+◌, ◌/◌, ◌%◌, List, [], ◌∷◌, ◌++◌, codes, decimal}
use Rattle.std.specs.List.{flat_map}
use Rattle.hex.specs.Hex.{encode_lower}
use Rattle.line_service.specs.Lines.{newline}

-- the most bytes that a reply line may have, its newline among them
abbrev pub reply_limit : ℕ
reply_limit = 69632

-- ` name=`, which begins a field
unfoldable pub field_name : List ℕ → List ℕ
field_name name = codes " " ++ name ++ codes "="

-- ` name=` and the bytes in lower-case hex
unfoldable pub hex_field : List ℕ → List ℕ → List ℕ
hex_field name bytes = field_name name ++ encode_lower bytes

-- ` name=` and the bytes as they are
unfoldable pub text_field : List ℕ → List ℕ → List ℕ
text_field name bytes = field_name name ++ bytes

-- ` name=` and the number in decimal digits, without leading zeros
unfoldable pub number_field : List ℕ → ℕ → List ℕ
number_field name value = field_name name ++ decimal value

-- what begins the reply to a request that was carried out
unfoldable pub ok_text : List ℕ
ok_text = codes "OK"

-- a number below 100 as two decimal digits
abbrev pub two_digits : ℕ → List ℕ
two_digits n = (48 + n / 10) ∷ (48 + n % 10) ∷ []

-- `NO rr operand`
unfoldable pub refusal : ℕ → List ℕ → List ℕ
refusal rule operand = codes "NO " ++ two_digits rule ++ codes " " ++ operand

-- a field of a reply: its name, and its value
pub data Field : Type 0 where
  Hex : List ℕ → List ℕ → Field
  Text : List ℕ → List ℕ → Field
  Number : List ℕ → ℕ → Field

-- a reply: the number of the rule that failed with the name of its operand, or the fields in order
pub data Reply : Type 0 where
  Refused : ℕ → List ℕ → Reply
  Done : List Field → Reply

-- a field as it stands in the reply line
abbrev pub field_text : Field → List ℕ
field_text (Hex name bytes) = hex_field name bytes
field_text (Text name bytes) = text_field name bytes
field_text (Number name value) = number_field name value

-- the fields as they stand in the reply line
abbrev pub fields_text : List Field → List ℕ
fields_text fields = flat_map field_text fields

-- the reply to a request that was carried out, as far as these fields, without its newline
abbrev pub written : List Field → List ℕ
written fields = ok_text ++ fields_text fields

-- the bytes of the reply line, with its newline
abbrev pub spelled : Reply → List ℕ
spelled (Refused rule operand) = refusal rule operand ++ newline ∷ []
spelled (Done fields) = written fields ++ newline ∷ []
