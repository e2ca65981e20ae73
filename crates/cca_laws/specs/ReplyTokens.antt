-- The key tokens in a reply.
use Rattle.std.specs.Prelude.{ℕ, Bool, true, false, List, [], ◌∷◌, ⊤, codes, take, Option, None, Some, if◌then◌else◌}
use Rattle.std.specs.Str.{bytes_eq}
use Rattle.line_service.specs.Replies.{Field, Hex, Text, Number, Reply, Refused, Done}

-- the field is called token, token1 or token2
abbrev pub is_token_field : List ℕ → Bool
is_token_field name = bytes_eq (take 5 name) (codes "token")

-- P holds of the bytes, where they are a token, and the rest holds
abbrev pub IfToken : (List ℕ → Type 0) → Bool → List ℕ → Type 0 → Type 0
IfToken P true bytes others = P bytes × others
IfToken P false bytes others = others

-- P holds of each token among the fields
abbrev pub EachToken : (List ℕ → Type 0) → List Field → Type 0
EachToken P [] = ⊤
EachToken P (Hex name bytes ∷ fields) = IfToken P (is_token_field name) bytes (EachToken P fields)
EachToken P (Text name bytes ∷ fields) = EachToken P fields
EachToken P (Number name value ∷ fields) = EachToken P fields

-- P holds of each token that the reply has
abbrev pub ShowsTokens : (List ℕ → Type 0) → Reply → Type 0
ShowsTokens P (Refused rule operand) = ⊤
ShowsTokens P (Done fields) = EachToken P fields

-- ---- a field by its name

abbrev pub field_among : List ℕ → List Field → Option (List ℕ)
field_among name [] = None
field_among name (Hex other bytes ∷ fields) =
    if bytes_eq other name then Some bytes else field_among name fields
field_among name (Text other bytes ∷ fields) = field_among name fields
field_among name (Number other value ∷ fields) = field_among name fields

-- the bytes that the reply has in the field of this name
abbrev pub field_in : List ℕ → Reply → Option (List ℕ)
field_in name (Refused rule operand) = None
field_in name (Done fields) = field_among name fields
