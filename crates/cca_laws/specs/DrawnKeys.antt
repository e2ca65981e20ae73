-- The keys that CSNBKGN makes of random bytes, and where it delivers them.
use Rattle.std.specs.Prelude.{◌≡◌, ◌<◌, ◌/◌, ℕ, true, All, List, ◌++◌, codes, length, map, None, Some}
use Rattle.std.specs.List.{concat}
use Rattle.cca_vectors.specs.DefaultVectors.{default_for, length_of_name}
use Rattle.cca_vectors.specs.KeyTypes.{type_named}
use Rattle.cca_vectors.specs.declared.key_length.Length.{Length}
use Rattle.cca_vectors.specs.declared.key_length.Length.TheVariants.{Eight, Sixteen, Unique}
use Rattle.cca_vectors.specs.declared.key_type.KeyType.{KeyType}
use Rattle.verb_rules.specs.Parity.{IsOdd}
use Rattle.key_tokens.specs.Denotes.{ClearKey, denoted_under}
use Rattle.key_transport.specs.Tokens.{as_current}
use Rattle.verb_script.specs.Grammar.{AreValues, Request, row_of, value_of}
use Rattle.verb_script.specs.declared.rows.RequestName.{RequestName}
use Rattle.verb_script.specs.declared.rows.RequestName.TheVariants.{CsnbkgnOp, CsnbkgnPair, CsnbkgnOut}
use Rattle.verb_script.specs.Named.{label_named}
use Rattle.cca_machine.specs.Act.{Outcome}
use Rattle.cca_machine.specs.Keys.{key_in_field, key_of_label, key_of_token}
use Rattle.cca_machine.specs.Lines.{taken_by}
use Rattle.cca_machine.specs.State.{State}
use Rattle.cca_machine.specs.Verdict.{verdict}
use Rattle.cca_laws.specs.ReplyTokens.{field_in}
use Rattle.cca_laws.specs.UniqueKeys.{generates}

-- ---- parity

-- two lists of bytes are the same, the low-order bit of each byte aside
abbrev pub SameButParity : List ℕ → List ℕ → Type 0
SameButParity one other = map (λ byte. byte / 2) one ≡ map (λ byte. byte / 2) other

-- the bytes with odd parity in each, by its low-order bit
pub record IsOddForm (bytes odd : List ℕ) : Type 0 where
  pub same : SameButParity bytes odd
  pub parity : All IsOdd odd

-- ---- the bytes of a key

-- 8 bytes that are the same as a left half, the low-order bit of each aside
pub record IsRepeated (left piece : List ℕ) : Type 0 where
  pub size : length piece ≡ 8
  pub same : SameButParity left piece

-- Of the random bytes that are taken for a key whose halves are to be unique, the first 8 are the left
-- half, and the first 8 after them that differ from it are the right one; at most seven times 8 that
-- don't differ stand between them.
pub record IsUniqueDraw (taken bytes : List ℕ) : Type 0 where
  pub left : List ℕ
  pub between : List (List ℕ)
  pub right : List ℕ
  pub order : taken ≡ left ++ (concat between ++ right)
  pub left_size : length left ≡ 8
  pub right_size : length right ≡ 8
  pub repeated : All (IsRepeated left) between
  pub few : length between < 8
  pub differs : SameButParity left right → ⊥
  pub halves : bytes ≡ left ++ right

-- the random bytes that are taken for a key of a length, and those of them that the key is made of
abbrev pub IsDraw : Length → List ℕ → List ℕ → Type 0
IsDraw Eight taken bytes = (length taken ≡ 8) × (bytes ≡ taken)
IsDraw Sixteen taken bytes = (length taken ≡ 16) × (bytes ≡ taken)
IsDraw Unique taken bytes = IsUniqueDraw taken bytes

-- the bytes of the key that random bytes make
pub record IsDrawnKey (key_length : Length) (taken key : List ℕ) : Type 0 where
  pub bytes : List ℕ
  pub draw : IsDraw key_length taken bytes
  pub odd : IsOddForm bytes key

-- ---- the request

-- a CSNBKGN that no rule refuses, the length that it asks for, and the random bytes that it takes
pub record IsGenerating (s : State) (drawn : List ℕ) (r : Request) (key_length : Length)
    : Type 0 where
  pub generates : generates r.name ≡ true
  pub spelled : AreValues (row_of r.name).fields r.values
  pub asked : length_of_name (value_of r (codes "length")) ≡ Some key_length
  pub permitted : verdict s drawn r ≡ None
  pub taken : length drawn ≡ taken_by s drawn r
  pub bytes : All (λ byte. byte < 256) drawn

-- ---- where the key is

-- a key of these bytes, with the default control vector of the type that a field names
pub record IsTyped (r : Request) (field : List ℕ) (key_length : Length) (bytes : List ℕ)
    (clear : ClearKey) : Type 0 where
  pub kind : KeyType
  pub type : type_named (value_of r field) ≡ Some kind
  pub vector : default_for kind key_length ≡ Some clear.vector
  pub key : clear.key ≡ bytes

-- the key is in the record of the label that `to` names, or in the internal token of the field token1
pub record IsKeyDelivered (r : Request) (o : Outcome) (clear : ClearKey) : Type 0 where
  pub record_ : (label : List ℕ) → label_named (value_of r (codes "to")) ≡ Some label
      → key_of_label o.state label ≡ Some (as_current clear)
  pub token : label_named (value_of r (codes "to")) ≡ None
      → (bytes : List ℕ) × (field_in (codes "token1") o.reply ≡ Some bytes)
      × (key_of_token o.state bytes ≡ Some (as_current clear))

-- the key is in the external token of a field of the reply, under the transport key of a field of the request
pub record IsSent (s : State) (r : Request) (o : Outcome) (field transport : List ℕ)
    (clear : ClearKey) : Type 0 where
  pub bytes : List ℕ
  pub shown : field_in field o.reply ≡ Some bytes
  pub stands : denoted_under (key_in_field s r transport).key bytes ≡ Some clear

-- the first key is delivered
pub record IsFirstDelivered (r : Request) (o : Outcome) (key_length : Length) (key : List ℕ)
    : Type 0 where
  pub clear : ClearKey
  pub typed : IsTyped r (codes "type1") key_length key clear
  pub delivered : IsKeyDelivered r o clear

-- a key of the type in one field is sent in another
pub record IsOneSent (s : State) (r : Request) (o : Outcome) (key_length : Length)
    (type field transport key : List ℕ) : Type 0 where
  pub clear : ClearKey
  pub typed : IsTyped r type key_length key clear
  pub sent : IsSent s r o field transport clear

-- by the request's form: one key that is delivered; one that is delivered and one that is sent; or two that are sent
abbrev pub HasKeys : RequestName → State → Request → Outcome → Length → List ℕ → Type 0
HasKeys CsnbkgnOp s r o key_length key = IsFirstDelivered r o key_length key
HasKeys CsnbkgnPair s r o key_length key =
    IsFirstDelivered r o key_length key
    × IsOneSent s r o key_length (codes "type2") (codes "token2") (codes "transport2") key
HasKeys CsnbkgnOut s r o key_length key =
    IsOneSent s r o key_length (codes "type1") (codes "token1") (codes "transport1") key
    × IsOneSent s r o key_length (codes "type2") (codes "token2") (codes "transport2") key
HasKeys _ s r o key_length key = ⊥

-- the keys that a request leaves are of these bytes
abbrev pub LeavesKey : State → Request → Outcome → Length → List ℕ → Type 0
LeavesKey s r o key_length key = HasKeys r.name s r o key_length key
