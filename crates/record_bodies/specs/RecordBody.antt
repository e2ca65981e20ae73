-- A record as the body of a cell.
use Rattle.std.specs.Prelude.{◌≡◌, ◌⊎◌, IsSome, IsTrue, ℕ, Bool, true, false, not, ◌&&◌, ◌-◌, ◌==◌, List, ◌∷◌, ◌++◌, length, take, drop, replicate, Option, None, Some, is_some, slice_index, slice_range, bytes_eq, if◌then◌else◌}
use Rattle.key_cells.specs.Bytes.{AreBytes, IsZero}
use Rattle.cca_vectors.specs.Checks.{first_failing}
use Rattle.cca_vectors.specs.Vectors.{length_of}
use Rattle.multi_encipher.specs.Seals.{seal}
use Rattle.key_tokens.specs.Denotes.{ClearKey, MasterKey, MasterKeys, Denoted, denoted}
use Rattle.key_tokens.specs.Fields.{pattern_of_token, token_of, vector_bytes_of}
use Rattle.key_tokens.specs.Layout.{made}
use Rattle.key_tokens.specs.TokenChecks.{token_checks}
use Rattle.key_tokens.specs.declared.key_token.Age.TheVariants.{Current}
use Rattle.key_tokens.specs.declared.key_token.Asked.TheVariants.{Internal}
use Rattle.key_tokens.specs.declared.key_token.Kind.TheVariants as kind
use Rattle.key_tokens.specs.declared.key_token.Token.{Token}
use Rattle.master_registers.specs.declared.patterns.Pattern.{Pattern}
use Rattle.record_bodies.specs.Labels.{IsLabel}
use Rattle.record_bodies.specs.Entries.{Entry}
use Rattle.record_bodies.specs.declared.rows.Row.{Row}
use Rattle.record_bodies.specs.declared.rows.Second.{Second}

abbrev pub null_kind : ℕ
null_kind = 1

abbrev pub key_kind : ℕ
key_kind = 2

-- a key with two tokens
abbrev pub both_kind : ℕ
both_kind = 3

-- Byte 0 says what the record is, byte 1 how long the label is. The label stands at 2, the first token at 66; the
-- pattern of the second one stands at 130, its halves at 138 and 146. Every other byte is zero.
unfoldable pub record_body : ℕ → List ℕ → List ℕ → Second → List ℕ
record_body kind label token second =
    kind ∷ length label ∷ (label ++ (replicate (64 - length label) 0
    ++ (token ++ (second.pattern.bytes
    ++ (second.sealed.left ++ (second.sealed.right ++ replicate 38 0))))))

unfoldable pub blank_body : List ℕ
blank_body = replicate 192 0

unfoldable pub no_token : List ℕ
no_token = replicate 64 0

abbrev pub no_second : Second
no_second = record {
  pattern = record { bytes = replicate 8 0 };
  sealed = record { left = replicate 8 0; right = replicate 8 0 };
}

-- a label with nothing, with one token, and with two
abbrev pub null_body : List ℕ → List ℕ
null_body label = record_body null_kind label no_token no_second

abbrev pub key_body : List ℕ → List ℕ → List ℕ
key_body label token = record_body key_kind label token no_second

abbrev pub both_body : List ℕ → List ℕ → Second → List ℕ
both_body label token second = record_body both_kind label token second

-- a token as it is kept: its fields, with flag c0 and the validation value made anew
abbrev pub renewed : List ℕ → List ℕ
renewed token = made (token_of token)

-- the key that a token with flag c0 stands for
unfoldable pub kept : MasterKeys → List ℕ → Option Denoted
kept masters token = if slice_index token 6 == 0xc0 then denoted masters token else None

-- ---- the second token

-- the second token with the vector of the first
abbrev pub second_fields : List ℕ → Second → Token
second_fields token second = record {
  kind = kind.Internal;
  pattern = second.pattern.bytes;
  sealed = second.sealed;
  vector = vector_bytes_of token;
}

-- its 64 bytes
unfoldable pub second_token : List ℕ → Second → List ℕ
second_token token second = made (second_fields token second)

-- a first token breaks no rule of an internal token, and its flag is c0
pub record IsFirst (token : List ℕ) : Type 0 where
  pub bytes : AreBytes 64 token
  pub sound : first_failing (token_checks Internal token) ≡ None
  pub flag : slice_index token 6 ≡ 0xc0

-- a second one has a zero right half where the length is 8
pub record IsSecond (token : List ℕ) (second : Second) : Type 0 where
  pub pattern : AreBytes 8 second.pattern.bytes
  pub left : AreBytes 8 second.sealed.left
  pub right : AreBytes 8 second.sealed.right
  pub single : length_of (vector_bytes_of token) ≡ 8 → IsZero second.sealed.right

-- the second token of a clear key under a master key
abbrev pub second_of : MasterKey → ClearKey → Second
second_of master clear = record {
  pattern = record { bytes = master.pattern };
  sealed = seal master.key clear.vector clear.key;
}

-- ---- what a body reads as

-- The label is under its second token: that of the first stands there, and isn't looked at further.
pub record IsTurned (bytes label token : List ℕ) : Type 0 where
  pub first : List ℕ
  pub second : Second
  pub is_first : IsFirst first
  pub is_second : IsSecond first second
  pub under : token ≡ second_token first second
  pub body : bytes ≡ both_body label first second

-- The label is ahead. Its first token is under the current master key. Its second one is the same key sealed under a
-- full new register, and stands for no key under the current or the old one.
pub record IsAhead (masters : MasterKeys) (bytes label token : List ℕ) (key : Denoted)
    : Type 0 where
  pub second : Second
  pub is_second : IsSecond token second
  pub current : key.age ≡ Current
  pub coming : MasterKey
  pub is_coming : masters.coming ≡ Some coming
  pub sealed : second ≡ second_of coming key.clear
  pub apart : kept masters (second_token token second) ≡ None
  pub body : bytes ≡ both_body label token second

-- where the token that a label is under stands: alone, as the second of two, or as the first of two
abbrev pub HasToken : MasterKeys → List ℕ → List ℕ → List ℕ → Denoted → Bool → Option (List ℕ)
    → Type 0
HasToken masters bytes label token key false unused =
    ((bytes ≡ key_body label token) × (unused ≡ None))
    ⊎ ((turned : IsTurned bytes label token) × (unused ≡ Some turned.first))
HasToken masters bytes label token key true unused =
    IsAhead masters bytes label token key × (unused ≡ None)

-- the token that a label is under stands for the key
pub record ReadsKey (masters : MasterKeys) (bytes label : List ℕ) (key : Denoted) (ahead : Bool)
    (unused : Option (List ℕ)) : Type 0 where
  pub token : List ℕ
  pub are : AreBytes 64 token
  pub is_kept : kept masters token ≡ Some key
  pub body : HasToken masters bytes label token key ahead unused

-- the body is that of the label with nothing, or with a token that stands for a key
abbrev pub ReadsWhat : MasterKeys → List ℕ → List ℕ → Option Denoted → Bool → Option (List ℕ)
    → Type 0
ReadsWhat masters bytes label None ahead unused =
    (bytes ≡ null_body label) × (ahead ≡ false) × (unused ≡ None)
ReadsWhat masters bytes label (Some key) ahead unused =
    ReadsKey masters bytes label key ahead unused

-- the body reads as a record, or as none where it is blank
abbrev pub ReadsEntry : MasterKeys → List ℕ → Option Entry → Type 0
ReadsEntry masters bytes None = bytes ≡ blank_body
ReadsEntry masters bytes (Some e) =
    IsLabel e.label × ReadsWhat masters bytes e.label e.what e.ahead e.unused

-- ---- what the memory knows of a body

-- a token that is kept: 64 bytes that break no rule of an internal token, with flag c0 and this pattern
pub record IsKept (token : List ℕ) (pattern : Pattern) : Type 0 where
  pub bytes : AreBytes 64 token
  pub sound : first_failing (token_checks Internal token) ≡ None
  pub flag : slice_index token 6 ≡ 0xc0
  pub under : pattern_of_token token ≡ pattern.bytes

-- a second token of this pattern stands beside the token
pub record IsBeside (bytes label token : List ℕ) (pattern : Pattern) : Type 0 where
  pub second : Second
  pub is_second : IsSecond token second
  pub beside : second.pattern ≡ pattern
  pub body : bytes ≡ both_body label token second

abbrev pub StandsAs : List ℕ → List ℕ → List ℕ → Option Pattern → Type 0
StandsAs bytes label token None = (bytes ≡ key_body label token) ⊎ IsTurned bytes label token
StandsAs bytes label token (Some pattern) = IsBeside bytes label token pattern

-- the token that the label is under has this pattern
pub record HoldsToken (bytes label : List ℕ) (pattern : Pattern) (ahead : Option Pattern)
    : Type 0 where
  pub token : List ℕ
  pub is_kept : IsKept token pattern
  pub body : StandsAs bytes label token ahead

abbrev pub ReadsPattern : List ℕ → List ℕ → Option Pattern → Option Pattern → Type 0
ReadsPattern bytes label None ahead = (bytes ≡ null_body label) × (ahead ≡ None)
ReadsPattern bytes label (Some pattern) ahead = HoldsToken bytes label pattern ahead

-- the body is that of the label with nothing or with a token of the pattern, or is blank where there is no label
abbrev pub ReadsRow : List ℕ → Option Row → Type 0
ReadsRow bytes None = bytes ≡ blank_body
ReadsRow bytes (Some r) = IsLabel r.label × ReadsPattern bytes r.label r.pattern r.ahead

-- a token that is kept with a pattern that the memory knows
abbrev pub IsKeptWith : Option Pattern → List ℕ → Type 0
IsKeptWith None token = ⊥
IsKeptWith (Some pattern) token = IsKept token pattern

-- the token that the label of a row is under, which stands in the body and is kept with the pattern of the row
pub record IsTokenOf (bytes : List ℕ) (row : Row) (token : List ℕ) : Type 0 where
  pub kept : IsKeptWith row.pattern token
  pub stands : StandsAs bytes row.label token row.ahead

-- A record of this kind has the token of a key whose pattern the memory knows: alone, as the second of two, or as the first
-- of two where it knows the pattern of the second.
abbrev pub HoldsUnder : Pattern → Option Pattern → ℕ → List ℕ → Second → Type 0
HoldsUnder pattern None kind token second =
    ((kind ≡ key_kind) × (second ≡ no_second) × IsKept token pattern)
    ⊎ ((kind ≡ both_kind) × IsFirst token × IsSecond token second × (second.pattern ≡ pattern))
HoldsUnder pattern (Some ahead) kind token second =
    (kind ≡ both_kind) × IsKept token pattern × IsSecond token second × (second.pattern ≡ ahead)

-- ---- what a body can read as

abbrev pub label_in : List ℕ → List ℕ
label_in bytes = take (slice_index bytes 1) (drop 2 bytes)

abbrev pub token_in : List ℕ → List ℕ
token_in bytes = slice_range bytes 66 130

abbrev pub second_in : List ℕ → Second
second_in bytes = record {
  pattern = record { bytes = slice_range bytes 130 138 };
  sealed = record { left = slice_range bytes 138 146; right = slice_range bytes 146 154 };
}

-- the token that a record is under, by whether it is ahead
abbrev pub held_token : Bool → ℕ → List ℕ → Second → List ℕ
held_token ahead kind token second =
    if kind == both_kind && not ahead then second_token token second else token

-- the second token stands for a key under the current or the old register
abbrev pub is_turned : MasterKeys → List ℕ → Second → Bool
is_turned masters token second = is_some (kept masters (second_token token second))

-- the token that a record of this kind is under
abbrev pub under : MasterKeys → ℕ → List ℕ → Second → List ℕ
under masters kind token second =
    if kind == both_kind && is_turned masters token second then second_token token second else token

-- what the token of a record of this kind stands for
abbrev pub what_of : MasterKeys → ℕ → List ℕ → Second → Option Denoted
what_of masters kind token second =
    if kind == null_kind then None else kept masters (under masters kind token second)

abbrev pub ahead_of : MasterKeys → ℕ → List ℕ → Second → Bool
ahead_of masters kind token second = kind == both_kind && not (is_turned masters token second)

-- the first token, where the label is under the second one
abbrev pub unused_of : MasterKeys → ℕ → List ℕ → Second → Option (List ℕ)
unused_of masters kind token second =
    if kind == both_kind && is_turned masters token second then Some token else None

-- the first token is under the current register, and the second one is the same key under a full new one
pub record IsPair (masters : MasterKeys) (token : List ℕ) (second : Second) : Type 0 where
  pub key : Denoted
  pub is_kept : kept masters token ≡ Some key
  pub current : key.age ≡ Current
  pub coming : MasterKey
  pub is_coming : masters.coming ≡ Some coming
  pub sealed : second ≡ second_of coming key.clear

-- two tokens, of which the first or the second is looked at
pub record IsBoth (masters : MasterKeys) (token : List ℕ) (second : Second) : Type 0 where
  pub is_first : IsFirst token
  pub is_second : IsSecond token second
  pub either : IsTrue (is_turned masters token second) ⊎ IsPair masters token second

-- a record of this kind has these tokens: a null record none, a key one that is kept for a key, or two
abbrev pub IsWhat : MasterKeys → ℕ → List ℕ → Second → Type 0
IsWhat masters kind token second =
    ((kind ≡ null_kind) × (token ≡ no_token) × (second ≡ no_second))
    ⊎ (((kind ≡ key_kind) × (second ≡ no_second) × IsSome (kept masters token))
    ⊎ ((kind ≡ both_kind) × IsBoth masters token second))

-- what a body reads as, if it reads as anything
unfoldable pub entry_in : MasterKeys → List ℕ → Option Entry
entry_in masters bytes =
    if bytes_eq bytes blank_body then None else
    Some (record {
      label = label_in bytes;
      what = what_of masters (slice_index bytes 0) (token_in bytes) (second_in bytes);
      ahead = ahead_of masters (slice_index bytes 0) (token_in bytes) (second_in bytes);
      unused = unused_of masters (slice_index bytes 0) (token_in bytes) (second_in bytes);
    })
