-- A sealed store: what it is over some states, and what lines leave of a store at rest.
use Rattle.std.specs.Prelude.{◌≡◌, ◌⊎◌, ◌<◌, ◌*◌, ℕ, List, [], ◌∷◌, Contains, Option, None, Some, length, slice_index}
use Rattle.cca_vectors.specs.Checks.{first_failing}
use Rattle.cca_vectors.specs.Vectors.{IsValid}
use Rattle.device_cells.specs.Cells.{body, body_at, other_body}
use Rattle.device_cells.specs.SpareBytes.{IsSpare, SameSpare, SameCell}
use Rattle.record_bodies.specs.Entries.{Entry}
use Rattle.record_bodies.specs.Labels.{IsLabel}
use Rattle.record_bodies.specs.StoreStands.{entry_at}
use Rattle.record_bodies.specs.Written.{register_of, token_bytes, written_body}
use Rattle.key_tokens.specs.Denotes.{ClearKey, Denoted}
use Rattle.key_tokens.specs.TokenChecks.{token_checks}
use Rattle.key_tokens.specs.declared.key_token.Age.{Age}
use Rattle.key_tokens.specs.declared.key_token.Asked.TheVariants.{Internal}
use Rattle.multi_encipher.specs.Seals.{IsKey}
use Rattle.verb_rules.specs.Keys.{keys_of}
use Rattle.cca_machine.specs.Lines.{line_outcome}
use Rattle.cca_machine.specs.State.{State, IsStoreOf, store_size}

-- the states that lines lead through, the first and the last one among them
abbrev pub states_along : State → List ℕ → List (List ℕ) → List State
states_along s random [] = s ∷ []
states_along s random (line ∷ lines) =
    s ∷ states_along (line_outcome s random line).state (line_outcome s random line).random lines

-- each byte is zero
pub record IsBlankStore (image : List ℕ) : Type 0 where
  pub size : length image ≡ store_size
  pub zeros : (k : ℕ) → slice_index image k ≡ 0

-- a store that stood for one of the states selected this body in cell n
pub record WasSelected (states : List State) (n : ℕ) (bytes : List ℕ) : Type 0 where
  pub state : State
  pub among : Contains states state
  pub content : List ℕ
  pub stands : IsStoreOf state content
  pub is : body content n ≡ bytes

-- What lines leave of a store at rest: it stands for one of the states. Each cell has the bytes
-- that it had; or its selector is 0 or 1, and the body that isn't selected was selected once. No byte
-- outside selectors and bodies has changed.
pub record IsAtRest (states : List State) (old new : List ℕ) : Type 0 where
  pub last : State
  pub among : Contains states last
  pub stands : IsStoreOf last new
  pub same : SameSpare old new
  pub each : (n : ℕ) → n < 1024 → SameCell n old new
      ⊎ ((slice_index new (1536 * n) < 2) × WasSelected states n (other_body new n))

-- The token is that of some key, enciphered under the current or the old master key of one of the
-- states. It breaks no rule of an internal token, so its control vector is valid.
pub record IsSealedToken (states : List State) (bytes : List ℕ) : Type 0 where
  pub state : State
  pub among : Contains states state
  pub age : Age
  pub clear : ClearKey
  pub is : bytes ≡ token_bytes (register_of (keys_of state.registers) age) clear
  pub sound : first_failing (token_checks Internal bytes) ≡ None

abbrev pub unused_in : Option Entry → Option (List ℕ)
unused_in None = None
unused_in (Some e) = e.unused

-- the label is a label, and a key that it has is of the length that its valid control vector says
pub record IsProper (e : Entry) : Type 0 where
  pub label : IsLabel e.label
  pub key : (key : Denoted) → e.what ≡ Some key → IsKey key.clear.vector key.clear.key
  pub vector : (key : Denoted) → e.what ≡ Some key → IsValid key.clear.vector

-- The copy in cell n is that of what one of the states has in this cell. It is blank, where that is no label; or the key
-- record of the label: null, or with the label's key enciphered under a master key of that state. A token that the record
-- no longer uses is sealed too.
pub record IsSealedBody (states : List State) (n : ℕ) (bytes : List ℕ) : Type 0 where
  pub state : State
  pub among : Contains states state
  pub is : bytes ≡ written_body (keys_of state.registers) (entry_at state.labels n)
  pub proper : (e : Entry) → entry_at state.labels n ≡ Some e → IsProper e
  pub unused : (token : List ℕ) → unused_in (entry_at state.labels n) ≡ Some token
      → IsSealedToken states token

-- each selector is 0 or 1, both copies in each cell are sealed, and every other byte is zero
pub record IsSealed (states : List State) (image : List ℕ) : Type 0 where
  pub selectors : (n : ℕ) → n < 1024 → slice_index image (1536 * n) < 2
  pub bodies : (n side : ℕ) → n < 1024 → side < 2
      → IsSealedBody states n (body_at image n side)
  pub others : (k : ℕ) → IsSpare k → slice_index image k ≡ 0
