-- All that a state has of a label, and what the requests that go through every label make of it.
use Rattle.std.specs.Prelude.{◌≡◌, ◌⊎◌, ℕ, Bool, true, false, List, Option, None, Some}
use Rattle.record_bodies.specs.Entries.{Entry, entry}
use Rattle.record_bodies.specs.StoreStands.{entry_at}
use Rattle.key_tokens.specs.Denotes.{Denoted}
use Rattle.key_tokens.specs.declared.key_token.Age.{Age}
use Rattle.key_tokens.specs.declared.key_token.Age.TheVariants.{Current, Old}
use Rattle.key_transport.specs.Tokens.{as_current}
use Rattle.verb_script.specs.declared.rows.RequestName.{RequestName}
use Rattle.verb_script.specs.declared.rows.RequestName.TheVariants.{CsnbmkpSet, Reencipher, ReencipherAhead, ReencipherDrop}
use Rattle.cca_machine.specs.Keys.{cell_with, is_old, key_of_label}
use Rattle.cca_machine.specs.State.{State}
use Rattle.cca_laws.specs.Prepared.{is_ahead_label}

-- what stands in a cell, where there is one
abbrev pub entry_where : List (Option Entry) → Option ℕ → Option Entry
entry_where labels None = None
entry_where labels (Some cell) = entry_at labels cell

-- The whole entry of a label: its key with the master key that it is under, or nothing; whether it is
-- staged; and its unused token. None where the label isn't in the store.
abbrev pub entry_of_label : State → List ℕ → Option Entry
entry_of_label s label = entry_where s.labels (cell_with s label)

-- the label stands in the same cell in both states, or in none, with the same entry
pub record SameEntry (s t : State) (label : List ℕ) : Type 0 where
  pub cell : cell_with t label ≡ cell_with s label
  pub entry : entry_of_label t label ≡ entry_of_label s label

-- ---- requests that go through every label

-- SET, and REENCIPHER with and without an action
abbrev pub changes_each : RequestName → Bool
changes_each CsnbmkpSet = true
changes_each Reencipher = true
changes_each ReencipherAhead = true
changes_each ReencipherDrop = true
changes_each _ = false

-- whether a label is staged afterwards that AHEAD or DROP changes
abbrev pub mark_of : RequestName → Option Bool
mark_of ReencipherAhead = Some true
mark_of ReencipherDrop = Some false
mark_of _ = None

-- the entry staged or not, and with no unused token
abbrev pub marked : Bool → Option Entry → Option Entry
marked ahead None = None
marked ahead (Some e) = Some (record e { ahead = ahead; unused = None })

-- The label stands in the same cell. It has the entry that it had, or the same but staged or not, and
-- with no unused token.
pub record SameButMark (ahead : Bool) (s t : State) (label : List ℕ) : Type 0 where
  pub cell : cell_with t label ≡ cell_with s label
  pub entry : (entry_of_label t label ≡ entry_of_label s label)
      ⊎ (entry_of_label t label ≡ marked ahead (entry_of_label s label))

-- the master key that a key is under after SET, by whether its label was staged
abbrev pub age_after : Bool → Age
age_after true = Current
age_after false = Old

abbrev pub key_after : Bool → Option Denoted → Option Denoted
key_after staged None = None
key_after staged (Some key) = Some (record { clear = key.clear; age = age_after staged })

-- What SET makes of a label: it stands in the same cell, with the same key or with nothing. The key of
-- a label that was staged is under the current master key, any other one under the old. None is staged.
pub record IsTurnedBySet (s t : State) (label : List ℕ) : Type 0 where
  pub cell : cell_with t label ≡ cell_with s label
  pub key : key_of_label t label ≡ key_after (is_ahead_label s label) (key_of_label s label)
  pub mark : is_ahead_label t label ≡ false

-- What REENCIPHER without an action makes of a label: it stands in the same cell. A key under the old
-- master key is under the current one, in a record with one token; any other entry is as it was.
pub record IsRenewed (s t : State) (label : List ℕ) : Type 0 where
  pub cell : cell_with t label ≡ cell_with s label
  pub old : (key : Denoted) → key_of_label s label ≡ Some key → key.age ≡ Old
      → entry_of_label t label ≡ Some (entry label (Some (as_current key.clear)))
  pub others : is_old (key_of_label s label) ≡ false
      → entry_of_label t label ≡ entry_of_label s label
