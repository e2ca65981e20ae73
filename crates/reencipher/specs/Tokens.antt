-- The tokens that an action puts into a record.
use Rattle.std.specs.Prelude.{◌≡◌, ℕ, Bool, true, not, List, Option, Some, IsSome}
use Rattle.key_cells.specs.Bytes.{AreBytes}
use Rattle.key_cells.specs.Bench.{Bench}
use Rattle.key_tokens.specs.Denotes.{ClearKey, Denoted, MasterKeys, denoted}
use Rattle.record_bodies.specs.Ages.{has_old_key}
use Rattle.key_records.specs.Changes.{AreBoth}
use Rattle.record_bodies.specs.LabelChanges.{written, written_ahead}
use Rattle.record_bodies.specs.Entries.{Entry, both_row, key_row}
use Rattle.record_bodies.specs.declared.rows.Row.{Row}
use Rattle.record_bodies.specs.declared.rows.Second.{Second}
use Rattle.record_bodies.specs.RecordBody.{key_body, both_body, renewed}
use Rattle.master_registers.specs.Masters.{pattern_of_master}
use Rattle.master_registers.specs.declared.patterns.Pattern.{Pattern}
use Rattle.record_bodies.specs.Further.{under_current, has_current_key}
use Rattle.record_bodies.specs.declared.actions.StoreAction.{StoreAction}
use Rattle.record_bodies.specs.declared.actions.StoreAction.TheVariants.{Renew, Ahead, Drop}
use Rattle.reencipher.specs.declared.writing.Tokens.{Tokens}
use Rattle.reencipher.specs.declared.writing.Tokens.TheVariants.{One, Two}

-- the tokens may be written
abbrev pub CanBeWritten : MasterKeys → Tokens → Type 0
CanBeWritten masters (One token) = IsSome (denoted masters token)
CanBeWritten masters (Two token second) = (clear : ClearKey) × AreBoth masters token second clear

-- they stand for a key
abbrev pub StandFor : MasterKeys → Tokens → Denoted → Type 0
StandFor masters (One token) key = denoted masters token ≡ Some key
StandFor masters (Two token second) key = AreBoth masters token second key.clear

abbrev pub body_of : List ℕ → Tokens → List ℕ
body_of label (One token) = key_body label (renewed token)
body_of label (Two token second) = both_body label (renewed token) second

-- what the memory knows of a label with them
abbrev pub row_of : List ℕ → Tokens → Row
row_of label (One token) = key_row label token
row_of label (Two token second) = both_row label token second.pattern

abbrev pub put_in : Tokens → ℕ → Denoted → List (Option Entry) → List (Option Entry)
put_in (One token) cell key s = written cell key s
put_in (Two token second) cell key s = written_ahead cell key.clear s

-- ---- which tokens an action makes of a token

-- the action changes a label with this key, if its mark allows it
abbrev pub changes_key : StoreAction → Option Denoted → Bool
changes_key Renew what = has_old_key what
changes_key Ahead what = has_current_key what
changes_key Drop what = has_current_key what

abbrev pub may_change : StoreAction → Bool → Bool
may_change Renew ahead = true
may_change Ahead ahead = not ahead
may_change Drop ahead = ahead

-- a second token of the key of a token under the current master key
pub record AreSecond (masters : MasterKeys) (token : List ℕ) (second : Second) : Type 0 where
  pub clear : ClearKey
  pub both : AreBoth masters token second clear

abbrev pub AreMade : StoreAction → MasterKeys → List ℕ → Tokens → Type 0
AreMade Renew masters token (One new) =
    AreBytes 64 new × (denoted masters new ≡ under_current (denoted masters token))
AreMade Renew masters token (Two new second) = ⊥
AreMade Ahead masters token (One new) = ⊥
AreMade Ahead masters token (Two new second) =
    AreBytes 64 new × (new ≡ token) × AreSecond masters token second
AreMade Drop masters token (One new) = AreBytes 64 new × (new ≡ token)
AreMade Drop masters token (Two new second) = ⊥

-- the pattern of the bytes in the new register's place
abbrev pub IsComing : Pattern → Bench → Type 0
IsComing pattern bench = pattern.bytes ≡ pattern_of_master bench.coming
