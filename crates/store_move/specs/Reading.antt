-- What is read of the record of a label, and why it isn't read.
use Rattle.std.specs.Prelude.{◌≡◌, ◌≤◌, ◌⊎◌, ℕ, Bool, true, false, List, Option, None, is_some, Result, Err, IfErr}
use Rattle.device_cells.specs.Faults.{Rose}
use Rattle.key_records.specs.Changes.{IsReadOf, has_key}
use Rattle.key_records.specs.declared.faults.RecordFault.{RecordFault}
use Rattle.key_records.specs.declared.faults.RecordFault.TheVariants.{DiskFault, Damaged}
use Rattle.record_bodies.specs.declared.rows.Row.{Row}
use Rattle.key_tokens.specs.Denotes.{Denoted, MasterKeys, denoted}

-- the key of a token that was found, if one was
abbrev pub if_found : Bool → Option Denoted → Option Denoted
if_found false what = None
if_found true what = what

-- What a record holds by the body that was read of it, whatever the store tells of its bytes: nothing exactly where the
-- memory knows the label's record as null, and else the key that the token in it stands for. A token that stands for no
-- key is no null record.
pub record HoldsAsRead (masters : MasterKeys) (row : Option Row) (bytes : List ℕ) (what : Option Denoted)
    : Type 0 where
  pub found : Bool
  pub token : List ℕ
  pub read : IsReadOf row bytes found token
  pub null : found ≡ has_key row
  pub holds : what ≡ if_found found (denoted masters token)
  pub key : is_some what ≡ found

-- The store failed, and its count of faults rose; or the cell of the record reads as another body. Where no fault of the
-- store is answered its count is as before.
pub record FailsAt {T : Type 0} (cell before now : ℕ) (result : Result T RecordFault) : Type 0 where
  pub later : before ≤ now
  pub failed : result ≡ Err DiskFault → Rose before now
  pub quiet : (result ≡ Err DiskFault → ⊥) → now ≡ before
  pub faults : IfErr result (λ fault. (fault ≡ DiskFault) ⊎ (fault ≡ Damaged cell))
