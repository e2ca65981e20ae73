-- The token that is read of a record stands for the key that the record holds.
use Rattle.std.proofs.Common.{◌≡◌, ℕ, true, List, Option, None, Some, refl}
use Rattle.std.specs.Prelude.{is_some}
use Rattle.key_tokens.specs.Denotes.{Denoted, MasterKeys, denoted}
use Rattle.key_records.specs.Changes.{ReadsToken}
use Rattle.record_bodies.specs.Entries.{Entry, what_in}
use Rattle.record_bodies.specs.RecordBody.{kept}
use Rattle.key_records.proofs.AgeLaws.{kept_denoted}

pub record HasRead (masters : MasterKeys) (entry : Option Entry) (token : List ℕ) : Type 0 where
  pub key : Denoted
  pub is : what_in entry ≡ Some key
  pub denotes : denoted masters token ≡ Some key

pub read_key : (masters : MasterKeys) (entry : Option Entry) (token : List ℕ) → ReadsToken masters entry true token → HasRead masters entry token
read_key masters None token reads = absurd reads
read_key masters (Some e) token reads = by_what e.what reads.0 reads.1
  where
    by_what : (what : Option Denoted) → true ≡ is_some what → ((key : Denoted) → what ≡ Some key → kept masters token ≡ Some key)
        → HasRead masters (Some (record e { what = what })) token
    by_what None found keeps = cc found
    by_what (Some key) found keeps = record { key = key; is = refl; denotes = kept_denoted masters token key (keeps key refl) }
