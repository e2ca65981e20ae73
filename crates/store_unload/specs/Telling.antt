-- What telling one label leaves, for the crate's own functions.
use Rattle.std.specs.Prelude.{◌≡◌, ℕ, true, false, List, [], ◌∷◌, ◌++◌, codes, Option, Some, Result, Err, OnOk, OnErr}
use Rattle.std.specs.Str.{bytes_eq}
use Rattle.device_cells.specs.WhereTold.{WhereTold}
use Rattle.key_cells.specs.Lease.{bench_of, loan_of}
use Rattle.key_cells.specs.declared.leases.Lease.{Lease}
use Rattle.key_records.specs.declared.faults.RecordFault.{RecordFault}
use Rattle.key_records.specs.declared.faults.RecordFault.TheVariants.{Damaged}
use Rattle.record_bodies.specs.declared.rows.Row.{Row}
use Rattle.key_tokens.specs.Denotes.{Denoted, MasterKeys}
use Rattle.line_service.specs.Replies.{two_digits}
use Rattle.store_move.specs.Exports.{IsMoved}
use Rattle.store_move.specs.Reading.{HoldsAsRead}
use Rattle.store_move.specs.declared.moving.Moved.{Moved}
use Rattle.store_move.specs.declared.moving.Moved.TheVariants.{Token, Kept}
use Rattle.verb_rules.specs.Rules.{rule_number}
use Rattle.store_unload.specs.Moves.{create_line, import_line, remarks_by, with_newlines}
use Rattle.command_words.specs.declared.moves.Move.{Move}
use Rattle.store_unload.specs.declared.writing.MoveFault.{MoveFault}
use Rattle.store_unload.specs.declared.writing.MoveFault.TheVariants.{Store}

-- what is sent of a label that is moved
abbrev pub requests_text : Move → List ℕ → List ℕ → List ℕ
requests_text w token label =
    with_newlines (create_line w label ∷ import_line w token label ∷ [])

-- a device got the piece; or what comes before `missing`, where the call ended in a fault
pub record GotSome (before now piece : List ℕ) : Type 0 where
  pub sent : List ℕ
  pub missing : List ℕ
  pub held : now ≡ before ++ sent
  pub parts : piece ≡ sent ++ missing

-- What a device got of a piece: all of it where the call was done, and else what comes before some of it.
pub record Gets {E : Type 0} (piece : List ℕ) (result : Result (Unit {0}) E)
    (before now : Option (List ℕ)) : Type 0 where
  pub all : OnOk result (WhereTold before now (λ x y. y ≡ x ++ piece))
  pub part : OnErr result (WhereTold before now (λ x y. GotSome x y piece))

-- What file and report got of one label, and that a store that stands for a state didn't turn out damaged.
pub record TellsLabel (requests remarks : List ℕ) (result : Result (Unit {0}) MoveFault)
    (file0 file1 report0 report1 : Option (List ℕ)) : Type 0 where
  pub file : Gets requests result file0 file1
  pub report : Gets remarks result report0 report1
  pub undamaged : (cell : ℕ) → result ≡ Err (Store (Damaged cell)) → ⊥

-- what the file gets of a label by what comes of its record: two requests, or nothing
abbrev pub file_of : Move → List ℕ → Moved → List ℕ
file_of w label (Token token) = requests_text w token label
file_of w label (Kept _) = []

-- what the report gets of it: nothing, or why it is kept back
abbrev pub report_of : List ℕ → Moved → List ℕ
report_of label (Token token) = []
report_of label (Kept rule) = with_newlines (remarks_by (Some (two_digits (rule_number rule))) label)

abbrev pub GetsMoved : Move → List ℕ → Moved → Result (Unit {0}) MoveFault
    → Option (List ℕ) → Option (List ℕ) → Option (List ℕ) → Option (List ℕ) → Type 0
GetsMoved w label moved result file0 file1 report0 report1 =
    Gets (file_of w label moved) result file0 file1
    × Gets (report_of label moved) result report0 report1

-- What was sent of a label by what was read of its record, whatever the store tells of its bytes. Where the store failed or
-- a body was read that isn't the record's, nothing was sent. The label that is named there isn't read.
pub record TellsAsRead (masters : MasterKeys) (w : Move) (label : List ℕ) (row : Option Row) (transport bytes : List ℕ)
    (result : Result (Unit {0}) MoveFault) (file0 file1 report0 report1 : Option (List ℕ)) : Type 0 where
  pub unsent : (fault : RecordFault) → result ≡ Err (Store fault) → (file1 ≡ file0) × (report1 ≡ report0)
  pub target : bytes_eq label w.transport_there ≡ true
      → Gets [] result file0 file1
      × Gets (with_newlines (remarks_by (Some (codes "target")) label)) result report0 report1
  pub read : bytes_eq label w.transport_there ≡ false
      → ((fault : RecordFault) → result ≡ Err (Store fault) → ⊥)
      → (what : Option Denoted) × (moved : Moved) × HoldsAsRead masters row bytes what
      × IsMoved transport what moved × GetsMoved w label moved result file0 file1 report0 report1

-- the registers in the bench and the loan are as they were
pub record KeepsMasters (old new : Lease) : Type 0 where
  pub current : (bench_of new).current ≡ (bench_of old).current
  pub former : (bench_of new).former ≡ (bench_of old).former
  pub coming : (bench_of new).coming ≡ (bench_of old).coming
  pub loan : loan_of new ≡ loan_of old
