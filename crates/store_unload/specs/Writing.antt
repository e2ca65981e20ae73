-- What writing the request file and the report of a move leaves.
use Rattle.std.specs.Prelude.{◌≡◌, ◌≤◌, ◌<◌, ◌⊎◌, ℕ, true, false, List, [], ◌++◌, length, take, get_or, codes, Option, None, Some, Result, Err, OnOk, OnErr, ⊤}
use Rattle.std.specs.List.{concat}
use Rattle.std.specs.Str.{bytes_eq}
use Rattle.device_cells.specs.WhereTold.{WhereTold}
use Rattle.record_bodies.specs.Directory.{cell_of, held_count}
use Rattle.record_bodies.specs.Entries.{row_directory}
use Rattle.record_bodies.specs.declared.rows.Row.{Row}
use Rattle.key_tokens.specs.Denotes.{Denoted, MasterKeys}
use Rattle.store_move.specs.Exports.{IsMoved}
use Rattle.store_move.specs.Reading.{HoldsAsRead}
use Rattle.store_move.specs.declared.moving.Moved.{Moved}
use Rattle.key_records.specs.declared.faults.RecordFault.TheVariants.{DiskFault, Damaged}
use Rattle.cca_machine.specs.Listing.{nth_label}
use Rattle.cca_machine.specs.State.{State}
use Rattle.store_unload.specs.Moves.{file_parts, report_parts, remarks_by, with_newlines, move_file, move_report}
use Rattle.store_unload.specs.Telling.{file_of, report_of}
use Rattle.command_words.specs.declared.moves.Move.{Move}
use Rattle.store_unload.specs.declared.writing.MoveFault.{MoveFault}
use Rattle.store_unload.specs.declared.writing.MoveFault.TheVariants.{WriteFault, ReportFault, Store}

-- the first so many parts were sent, and of the next one what comes before `missing`
pub record SentTo (count : ℕ) (parts : List (List ℕ)) (before now : List ℕ) : Type 0 where
  pub sent : List ℕ
  pub missing : List ℕ
  pub next : get_or parts count [] ≡ sent ++ missing
  pub held : now ≡ before ++ (concat (take count parts) ++ sent)

-- the labels before some label were told whole, in the file and in the report, and that one perhaps in part
pub record ToldTo (s : State) (w : Move) (file0 file1 report0 report1 : Option (List ℕ)) : Type 0 where
  pub count : ℕ
  pub file : WhereTold file0 file1 (SentTo count (file_parts s w))
  pub report : WhereTold report0 report1 (SentTo count (report_parts s w))

-- the whole file and the whole report
pub record ToldAll (s : State) (w : Move) (file0 file1 report0 report1 : Option (List ℕ)) : Type 0 where
  pub file : WhereTold file0 file1 (λ before now. now ≡ before ++ move_file s w)
  pub report : WhereTold report0 report1 (λ before now. now ≡ before ++ move_report s w)

-- What file and report got of the labels of a state.
pub record Tells (s : State) (w : Move) (result : Result (Unit {0}) MoveFault)
    (file0 file1 report0 report1 : Option (List ℕ)) : Type 0 where
  pub done : OnOk result (ToldAll s w file0 file1 report0 report1)
  pub cut : OnErr result (ToldTo s w file0 file1 report0 report1)
  -- the store of a state doesn't turn out damaged
  pub undamaged : (cell : ℕ) → result ≡ Err (Store (Damaged cell)) → ⊥

-- ---- whatever the store tells of its bytes

-- What a label adds to file and report: a remark where it is the transport key's label there, and else what comes of its
-- key by some body that was read as its record.
pub record IsPart (masters : MasterKeys) (w : Move) (rows : List (Option Row))
    (transport label file report : List ℕ) : Type 0 where
  pub target : bytes_eq label w.transport_there ≡ true
      → (file ≡ []) × (report ≡ with_newlines (remarks_by (Some (codes "target")) label))
  pub read : bytes_eq label w.transport_there ≡ false
      → (place : ℕ) × (bytes : List ℕ) × (what : Option Denoted) × (moved : Moved)
      × (cell_of label (row_directory rows) ≡ Some place)
      × HoldsAsRead masters (get_or rows place None) bytes what × IsMoved transport what moved
      × (file ≡ file_of w label moved) × (report ≡ report_of label moved)

-- the parts of the first so many labels that the memory knows, in ascending order
pub record AreParts (masters : MasterKeys) (w : Move) (rows : List (Option Row)) (transport : List ℕ)
    (count : ℕ) (files reports : List (List ℕ)) : Type 0 where
  pub file_count : length files ≡ count
  pub report_count : length reports ≡ count
  pub each : (k : ℕ) → k < count
      → IsPart masters w rows transport (nth_label (row_directory rows) k)
      (get_or files k []) (get_or reports k [])

-- file and report got such parts of so many labels
pub record GotParts (masters : MasterKeys) (w : Move) (rows : List (Option Row)) (transport : List ℕ)
    (count : ℕ) (file0 file1 report0 report1 : Option (List ℕ)) : Type 0 where
  pub files : List (List ℕ)
  pub reports : List (List ℕ)
  pub parts : AreParts masters w rows transport count files reports
  pub file : WhereTold file0 file1 (λ before now. now ≡ before ++ concat files)
  pub report : WhereTold report0 report1 (λ before now. now ≡ before ++ concat reports)

-- they got such parts of the labels before some label, and of that one perhaps what comes before some of it
pub record GotPartsTo (masters : MasterKeys) (w : Move) (rows : List (Option Row)) (transport : List ℕ)
    (file0 file1 report0 report1 : Option (List ℕ)) : Type 0 where
  pub known : ℕ
  pub within : known ≤ held_count (row_directory rows)
  pub files : List (List ℕ)
  pub reports : List (List ℕ)
  pub parts : AreParts masters w rows transport known files reports
  pub count : ℕ
  pub file : WhereTold file0 file1 (SentTo count files)
  pub report : WhereTold report0 report1 (SentTo count reports)

-- What file and report got by what was read of each label's record, whatever the store tells of its bytes.
pub record RestsOnRecords (masters : MasterKeys) (w : Move) (rows : List (Option Row))
    (transport : List ℕ) (result : Result (Unit {0}) MoveFault)
    (file0 file1 report0 report1 : Option (List ℕ)) : Type 0 where
  pub done : OnOk result (GotParts masters w rows transport (held_count (row_directory rows))
      file0 file1 report0 report1)
  pub cut : OnErr result (GotPartsTo masters w rows transport file0 file1 report0 report1)

-- the faults of a move
abbrev pub IsFault : MoveFault → Type 0
IsFault WriteFault = ⊤
IsFault ReportFault = ⊤
IsFault (Store fault) = (fault ≡ DiskFault) ⊎ ((cell : ℕ) × (cell ≤ 1023) × (fault ≡ Damaged cell))
