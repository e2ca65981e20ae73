-- What sending lines leaves, for the crate's own functions.
use Rattle.std.specs.Prelude.{◌≡◌, ◌⊎◌, ◌<◌, ◌++◌, ℕ, List, Option, Result, Err, OnOk}
use Rattle.device_cells.specs.WhereTold.{WhereTold}
use Rattle.line_service.specs.Sending.{GotPart}
use Rattle.audit_trail.specs.Entries.{IsEntry}
use Rattle.audit_trail.specs.declared.entries.Entry.{Entry}
use Rattle.audit_trail.specs.declared.faults.TrailFault.TheVariants.{DiskFault, Damaged}
use Rattle.audited_service.specs.Lines.{record_line}
use Rattle.audited_service.specs.declared.listing.ListFault.{ListFault}
use Rattle.audited_service.specs.declared.listing.ListFault.TheVariants.{WriteFault, Trail}

-- the sink got the line, or a part of it where the sink failed
pub record SendsLine (line : List ℕ) (result : Result (Unit {0}) ListFault)
    (before now : Option (List ℕ)) : Type 0 where
  pub done : OnOk result (WhereTold before now (λ x y. y ≡ x ++ line))
  pub cut : result ≡ Err WriteFault → WhereTold before now (λ x y. GotPart x y line)

-- The same of a line whose entry is some one that has the forms of one, whatever the trail tells.
pub record SendsSome (number : ℕ) (result : Result (Unit {0}) ListFault)
    (before now : Option (List ℕ)) : Type 0 where
  pub done : OnOk result ((e : Entry) × IsEntry e
      × WhereTold before now (λ x y. y ≡ x ++ record_line number e))
  pub cut : result ≡ Err WriteFault → (e : Entry) × IsEntry e
      × WhereTold before now (λ x y. GotPart x y (record_line number e))

-- the sink or the trail failed, or a cell read as no record of its own
abbrev pub IsFault : ListFault → Type 0
IsFault fault =
    (fault ≡ WriteFault) ⊎ ((fault ≡ Trail DiskFault)
    ⊎ ((cell : ℕ) × (cell < 4096) × (fault ≡ Trail (Damaged cell))))
