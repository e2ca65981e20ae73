-- What a listing leaves.
use Rattle.std.specs.Prelude.{◌≡◌, ◌≤◌, ◌<◌, ◌+◌, ◌%◌, ◌^◌, ◌++◌, ℕ, List, All, length, Option, Result, Err, OnOk, OnErr}
use Rattle.device_cells.specs.Faults.{Rose}
use Rattle.device_cells.specs.Medium.{Medium, Told}
use Rattle.device_cells.specs.WhereTold.{WhereTold}
use Rattle.line_service.specs.Sending.{GotPart}
use Rattle.audit_trail.specs.Entries.{IsEntry}
use Rattle.audit_trail.specs.TrailStands.{IsFirstDamaged}
use Rattle.audit_trail.specs.declared.entries.Entry.{Entry}
use Rattle.audit_trail.specs.declared.faults.TrailFault.TheVariants.{DiskFault, Damaged}
use Rattle.audited_service.specs.Lines.{held_from, lines_below, lines_from, listing}
use Rattle.audited_service.specs.declared.listing.ListFault.{ListFault}
use Rattle.audited_service.specs.declared.listing.ListFault.TheVariants.{WriteFault, Trail}

-- the sink got whole lines, those of the records below some number
pub record GotLines (es : List Entry) (before now : List ℕ) : Type 0 where
  pub next : ℕ
  pub within : next ≤ length es
  pub held : now ≡ before ++ lines_below es next

-- What the sink got of a trail that stands for these entries, by how the listing ended.
pub record Listed (es : List Entry) (result : Result (Unit {0}) ListFault)
    (before now : Option (List ℕ)) : Type 0 where
  pub done : OnOk result (WhereTold before now (λ x y. y ≡ x ++ listing es))
  pub cut : result ≡ Err WriteFault → WhereTold before now (λ x y. GotPart x y (listing es))
  pub lost : result ≡ Err (Trail DiskFault) → WhereTold before now (GotLines es)
  pub undamaged : (cell : ℕ) → result ≡ Err (Trail (Damaged cell)) → ⊥

-- What the sink got by what was read of each record, whatever the trail tells of its bytes: a line for each number that is
-- held of `next` records, ascending, of some entry that has the forms of one. After an Err what comes before some of it.
-- Where a record turns out damaged, its own cell is named, and the lines of all records before it were sent. A trail's
-- next number is at most 2 ^ 63, whatever it tells.
pub record ListsAsRead (next : ℕ) (result : Result (Unit {0}) ListFault)
    (before now : Option (List ℕ)) : Type 0 where
  pub low : next ≤ 2 ^ 63
  pub entries : List Entry
  pub forms : All IsEntry entries
  pub within : held_from next + length entries ≤ next
  pub done : OnOk result ((held_from next + length entries ≡ next)
      × WhereTold before now (λ x y. y ≡ x ++ lines_from (held_from next) entries))
  pub cut : OnErr result (WhereTold before now (λ x y.
      (missing : List ℕ) × (y ++ missing ≡ x ++ lines_from (held_from next) entries)))
  pub damaged : (cell : ℕ) → result ≡ Err (Trail (Damaged cell))
      → (held_from next + length entries < next)
      × (cell ≡ (held_from next + length entries) % 4096)
      × WhereTold before now (λ x y. y ≡ x ++ lines_from (held_from next) entries)

-- Damage is told where a cell is damaged, and then always, unless the trail failed. Nothing is sent then.
pub record TellsDamage {K : Type 0} (result : Result (Unit {0}) ListFault) (sink0 sink1 : K)
    (old : Medium) (before now : ℕ) : Type 0 where
  pub found : (cell : ℕ) → result ≡ Err (Trail (Damaged cell))
      → Told old (λ image. IsFirstDamaged image cell)
  pub judged : (Rose before now → ⊥)
      → Told old (λ image. (cell : ℕ) → IsFirstDamaged image cell
      → result ≡ Err (Trail (Damaged cell)))
  pub unsent : Told old (λ image. (cell : ℕ) → IsFirstDamaged image cell → sink1 ≡ sink0)
  pub within : (cell : ℕ) → result ≡ Err (Trail (Damaged cell)) → cell < 4096
