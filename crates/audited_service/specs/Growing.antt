-- What a call leaves of a trail, whatever the disks hold.
use Rattle.std.specs.Prelude.{◌≡◌, ◌⊎◌, ℕ, ◌*◌, ◌%◌, ◌<◌, List, ◌++◌, length, slice_index}
use Rattle.device_cells.specs.Cells.{other_body}
use Rattle.device_cells.specs.Medium.{Medium, Told, From, Becomes, EachImage}
use Rattle.device_cells.specs.SpareBytes.{SameSpare, SameCell}
use Rattle.audit_trail.specs.Entries.{entry_at}
use Rattle.audit_trail.specs.RecordBody.{blank_body, Spells}
use Rattle.audit_trail.specs.TrailStands.{IsTrail}
use Rattle.audit_trail.specs.declared.entries.Entry.{Entry}

-- the image stands for these entries, and perhaps for others behind them
abbrev pub HasMore : List Entry → List ℕ → Type 0
HasMore es image = (more : List Entry) × IsTrail image (es ++ more)

-- Entries are only added, and no byte outside selectors and bodies has changed. So it is at each moment, but for what a
-- stop could leave before.
pub record TrailGrows (old new : Medium) : Type 0 where
  pub told : (es : List Entry) → Told old (λ c. IsTrail c es) → Told new (HasMore es)
  pub moments : (es : List Entry) → Told old (λ c. IsTrail c es)
      → EachImage old new (λ c. old.images c ⊎ HasMore es c)
  pub spare : Becomes SameSpare old new
  pub spares : EachImage old new (λ c. old.images c ⊎ From SameSpare old c)

-- ---- a trail at rest

-- the body is blank, or the record of one of these entries, which belongs to cell n
abbrev pub IsRecordOf : List Entry → ℕ → List ℕ → Type 0
IsRecordOf es n bytes =
    (bytes ≡ blank_body)
    ⊎ ((m : ℕ) × (m < length es) × (m % 4096 ≡ n) × Spells bytes m (entry_at es m))

-- A trail that stood for these entries stands for them, and perhaps for others behind them. Each cell has the bytes that
-- it had; or its selector is 0 or 1, and the body that isn't selected is blank or the record of an entry that belongs
-- there. No byte outside selectors and bodies has changed.
pub record HasGrown (es : List Entry) (old new : List ℕ) : Type 0 where
  pub more : List Entry
  pub stands : IsTrail new (es ++ more)
  pub same : SameSpare old new
  pub each : (n : ℕ) → n < 4096 → SameCell n old new
      ⊎ ((slice_index new (1536 * n) < 2) × IsRecordOf (es ++ more) n (other_body new n))

-- so it is of all entries for which the trail stood
abbrev pub Grown : List ℕ → List ℕ → Type 0
Grown old new = (es : List Entry) → IsTrail old es → HasGrown es old new
