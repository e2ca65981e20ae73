-- What a store stands for: the labels of a state, each in its cell.
use Rattle.std.specs.Prelude.{◌≡◌, ◌<◌, ◌⊎◌, ℕ, List, length, map, get_or, Option, None, Some}
use Rattle.std.specs.List.{range_with_len}
use Rattle.device_cells.specs.Cells.{body}
use Rattle.device_cells.specs.Medium.{Medium, IsSettled, Told}
use Rattle.key_tokens.specs.Denotes.{MasterKeys}
use Rattle.record_bodies.specs.Directory.{AreApart}
use Rattle.record_bodies.specs.Entries.{Entry, directory, remembered}
use Rattle.record_bodies.specs.RecordBody.{ReadsEntry, ReadsRow, entry_in}
use Rattle.record_bodies.specs.declared.rows.Row.{Row}

abbrev pub entry_at : List (Option Entry) → ℕ → Option Entry
entry_at s n = get_or s n None

-- each cell reads as the label that s has there, and is blank where s has none
pub record StandsForLabels (masters : MasterKeys) (image : List ℕ) (s : List (Option Entry))
    : Type 0 where
  pub size : length s ≡ 1024
  pub reads : (n : ℕ) → n < 1024 → ReadsEntry masters (body image n) (entry_at s n)
  pub apart : AreApart (directory s)

-- the memory knows the labels, null marks, patterns and marks of being ahead of a state
abbrev pub Agrees : MasterKeys → List (Option Row) → List (Option Entry) → Type 0
Agrees masters rows s = rows ≡ map (remembered masters) s

-- the store stands for the labels of a state, which the memory knows
pub record KeepsLabels (masters : MasterKeys) (rows : List (Option Row)) (s : List (Option Entry))
    (image : List ℕ) : Type 0 where
  pub stands : StandsForLabels masters image s
  pub agrees : Agrees masters rows s

-- the memory knows the label, the null mark and the patterns of each cell
pub record HoldsRows (rows : List (Option Row)) (image : List ℕ) : Type 0 where
  pub reads : (n : ℕ) → n < 1024 → ReadsRow (body image n) (get_or rows n None)

-- of a store of 1,024 cells nothing is unsynced, and the memory knows its labels
pub record HasStore (rows : List (Option Row)) (store : Medium) : Type 0 where
  pub size : store.size ≡ 1572864
  pub settled : IsSettled store
  pub holds : Told store (HoldsRows rows)

-- the labels that a store stands for, if it stands for any
unfoldable pub labels_in : MasterKeys → List ℕ → List (Option Entry)
labels_in masters image = map (λ n. entry_in masters (body image n)) (range_with_len 0 1024)

-- ---- damage

-- a lower cell holds the label of this one
pub record Repeats (masters : MasterKeys) (image : List ℕ) (n : ℕ) : Type 0 where
  pub lower : ℕ
  pub below : lower < n
  pub first : Entry
  pub again : Entry
  pub reads_first : ReadsEntry masters (body image lower) (Some first)
  pub reads_again : ReadsEntry masters (body image n) (Some again)
  pub same : first.label ≡ again.label

-- the cell reads as nothing, or repeats the label of a lower one
abbrev pub IsDamagedCell : MasterKeys → List ℕ → ℕ → Type 0
IsDamagedCell masters image n =
    ((slot : Option Entry) → ReadsEntry masters (body image n) slot → ⊥) ⊎ Repeats masters image n

-- the lowest damaged cell
pub record IsFirstDamaged (masters : MasterKeys) (image : List ℕ) (n : ℕ) : Type 0 where
  pub within : n < 1024
  pub damaged : IsDamagedCell masters image n
  pub first : (k : ℕ) → k < n → IsDamagedCell masters image k → ⊥
