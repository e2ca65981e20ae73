-- A disk in memory as the calls that it noted: what they left for a read to give, and what a stop may leave of them.
use Rattle.std.specs.Prelude.{⊤, ◌≡◌, ℕ, ◌+◌, nat_le, nat_lt, Bool, ◌&&◌, false, List, [], ◌∷◌, ◌++◌, length, slice_index, fold, replicate}
use Rattle.std.specs.List.{list_any}
use Rattle.device_cells.specs.Ranges.{overwrite}
use Rattle.slot_disk.specs.declared.call.Call.{Call}
use Rattle.slot_disk.specs.declared.call.Call.TheVariants.{Written, Synced}

pub record Stage : Type 0 where
  -- what a read gives
  pub content : List ℕ
  -- what a read gave at the last sync
  pub synced : List ℕ
  -- the ranges that were written since, each with its place and its length
  pub unsynced : List (ℕ × ℕ)

-- nothing is unsynced
abbrev pub settled : List ℕ → Stage
settled image = record { content = image; synced = image; unsynced = [] }

abbrev pub noting : Stage → Call → Stage
noting s (Written at bytes) = record {
  content = overwrite s.content at bytes;
  synced = s.synced;
  unsynced = s.unsynced ++ (at, length bytes) ∷ [];
}
noting s Synced = settled s.content

-- after these calls on a disk that began with this image
unfoldable pub stage : List ℕ → List Call → Stage
stage first calls = fold noting (settled first) calls

-- one of the ranges has byte k
abbrev pub covers : List (ℕ × ℕ) → ℕ → Bool
covers ranges k = list_any (λ r. nat_le r.0 k && nat_lt k (r.0 + r.1)) ranges

-- what a stop may leave: any bytes in the unsynced ranges, and elsewhere those of the last sync
pub record IsTorn (s : Stage) (image : List ℕ) : Type 0 where
  pub size : length image ≡ length s.synced
  pub elsewhere : (k : ℕ) → covers s.unsynced k ≡ false
      → slice_index image k ≡ slice_index s.synced k

-- no byte of the write is left
abbrev pub IsWiped : Call → Type 0
IsWiped (Written at bytes) = bytes ≡ replicate (length bytes) 0
IsWiped Synced = ⊤
