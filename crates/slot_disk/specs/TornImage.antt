-- What a stop makes of the ranges that were written since the last sync.
use Rattle.std.specs.Prelude.{ℕ, List, length, fold, replicate}
use Rattle.device_cells.specs.Ranges.{overwrite}
use Rattle.slot_disk.specs.Stages.{Stage}
use Rattle.slot_disk.specs.declared.memory_disk.Torn.{Torn}
use Rattle.slot_disk.specs.declared.memory_disk.Torn.TheVariants.{Old, New, Fill}

-- each range as it was, as it was written, or filled
abbrev pub torn_image : Torn → Stage → List ℕ
torn_image Old s = s.synced
torn_image New s = s.content
torn_image (Fill byte) s =
    fold (λ image range. overwrite image range.0 (replicate range.1 byte)) s.synced s.unsynced

-- one range more
abbrev pub torn_over : Torn → List ℕ → ℕ → List ℕ → List ℕ
torn_over Old image at bytes = image
torn_over New image at bytes = overwrite image at bytes
torn_over (Fill byte) image at bytes = overwrite image at (replicate (length bytes) byte)
