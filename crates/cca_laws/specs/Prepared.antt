-- Labels that are sealed under the next master key before it is set.
use Rattle.std.specs.Prelude.{ℕ, Bool, false, List, Option, None, Some}
use Rattle.record_bodies.specs.Ages.{is_ahead_entry}
use Rattle.record_bodies.specs.Entries.{Entry}
use Rattle.record_bodies.specs.StoreStands.{entry_at}
use Rattle.cca_machine.specs.Keys.{cell_with}
use Rattle.cca_machine.specs.State.{State}

abbrev pub ahead_at : List (Option Entry) → Option ℕ → Bool
ahead_at labels None = false
ahead_at labels (Some cell) = is_ahead_entry (entry_at labels cell)

-- the label is held, and ahead
abbrev pub is_ahead_label : State → List ℕ → Bool
is_ahead_label s label = ahead_at s.labels (cell_with s label)
