-- The labels that the memory knows are those of the state.
use Rattle.std.proofs.Common.{◌≡◌, ◌∙◌, ℕ, List, Option, sym, ap}
use Rattle.record_bodies.specs.Directory.{cell_of}
use Rattle.record_bodies.specs.Entries.{row_directory}
use Rattle.record_bodies.specs.StoreStands.{Agrees}
use Rattle.record_bodies.specs.declared.rows.Row.{Row}
use Rattle.record_bodies.proofs.OpeningLaws.{directory_remembered}
use Rattle.verb_rules.specs.Keys.{keys_of}
use Rattle.cca_machine.specs.Keys.{cell_with}
use Rattle.cca_machine.specs.State.{State}

-- a label stands in the same cell of both
pub cell_is : (s : State) (rows : List (Option Row)) → Agrees (keys_of s.registers) rows s.labels → (label : List ℕ)
    → cell_with s label ≡ cell_of label (row_directory rows)
cell_is s rows agrees label = ap (cell_of label) (sym (ap row_directory agrees ∙ directory_remembered (keys_of s.registers) s.labels))
