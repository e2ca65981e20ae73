use Rattle.std.proofs.Common.{◌≡◌, ◌<◌, ℕ, List, Option, None, Some, IfSome, ◌∙◌, sym, subst}
use Rattle.record_bodies.specs.Directory.{cell_of, label_at}
use Rattle.record_bodies.specs.Entries.{row_directory}
use Rattle.record_bodies.specs.Rows.{AreRows}
use Rattle.record_bodies.specs.declared.rows.Row.{Row}
use Rattle.cca_roles.proofs.DirectoryLaws.{held_at}
use Rattle.record_bodies.proofs.RowLaws.{held_within}
use Rattle.key_records.proofs.records.Records.find.Goals as goal

-- the cell that was found holds the label
found_held : (rows : List (Option Row)) (label : List ℕ) (found : Option ℕ) → found ≡ cell_of label (row_directory rows) → IfSome found (λ cell. label_at (row_directory rows) cell ≡ Some label)
found_held rows label None is = tt
found_held rows label (Some cell) is = held_at label (row_directory rows) cell (sym is)

-- and is one of the cells
found_within : (rows : List (Option Row)) (label : List ℕ) (found : Option ℕ) → AreRows rows → found ≡ cell_of label (row_directory rows) → IfSome found (λ cell. cell < 1024)
found_within rows label None are is = tt
found_within rows label (Some cell) are is = held_within rows cell label are (held_at label (row_directory rows) cell (sym is))

pub returns-clause-held : goal.returns-clause-held
returns-clause-held g c =
    found_held c.args.self.now c.args.label.now c.find.result
    (subst (λ (r : List (Option Row)). c.find.result ≡ cell_of c.args.label.now (row_directory r)) (c.deref.ensures.value ∙ c.self.view_is) c.find.ensures.found)

pub returns-clause-within : goal.returns-clause-within
returns-clause-within g c =
    found_within c.args.self.now c.args.label.now c.find.result (subst AreRows c.self.view_is c.self.invariant.are)
    (subst (λ (r : List (Option Row)). c.find.result ≡ cell_of c.args.label.now (row_directory r)) (c.deref.ensures.value ∙ c.self.view_is) c.find.ensures.found)
