use Rattle.std.proofs.Common.{◌≡◌, List, Option, None, Some, sym, ap, ◌∙◌, arith}
use Rattle.std.specs.Prelude.{not}
use Rattle.std.proofs.lemmas.List.{length-map}
use Rattle.record_bodies.specs.Directory.{label_at, free_cell}
use Rattle.record_bodies.specs.Entries.{row_directory, row_label}
use Rattle.record_bodies.specs.declared.rows.Row.{Row}
use Rattle.cca_roles.proofs.DirectoryLaws.{none_of, some_of, free_here, free_step, free_end}
use Rattle.record_bodies.proofs.RowLaws.{label_read}
use Rattle.record_bodies.proofs.rows.free_in.Goals as goal

pub returns-then-is_none-clause-free : goal.returns-then-is_none-clause-free
unfolding free_cell
returns-then-is_none-clause-free c =
    let rows : List (Option Row) = c.args.rows.now in
    let blank : c.index-rows-cell.result ≡ None = none_of c.index-rows-cell.result (c.is_none.ensures ∙ ap not c.if-is_none.true) in
    let here : label_at (row_directory rows) c.loop-cell.cell ≡ None = label_read rows c.loop-cell.cell c.index-rows-cell.result c.loop-cell-test.true c.index-rows-cell.is ∙ ap row_label blank in
    (sym (free_here (row_directory rows) c.loop-cell.cell (omega (arith, length-map rows row_label, c.loop-cell-test.true)) here) ∙ c.loop-cell.invariant, c.loop-cell-test.true)

pub loop-cell-preserved : goal.loop-cell-preserved
loop-cell-preserved c =
    let rows : List (Option Row) = c.args.rows.now in
    let held = some_of c.index-rows-cell.result (c.is_none.ensures ∙ ap not c.if-is_none.false) in
    let here : label_at (row_directory rows) c.loop-cell.cell ≡ Some held.0.label = label_read rows c.loop-cell.cell c.index-rows-cell.result c.loop-cell-test.true c.index-rows-cell.is ∙ ap row_label held.1 in
    sym (free_step (row_directory rows) c.loop-cell.cell held.0.label (omega (arith, length-map rows row_label, c.loop-cell-test.true)) here) ∙ c.loop-cell.invariant

pub returns-clause-none : goal.returns-clause-none
unfolding free_cell
returns-clause-none c _ =
    let rows : List (Option Row) = c.args.rows.now in
    sym c.loop-cell.invariant ∙ free_end (row_directory rows) c.loop-cell.cell (omega (arith, length-map rows row_label, c.loop-cell-test.false)) ∙ omega (arith, c.loop-cell-test.false, c.loop-cell.auto.cell-end)
