use Rattle.std.proofs.Common.{◌≡◌, List, Option, None, Some, ap, subst, ◌∙◌, get_or, rules}
use Rattle.std.proofs.lemmas.List.{get_or_default}
use Rattle.record_bodies.specs.Directory.{cell_of, label_at}
use Rattle.record_bodies.specs.Entries.{row_directory, row_label}
use Rattle.record_bodies.specs.declared.rows.Row.{Row}
use Rattle.cca_roles.proofs.DirectoryLaws.{place_is}
use Rattle.record_bodies.proofs.RowLaws.{label_of_row}
use Rattle.key_records.proofs.records.Records.label_in.Goals as goal

pub returns-in-Some-clause-found : goal.returns-in-Some-clause-found
returns-in-Some-clause-found c =
    let rows : List (Option Row) = c.self.inside.rows.items in
    let row_is : get_or rows c.args.cell None ≡ Some c.in-Some.row = get_or_default rows c.args.cell None c.index.result.now (search rules) ∙ search rules in
    let held : label_at (row_directory rows) c.args.cell ≡ Some c.in-Some.row.label = label_of_row rows c.args.cell ∙ ap row_label row_is in
    subst (λ (r : List (Option Row)). cell_of c.in-Some.row.label (row_directory r) ≡ Some c.args.cell) c.self.view_is
    (place_is (row_directory rows) c.args.cell c.in-Some.row.label c.self.invariant.are.apart held)
