use Rattle.std.proofs.Common.{◌≡◌, ◌<◌, List, None, Some, length, get_or, set, sym, subst, ◌∙◌, ap, arith}
use Rattle.std.proofs.lemmas.List.{length-map}
use Rattle.record_bodies.specs.Ascending.{IsPlace, Lists, labels_of}
use Rattle.record_bodies.specs.Directory.{label_at}
use Rattle.record_bodies.specs.Entries.{row_directory, row_label}
use Rattle.record_bodies.proofs.ListedLaws.{find_missing, lists_still, lists_taken}
use Rattle.record_bodies.proofs.RowLaws.{label_read}
use Rattle.record_bodies.proofs.directory.take_out.Goals as goal

pub returns-in-Ok-clause-listed : goal.returns-in-Ok-clause-listed
returns-in-Ok-clause-listed c =
    let rows = c.args.rows.now in
    let d = row_directory rows in
    let cells : List _ = c.args.cells.now.items in
    let at = c.in-Ok.at in
    let long : length d ≡ 1024 = length-map rows row_label ∙ c.requires.listed.are.size in
    let here : label_at d c.args.cell ≡ Some c.in-Some.row.label = label_read rows c.args.cell c.index-rows-cell.result (omega (arith, c.requires.within, c.requires.listed.are.size)) c.index-rows-cell.is ∙ ap row_label c.in-Some.is in
    let found : (at < length cells) × (label_at d (get_or cells at 0) ≡ Some c.in-Some.row.label) =
    subst (λ (l : List _). (at < length l) × (label_at d (get_or l at 0) ≡ Some c.in-Some.row.label)) c.deref.ensures.value c.in-Ok.ensures.found in
    subst (Lists (set d c.args.cell None)) (sym c.remove.ensures.items)
    (lists_taken d c.args.cell (omega (arith, long, c.requires.within)) cells at c.requires.listed.listed found.0 (c.requires.listed.are.apart (get_or cells at 0) c.args.cell c.in-Some.row.label found.1 here))

pub returns-in-Some-clause-listed : goal.returns-in-Some-clause-listed
returns-in-Some-clause-listed c =
    let rows = c.args.rows.now in
    let d = row_directory rows in
    let cells : List _ = c.args.cells.now.items in
    let here : label_at d c.args.cell ≡ Some c.in-Some.row.label = label_read rows c.args.cell c.index-rows-cell.result (omega (arith, c.requires.within, c.requires.listed.are.size)) c.index-rows-cell.is ∙ ap row_label c.in-Some.is in
    let place : IsPlace (labels_of d cells) c.in-Some.row.label c.in-Err.field-0 =
    subst (λ (l : List _). IsPlace (labels_of d l) c.in-Some.row.label c.in-Err.field-0) c.deref.ensures.value c.in-Err.ensures.missing in
    absurd (find_missing d cells c.requires.listed.listed c.in-Err.field-0 c.in-Some.row.label place c.args.cell here)

pub returns-clause-listed : goal.returns-clause-listed
returns-clause-listed c =
    let rows = c.args.rows.now in
    let d = row_directory rows in
    let long : length d ≡ 1024 = length-map rows row_label ∙ c.requires.listed.are.size in
    let free : label_at d c.args.cell ≡ None = label_read rows c.args.cell c.index-rows-cell.result (omega (arith, c.requires.within, c.requires.listed.are.size)) c.index-rows-cell.is ∙ ap row_label c.in_default.is in
    lists_still d c.args.cell (omega (arith, long, c.requires.within)) c.args.cells.now.items None free c.requires.listed.listed
