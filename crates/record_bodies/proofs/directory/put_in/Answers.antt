use Rattle.std.proofs.Common.{◌≡◌, ◌<◌, List, Some, length, get_or, set, sym, subst, ◌∙◌, ap, arith}
use Rattle.std.specs.Prelude.{is_ok, if◌then◌else◌}
use Rattle.std.specs.List.{insert}
use Rattle.std.proofs.lemmas.List.{length-map}
use Rattle.record_bodies.specs.Ascending.{AreAscending, IsPlace, Lists, labels_of}
use Rattle.record_bodies.specs.Directory.{label_at}
use Rattle.record_bodies.specs.Entries.{row_directory, row_label}
use Rattle.record_bodies.proofs.ListedLaws.{left_ascending, lists_put, not_left}
use Rattle.record_bodies.proofs.directory.put_in.Goals as goal

pub search-requires-clause-ascending : goal.search-requires-clause-ascending
search-requires-clause-ascending c =
    let d = row_directory c.args.rows.now in
    let within : c.args.cell < length d = omega (arith, c.requires.within, length-map c.args.rows.now row_label) in
    subst (λ (l : List _). AreAscending (labels_of d l)) (sym c.deref.ensures.value)
    (left_ascending d c.args.cell within c.args.cells.now.items c.requires.listed)

pub returns-in-Ok-clause-listed : goal.returns-in-Ok-clause-listed
returns-in-Ok-clause-listed c =
    let d = row_directory c.args.rows.now in
    let within : c.args.cell < length d = omega (arith, c.requires.within, length-map c.args.rows.now row_label) in
    let value : c.deref.result.now ≡ c.args.cells.now.items = c.deref.ensures.value in
    let found = subst (λ (l : List _). (c.in-Ok.field-0 < length l) × (label_at d (get_or l c.in-Ok.field-0 0) ≡ Some c.args.label.now)) value c.in-Ok.ensures.found in
    absurd (not_left d c.args.cell within c.args.cells.now.items c.in-Ok.field-0 c.args.label.now c.requires.listed found.0 found.1 c.requires.fresh)

pub returns-clause-listed : goal.returns-clause-listed
returns-clause-listed c =
    let d = row_directory c.args.rows.now in
    let cells : List _ = c.args.cells.now.items in
    let within : c.args.cell < length d = omega (arith, c.requires.within, length-map c.args.rows.now row_label) in
    let place : IsPlace (labels_of d cells) c.args.label.now c.in-Err.at =
    subst (λ (l : List _). IsPlace (labels_of d l) c.args.label.now c.in-Err.at) c.deref.ensures.value c.in-Err.ensures.missing in
    let items : c.insert.new.self.items ≡ insert cells c.in-Err.at c.args.cell = c.insert.ensures.items ∙ ap (λ r. if is_ok r then insert cells c.in-Err.at c.args.cell else cells) c.unwrap.ensures in
    subst (Lists (set d c.args.cell (Some c.args.label.now))) (sym items) (lists_put d c.args.cell within cells c.in-Err.at c.args.label.now c.requires.listed place)
