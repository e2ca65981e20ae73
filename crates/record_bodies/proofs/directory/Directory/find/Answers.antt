use Rattle.std.proofs.Common.{◌≡◌, ◌≤◌, ◌<◌, ◌+◌, ◌*◌, ◌^◌, ℕ, List, Some, length, get_or, sym, ap, subst, ◌∙◌, arith}
use Rattle.std.proofs.lemmas.List.{get_or_read}
use Rattle.record_bodies.specs.Ascending.{IsPlace, Lists, labels_of}
use Rattle.record_bodies.specs.Directory.{held_count, label_at}
use Rattle.record_bodies.specs.Entries.{row_directory}
use Rattle.record_bodies.proofs.ListedLaws.{find_found, find_missing, cell_none}
use Rattle.record_bodies.proofs.RankLaws.{count_listed}
use Rattle.record_bodies.proofs.directory.Directory.find.Goals as goal

pub returns-in-Ok-clause-found : goal.returns-in-Ok-clause-found
returns-in-Ok-clause-found g c =
    let cells : List ℕ = c.self.inside.cells.items in
    let at : ℕ = c.in-Ok.at in
    let d = row_directory c.args.rows.now in
    let value : c.deref.result.now ≡ cells = c.deref.ensures.value in
    let found = c.in-Ok.ensures.found in
    let within : at < length cells = omega (arith, found.0, ap (λ (l : List ℕ). length l) value) in
    let held : label_at d (get_or cells at 0) ≡ Some c.args.label.now = ap (λ (l : List ℕ). label_at d (get_or l at 0)) (sym value) ∙ found.1 in
    ap (λ (n : ℕ). Some n) (get_or_read cells at c.index.result.now within c.index.ensures 0)
    ∙ sym (find_found d cells at c.args.label.now c.requires.are.apart held)

few : (d : List _) (cells slice now : List ℕ) (steps : ℕ) → Lists d now → cells ≡ now → slice ≡ cells → 2 ^ steps ≤ 2 * length slice + 1 → 2 ^ steps ≤ 2 * held_count d + 1
few d cells slice now steps lists view value is =
    subst (λ (k : ℕ). 2 ^ steps ≤ 2 * k + 1) (ap (λ (l : List ℕ). length l) (value ∙ view) ∙ sym (count_listed d now lists)) is

pub returns-in-Ok-clause-few : goal.returns-in-Ok-clause-few
returns-in-Ok-clause-few g c =
    few (row_directory c.args.rows.now) c.self.inside.cells.items c.deref.result.now c.args.self.now _
    c.requires.listed c.self.view_is c.deref.ensures.value c.search.ensures.few

pub returns-in-Err-clause-found : goal.returns-in-Err-clause-found
returns-in-Err-clause-found g c =
    let d = row_directory c.args.rows.now in
    let value : c.deref.result.now ≡ c.args.self.now = c.deref.ensures.value ∙ c.self.view_is in
    let place : IsPlace (labels_of d c.args.self.now) c.args.label.now c.in-Err.field-0 = subst (λ (l : List ℕ). IsPlace (labels_of d l) c.args.label.now c.in-Err.field-0) value c.in-Err.ensures.missing in
    sym (cell_none c.args.label.now d (find_missing d c.args.self.now c.requires.listed c.in-Err.field-0 c.args.label.now place))

pub returns-in-Err-clause-few : goal.returns-in-Err-clause-few
returns-in-Err-clause-few g c =
    few (row_directory c.args.rows.now) c.self.inside.cells.items c.deref.result.now c.args.self.now _
    c.requires.listed c.self.view_is c.deref.ensures.value c.search.ensures.few
