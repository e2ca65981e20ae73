use Rattle.std.proofs.Common.{◌≡◌, ◌<◌, ℕ, List, Option, Some, length, get_or, sym, ap, subst, ◌∙◌, arith}
use Rattle.std.specs.Prelude.{IsSome}
use Rattle.record_bodies.specs.Directory.{held_count, label_at}
use Rattle.record_bodies.specs.Entries.{row_directory}
use Rattle.record_bodies.specs.Rank.{IsNth}
use Rattle.record_bodies.specs.declared.rows.Row.{Row}
use Rattle.record_bodies.proofs.ListedLaws.{among_at, text_of}
use Rattle.record_bodies.proofs.RankLaws.{count_listed, nth_listed}
use Rattle.key_records.proofs.records.Records.label_at.Goals as goal

pub cell_at-requires : goal.cell_at-requires
cell_at-requires c =
    omega (arith, c.requires, ap (λ (r : List (Option Row)). held_count (row_directory r)) c.self.view_is, count_listed (row_directory c.self.inside.rows.items) c.self.inside.directory c.self.invariant.listed)

pub label_of-requires : goal.label_of-requires
label_of-requires c =
    let rows : List (Option Row) = c.self.inside.rows.items in
    let cells : List ℕ = c.self.inside.directory in
    let within : c.args.index < length cells = omega (arith, c.requires, ap (λ (r : List (Option Row)). held_count (row_directory r)) c.self.view_is, count_listed (row_directory rows) cells c.self.invariant.listed) in
    let held : IsSome (label_at (row_directory rows) (get_or cells c.args.index 0)) = (c.self.invariant.listed.held (get_or cells c.args.index 0)).0 (among_at cells c.args.index within) in
    subst (λ (r : List (Option Row)). IsSome (label_at (row_directory r) c.cell_at.result)) (sym c.deref.ensures.value)
    (subst (λ (n : ℕ). IsSome (label_at (row_directory rows) n)) (sym c.cell_at.ensures) held)

pub returns : goal.returns
returns c =
    let rows : List (Option Row) = c.self.inside.rows.items in
    let cells : List ℕ = c.self.inside.directory in
    let index : ℕ = c.args.index in
    let label : List ℕ = c.label_of.result.now in
    let within : index < length cells = omega (arith, c.requires, ap (λ (r : List (Option Row)). held_count (row_directory r)) c.self.view_is, count_listed (row_directory rows) cells c.self.invariant.listed) in
    let held : label_at (row_directory rows) (get_or cells index 0) ≡ Some label =
    ap (label_at (row_directory rows)) (sym c.cell_at.ensures) ∙ ap (λ (r : List (Option Row)). label_at (row_directory r) c.cell_at.result) (sym c.deref.ensures.value) ∙ c.label_of.ensures in
    subst (λ (r : List (Option Row)). IsNth index (row_directory r) label) c.self.view_is
    (subst (IsNth index (row_directory rows)) (text_of (row_directory rows) cells index label within held) (nth_listed (row_directory rows) cells c.self.invariant.listed index within))
