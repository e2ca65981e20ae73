use Rattle.std.proofs.Common.{◌≡◌, List, Option, sym, subst, ◌∙◌, arith}
use Rattle.std.proofs.lemmas.List.{length-map}
use Rattle.record_bodies.specs.Directory.{held_count}
use Rattle.record_bodies.specs.Entries.{row_directory, row_label}
use Rattle.record_bodies.specs.declared.rows.Row.{Row}
use Rattle.record_bodies.proofs.RankLaws.{count_bound, count_listed}
use Rattle.key_records.proofs.records.Records.count.Goals as goal

pub returns-clause-count : goal.returns-clause-count
returns-clause-count c =
    subst (λ (r : List (Option Row)). c.count.result ≡ held_count (row_directory r)) c.self.view_is
    (c.count.ensures ∙ sym (count_listed (row_directory c.self.inside.rows.items) c.self.inside.directory c.self.invariant.listed))

pub returns-clause-most : goal.returns-clause-most
returns-clause-most c =
    let rows : List (Option Row) = c.self.inside.rows.items in
    omega (arith, c.count.ensures, count_listed (row_directory rows) c.self.inside.directory c.self.invariant.listed, count_bound (row_directory rows), length-map rows row_label, c.self.invariant.are.size)
