use Rattle.std.proofs.Common.{List, Option, subst}
use Rattle.record_bodies.specs.Directory.{AreApart}
use Rattle.record_bodies.specs.Entries.{row_directory, row_label}
use Rattle.record_bodies.specs.Rows.{AreRows}
use Rattle.record_bodies.specs.declared.rows.Row.{Row}
use Rattle.cca_roles.proofs.DirectoryLaws.{fresh_apart}
use Rattle.key_records.proofs.records.Records.put.Goals as goal

pub returns-then-holds_label_of-clause-rows : goal.returns-then-holds_label_of-clause-rows
returns-then-holds_label_of-clause-rows c = subst AreRows c.self.view_is c.self.invariant.are

pub set_row-requires-clause-apart : goal.set_row-requires-clause-apart
set_row-requires-clause-apart c =
    fresh_apart (row_label c.args.row) (row_directory c.args.self.now) c.args.cell (subst (λ (r : List (Option Row)). AreApart (row_directory r)) c.self.view_is c.self.invariant.are.apart) (c.holds_label_of.ensures.fresh c.if-holds_label_of.false)
