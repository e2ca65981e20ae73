use Rattle.std.proofs.Common.{List, Option, set, subst}
use Rattle.record_bodies.specs.Ascending.{Lists}
use Rattle.record_bodies.specs.Entries.{row_directory, row_label}
use Rattle.record_bodies.specs.declared.rows.Row.{Row}
use Rattle.record_bodies.proofs.RowLaws.{set_listed}
use Rattle.key_records.proofs.records.Records.set_row.Goals as goal

pub invariant_of-self : goal.invariant_of-self
invariant_of-self c =
    set_listed c.self.inside.rows.items c.args.self.now c.set_row.new.self c.args.cell c.args.row c.self.invariant.are c.self.view_is c.requires.apart
    (subst (λ (r : List (Option Row)). Lists (set (row_directory r) c.args.cell (row_label c.args.row)) c.set_row.new.self) c.deref.ensures.value
    c.set_row.ensures)

pub returns-clause-rows : goal.returns-clause-rows
returns-clause-rows c = (invariant_of-self c).are
