use Rattle.std.proofs.Common.{List, Option, None, length, replicate, ap, ◌∙◌, refl}
use Rattle.record_bodies.specs.declared.rows.Row.{Row}
use Rattle.record_bodies.proofs.RowLaws.{blank_rows, cleared, none_listed}
use Rattle.key_records.proofs.records.Records.clear.Goals as goal

pub returns-clause-cleared : goal.returns-clause-cleared
returns-clause-cleared c = cleared c.self.inside.rows.items c.blank.new.rows c.self.inside.rows.len (c.blank.ensures ∙ ap (λ (l : List (Option Row)). replicate (length l) None) c.as_mut_slice.ensures.value) c.self.invariant.are.size c.self.inside.rows.ok.0

pub invariant_of-self : goal.invariant_of-self
invariant_of-self c = none_listed _ _ (returns-clause-cleared c) c.clear.ensures

pub returns-clause-rows : goal.returns-clause-rows
returns-clause-rows c = blank_rows _ 1024 refl (returns-clause-cleared c)
