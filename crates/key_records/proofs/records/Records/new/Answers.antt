use Rattle.std.proofs.Common.{List, Option, None, length, replicate, sym, ap, ◌∙◌}
use Rattle.record_bodies.specs.declared.rows.Row.{Row}
use Rattle.record_bodies.proofs.RowLaws.{cleared, none_listed}
use Rattle.key_records.proofs.records.Records.new.Goals as goal

pub returns : goal.returns
returns c = cleared c.in_ok-rows.rows.items c.blank.new.rows c.in_ok-rows.rows.len (c.blank.ensures ∙ ap (λ (l : List (Option Row)). replicate (length l) None) c.as_mut_slice.ensures.value) (sym c.in_ok-rows.rows.ok.0 ∙ c.in_ok-rows.ensures.len) c.in_ok-rows.rows.ok.0

pub invariant_of-result : goal.invariant_of-result
invariant_of-result c = none_listed _ _ (returns c) c.in_ok-directory.ensures
