use Rattle.std.proofs.Common.{◌≡◌, ◌∙◌, ◌++◌, List, Option, length, drop, map, take, ap, sym, subst}
use Rattle.std.proofs.lemmas.List.{length-map}
use Rattle.record_bodies.specs.Entries.{turned}
use Rattle.record_bodies.specs.Rows.{AreListed}
use Rattle.record_bodies.specs.declared.rows.Row.{Row}
use Rattle.record_bodies.proofs.RowLaws.{sliced}
use Rattle.key_records.proofs.TurnedLaws.{listed_turned}
use Rattle.key_records.proofs.records.Records.turn.Goals as goal

rows_are : (items slice new : List (Option Row)) (len : _) → new ≡ map turned slice → slice ≡ items → len ≡ length items → take len (new ++ drop (length new) items) ≡ map turned items
rows_are items slice new len is same long =
    let all : new ≡ map turned items = is ∙ ap (map turned) same in
    sliced items new len (ap length all ∙ length-map items turned) long ∙ all

pub invariant_of-self : goal.invariant_of-self
invariant_of-self c =
    let items : List (Option Row) = c.self.inside.rows.items in
    let are = rows_are items c.as_mut_slice.result.now c.turn_rows.new.rows c.self.inside.rows.len c.turn_rows.ensures c.as_mut_slice.ensures.value c.self.inside.rows.ok.0 in
    subst (λ (r : List (Option Row)). AreListed r c.self.inside.directory) (sym are) (listed_turned items c.self.inside.directory c.self.invariant)
