use Rattle.std.proofs.Common.{◌≡◌, List, None, length, set, subst, ◌∙◌, ap, arith, sym}
use Rattle.std.proofs.lemmas.List.{get_or-set_same, length-map, length-set}
use Rattle.record_bodies.specs.Directory.{AreApart}
use Rattle.record_bodies.specs.Ascending.{Lists}
use Rattle.record_bodies.specs.Rows.{AreListed}
use Rattle.record_bodies.specs.Entries.{row_directory, row_label}
use Rattle.record_bodies.proofs.ListedLaws.{fresh_after}
use Rattle.record_bodies.proofs.RankLaws.{count_free, count_listed}
use Rattle.record_bodies.proofs.directory.Directory.set_row.Goals as goal

pub put_in-requires-clause-fresh : goal.put_in-requires-clause-fresh
put_in-requires-clause-fresh c =
    let d = row_directory c.args.rows.now in
    let long : length d ≡ 1024 = length-map c.args.rows.now row_label ∙ c.requires.listed.are.size in
    fresh_after d c.args.cell (omega (arith, long, c.requires.within)) c.in-Some.row.label
    (subst AreApart (ap (λ o. set d c.args.cell (row_label o)) c.in-Some.is) c.requires.apart)

pub put_in-requires-clause-room : goal.put_in-requires-clause-room
put_in-requires-clause-room c =
    let d = row_directory c.args.rows.now in
    let left : List _ = set d c.args.cell None in
    let long : length d ≡ 1024 = length-map c.args.rows.now row_label ∙ c.requires.listed.are.size in
    let all : length left ≡ 1024 = length-set d c.args.cell None ∙ long in
    let free = count_free left c.args.cell (omega (arith, all, c.requires.within)) (get_or-set_same d c.args.cell None None (omega (arith, long, c.requires.within))) in
    omega (arith, free, all, count_listed left c.take_out.new.cells.items c.take_out.ensures.listed, c.take_out.ensures.capacity, c.self.invariant)

pub offset_bounds-rows-cell : goal.offset_bounds-rows-cell
offset_bounds-rows-cell c = omega arith

pub bounds-rows-cell : goal.bounds-rows-cell
bounds-rows-cell c = omega arith

pub have_one_label-requires : goal.have_one_label-requires
have_one_label-requires c = tt

pub take_out-requires-clause-within : goal.take_out-requires-clause-within
take_out-requires-clause-within c = c.requires.within

pub take_out-requires-clause-listed : goal.take_out-requires-clause-listed
take_out-requires-clause-listed c = subst (λ l. AreListed c.args.rows.now l) (sym c.self.view_is) c.requires.listed

pub put_in-requires-clause-within : goal.put_in-requires-clause-within
put_in-requires-clause-within c = omega (arith, c.requires.listed.are.size, c.requires.within)

pub put_in-requires-clause-listed : goal.put_in-requires-clause-listed
put_in-requires-clause-listed c = c.take_out.ensures.listed

pub returns-in-Some : goal.returns-in-Some
returns-in-Some c = subst (λ o. Lists (set (row_directory c.args.rows.now) c.args.cell (row_label o)) c.put_in.new.cells.items) (sym c.in-Some.is) c.put_in.ensures.listed
