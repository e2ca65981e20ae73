use Rattle.std.proofs.Common.{◌≡◌, List, Option, None, Some, sym, ap, ◌∙◌, arith}
use Rattle.std.specs.Prelude.{not}
use Rattle.std.proofs.lemmas.List.{length-map}
use Rattle.cca_roles.specs.Directory.{name_at, free_place}
use Rattle.cca_roles.specs.Roles.{names, name_of}
use Rattle.cca_roles.specs.declared.roles.Role.{Role}
use Rattle.cca_roles.proofs.DirectoryLaws.{none_of, some_of, free_here, free_step, free_end}
use Rattle.cca_roles.proofs.TableLaws.{name_read}
use Rattle.cca_roles.proofs.roles.free_in.Goals as goal

pub returns-then-is_none-clause-free : goal.returns-then-is_none-clause-free
unfolding free_place
returns-then-is_none-clause-free c =
    let places : List (Option Role) = c.args.places.now in
    let blank : c.index-places-place.result ≡ None = none_of c.index-places-place.result (c.is_none.ensures ∙ ap not c.if-is_none.true) in
    let here : name_at (names places) c.loop-place.place ≡ None = name_read places c.loop-place.place c.index-places-place.result c.loop-place-test.true c.index-places-place.is ∙ ap name_of blank in
    sym (free_here (names places) c.loop-place.place (omega (arith, length-map places name_of, c.loop-place-test.true)) here) ∙ c.loop-place.invariant

pub loop-place-preserved : goal.loop-place-preserved
loop-place-preserved c =
    let places : List (Option Role) = c.args.places.now in
    let held = some_of c.index-places-place.result (c.is_none.ensures ∙ ap not c.if-is_none.false) in
    let here : name_at (names places) c.loop-place.place ≡ Some held.0.name = name_read places c.loop-place.place c.index-places-place.result c.loop-place-test.true c.index-places-place.is ∙ ap name_of held.1 in
    sym (free_step (names places) c.loop-place.place held.0.name (omega (arith, length-map places name_of, c.loop-place-test.true)) here) ∙ c.loop-place.invariant

pub returns-clause-none : goal.returns-clause-none
unfolding free_place
returns-clause-none c _ =
    let places : List (Option Role) = c.args.places.now in
    sym c.loop-place.invariant ∙ free_end (names places) c.loop-place.place (omega (arith, length-map places name_of, c.loop-place-test.false)) ∙ omega (arith, c.loop-place-test.false, c.loop-place.auto.place-end)
