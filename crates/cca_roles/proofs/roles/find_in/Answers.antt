use Rattle.std.proofs.Common.{◌≡◌, ◌<◌, ◌+◌, List, Option, None, Some, true, false, length, drop, sym, ap, ◌∙◌, arith}
use Rattle.std.specs.Prelude.{if◌then◌else◌, bytes_eq}
use Rattle.std.proofs.lemmas.List.{length-map}
use Rattle.cca_roles.specs.Directory.{name_at, place_from, place_of}
use Rattle.cca_roles.specs.Roles.{names, name_of}
use Rattle.cca_roles.specs.declared.roles.Role.{Role}
use Rattle.cca_roles.proofs.DirectoryLaws.{place_step, place_end, none_from}
use Rattle.cca_roles.proofs.TableLaws.{name_read}
use Rattle.cca_roles.proofs.roles.find_in.Goals.{in-Some+else-is, in_default}
use Rattle.cca_roles.proofs.roles.find_in.Goals as goal

pub returns-then-is-clause-found : goal.returns-then-is-clause-found
unfolding place_of
returns-then-is-clause-found c =
    let places : List (Option Role) = c.args.places.now in
    let here : name_at (names places) c.loop-place.place ≡ Some c.in-Some.role.name = name_read places c.loop-place.place c.index-places-place.result c.loop-place-test.true c.index-places-place.is ∙ ap name_of c.in-Some.is in
    let hit : bytes_eq c.in-Some.role.name c.args.name.now ≡ true = sym c.is.ensures ∙ c.if-is.true in
    sym (ap (λ t. if t then Some c.loop-place.place else place_from (c.loop-place.place + 1) c.args.name.now (drop (c.loop-place.place + 1) (names places))) hit)
    ∙ sym (place_step c.args.name.now (names places) c.loop-place.place (Some c.in-Some.role.name) (omega (arith, length-map places name_of, c.loop-place-test.true)) (sym here))
    ∙ c.loop-place.invariant

pub loop-place-preserved : goal.loop-place-preserved
loop-place-preserved c =
    let places : List (Option Role) = c.args.places.now in
    let within : c.loop-place.place < length (names places) = omega (arith, length-map places name_of, c.loop-place-test.true) in
    elim c.match-places-place.branch [
      | in-Some+else-is w ↦
          let here : name_at (names places) c.loop-place.place ≡ Some w.in-Some.role.name = name_read places c.loop-place.place c.index-places-place.result c.loop-place-test.true c.index-places-place.is ∙ ap name_of w.in-Some.is in
          let miss : bytes_eq w.in-Some.role.name c.args.name.now ≡ false = sym w.is.ensures ∙ w.if-is.false in
          sym (place_step c.args.name.now (names places) c.loop-place.place (Some w.in-Some.role.name) within (sym here)
          ∙ ap (λ t. if t then Some c.loop-place.place else place_from (c.loop-place.place + 1) c.args.name.now (drop (c.loop-place.place + 1) (names places))) miss) ∙ c.loop-place.invariant
      | in_default w ↦
          let blank : c.index-places-place.result ≡ None = none_from c.index-places-place.result w.in_default.not-Some in
          let here : name_at (names places) c.loop-place.place ≡ None = name_read places c.loop-place.place c.index-places-place.result c.loop-place-test.true c.index-places-place.is ∙ ap name_of blank in
          sym (place_step c.args.name.now (names places) c.loop-place.place None within (sym here)) ∙ c.loop-place.invariant
    ]

pub returns-clause-found : goal.returns-clause-found
unfolding place_of
returns-clause-found c =
    sym (place_end c.args.name.now (names c.args.places.now) c.loop-place.place (omega (arith, length-map c.args.places.now name_of, c.loop-place-test.false))) ∙ c.loop-place.invariant
