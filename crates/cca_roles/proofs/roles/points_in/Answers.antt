use Rattle.std.proofs.Common.{◌≡◌, ◌+◌, List, Option, None, Some, true, false, drop, sym, ap, ◌∙◌}
use Rattle.std.specs.Prelude.{if◌then◌else◌, bytes_eq}
use Rattle.std.proofs.lemmas.List.{get_or_read}
use Rattle.cca_roles.specs.Roles.{points_of, role_at}
use Rattle.cca_roles.specs.declared.roles.Role.{Role}
use Rattle.cca_roles.proofs.DirectoryLaws.{none_from}
use Rattle.cca_roles.proofs.TableLaws.{points_step, points_end}
use Rattle.cca_roles.proofs.roles.points_in.Goals.{in-Some+else-is, in_default}
use Rattle.cca_roles.proofs.roles.points_in.Goals as goal

pub returns-then-is : goal.returns-then-is
returns-then-is c =
    let places : List (Option Role) = c.args.places.now in
    let here : role_at places c.loop-place.place ≡ Some c.in-Some.role = sym (get_or_read places c.loop-place.place c.index-places-place.result c.loop-place-test.true c.index-places-place.is None) ∙ c.in-Some.is in
    let hit : bytes_eq c.in-Some.role.name c.args.name.now ≡ true = sym c.is.ensures ∙ c.if-is.true in
    sym (ap (λ t. if t then Some c.in-Some.role.points else points_of c.args.name.now (drop (c.loop-place.place + 1) places)) hit)
    ∙ sym (points_step c.args.name.now places c.loop-place.place (Some c.in-Some.role) c.loop-place-test.true (sym here))
    ∙ c.loop-place.invariant

pub loop-place-preserved : goal.loop-place-preserved
loop-place-preserved c =
    let places : List (Option Role) = c.args.places.now in
    elim c.match-places-place.branch [
      | in-Some+else-is w ↦
          let here : role_at places c.loop-place.place ≡ Some w.in-Some.role = sym (get_or_read places c.loop-place.place c.index-places-place.result c.loop-place-test.true c.index-places-place.is None) ∙ w.in-Some.is in
          let miss : bytes_eq w.in-Some.role.name c.args.name.now ≡ false = sym w.is.ensures ∙ w.if-is.false in
          sym (points_step c.args.name.now places c.loop-place.place (Some w.in-Some.role) c.loop-place-test.true (sym here)
          ∙ ap (λ t. if t then Some w.in-Some.role.points else points_of c.args.name.now (drop (c.loop-place.place + 1) places)) miss) ∙ c.loop-place.invariant
      | in_default w ↦
          let blank : c.index-places-place.result ≡ None = none_from c.index-places-place.result w.in_default.not-Some in
          let here : role_at places c.loop-place.place ≡ None = sym (get_or_read places c.loop-place.place c.index-places-place.result c.loop-place-test.true c.index-places-place.is None) ∙ blank in
          sym (points_step c.args.name.now places c.loop-place.place None c.loop-place-test.true (sym here)) ∙ c.loop-place.invariant
    ]

pub returns : goal.returns
returns c = sym (points_end c.args.name.now c.args.places.now c.loop-place.place c.loop-place-test.false) ∙ c.loop-place.invariant
