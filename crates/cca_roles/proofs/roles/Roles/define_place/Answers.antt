use Rattle.std.proofs.Common.{Option, None, Some, sym, ap, ◌∙◌}
use Rattle.std.specs.Prelude.{is_some, IfSome}
use Rattle.cca_roles.specs.RoleNames.{default_name}
use Rattle.cca_roles.specs.Roles.{names}
use Rattle.cca_roles.proofs.DirectoryLaws.{apart_set, apart_same, held_at, held_nowhere, free_first}
use Rattle.cca_roles.proofs.TableLaws.{first_is_default}
use Rattle.cca_roles.proofs.roles.Roles.define_place.Goals as goal

pub returns-in-Some-clause-first : goal.returns-in-Some-clause-first
returns-in-Some-clause-first c = first_is_default c.args.self.now c.args.name.now c.in-Some.place c.in-Some.ensures.roles (sym c.in-Some.ensures.found)

pub returns-in-Some-clause-apart : goal.returns-in-Some-clause-apart
returns-in-Some-clause-apart c = apart_same (names c.args.self.now) c.in-Some.place c.args.name.now c.in-Some.ensures.roles.apart (held_at c.args.name.now (names c.args.self.now) c.in-Some.place (sym c.in-Some.ensures.found))

some_weaker : {X : Type 0} {P Q : X → Type 0} (o : Option X) → ((x : X) → P x → Q x) → IfSome o P → IfSome o Q
some_weaker None weaker holds = tt
some_weaker (Some x) weaker holds = weaker x holds

pub returns-in-None-clause-first : goal.returns-in-None-clause-first
returns-in-None-clause-first c =
    some_weaker c.free_place.result
    (λ place is first. absurd (free_first (names c.args.self.now) default_name (sym is ∙ first) c.free_place.ensures.roles.first))
    c.free_place.ensures.free

pub returns-in-None-clause-apart : goal.returns-in-None-clause-apart
returns-in-None-clause-apart c =
    some_weaker c.free_place.result
    (λ place is. apart_set (names c.args.self.now) place c.args.name.now c.free_place.ensures.roles.apart
    (held_nowhere c.args.name.now (names c.args.self.now) (ap (λ o. is_some o) (sym c.in-None.ensures.found))))
    c.free_place.ensures.free
