-- What CSUAACI leaves of the roles, and what every other request leaves of them.
use Rattle.std.proofs.Common.{◌≡◌, ◌≢◌, ℕ, false, List, Option, None, Some, refl, sym, ap, subst, ◌∙◌, codes}
use Rattle.std.specs.Prelude.{⊤}
use Rattle.cca_roles.specs.RoleNames.{default_name}
use Rattle.cca_roles.specs.Roles.{AreRoles, after_define, after_remove, define_refused, remove_refused}
use Rattle.cca_roles.specs.declared.roles.Role.{Role}
use Rattle.key_tokens.specs.Denotes.{Denoted}
use Rattle.line_service.specs.Replies.{Field}
use Rattle.verb_script.specs.Grammar.{Request, value_of}
use Rattle.verb_script.specs.Named.{label_named}
use Rattle.verb_script.specs.declared.rows.RequestName.{RequestName}
use Rattle.verb_script.specs.declared.rows.RequestName.TheVariants.{Csnbcki, CsnbkgnOp, CsnbkgnPair, Csnbkim, Csnbpex, CsnbkpiFirst, CsnbkpiMiddle, CsuaaciDefine, CsuaaciRemove}
use Rattle.cca_machine.specs.Act.{Effect, Show, Become, DefineRole, RemoveRole, Create, Write, Delete, ChangeLabels, delivered_with, effect, performed, state_after}
use Rattle.cca_machine.specs.State.{State}
use Rattle.cca_machine.specs.Verdict.{Refusal, first_refusal, verb_questions, verdict}
use Rattle.role_laws.specs.RolePoints.{ChangesRoleAlone, points_spelled}
use Rattle.role_laws.proofs.Requests.{one_passed, permitted_state, refused, verb_passed}
use Rattle.role_laws.proofs.RoleChanges.{Changed, defined_change, defined_table, removed_change, removed_table}

-- ---- what no rule refused

define_passed : (s : State) (drawn : List ℕ) (r : Request) → r.name ≡ CsuaaciDefine → verdict s drawn r ≡ None
    → define_refused (value_of r (codes "name")) s.roles ≡ false
define_passed s drawn r is permits =
    one_passed (define_refused (value_of r (codes "name")) s.roles) (codes "name")
    (ap (λ (name : RequestName). first_refusal (verb_questions s name r)) (sym is) ∙ verb_passed s drawn r permits)

remove_passed : (s : State) (drawn : List ℕ) (r : Request) → r.name ≡ CsuaaciRemove → verdict s drawn r ≡ None
    → remove_refused (value_of r (codes "name")) s.roles ≡ false
remove_passed s drawn r is permits =
    one_passed (remove_refused (value_of r (codes "name")) s.roles) (codes "name")
    (ap (λ (name : RequestName). first_refusal (verb_questions s name r)) (sym is) ∙ verb_passed s drawn r permits)

-- ---- the state after a request

defined_state : (s : State) (drawn : List ℕ) (r : Request) → r.name ≡ CsuaaciDefine → verdict s drawn r ≡ None
    → (performed s drawn r).state ≡ record s { roles = after_define (value_of r (codes "name")) (points_spelled r) s.roles }
defined_state s drawn r is permits =
    permitted_state s drawn r permits ∙ ap (λ (name : RequestName). state_after s (effect s drawn name r)) is

removed_state : (s : State) (drawn : List ℕ) (r : Request) → r.name ≡ CsuaaciRemove → verdict s drawn r ≡ None
    → (performed s drawn r).state ≡ record s { roles = after_remove (value_of r (codes "name")) s.roles }
removed_state s drawn r is permits =
    permitted_state s drawn r permits ∙ ap (λ (name : RequestName). state_after s (effect s drawn name r)) is

-- ---- every other request

abbrev SparesRoles : Effect → Type 0
SparesRoles (DefineRole name points) = ⊥
SparesRoles (RemoveRole name) = ⊥
SparesRoles (Show fields) = ⊤
SparesRoles (Become m labels) = ⊤
SparesRoles (Create label) = ⊤
SparesRoles (Write label key fields) = ⊤
SparesRoles (Delete label) = ⊤
SparesRoles (ChangeLabels a) = ⊤

delivery_spares : (s : State) (field : List ℕ) (to : Option (List ℕ)) (key : Denoted) (fields : List Field) → SparesRoles (delivered_with s field to key fields)
delivery_spares s field None key fields = tt
delivery_spares s field (Some label) key fields = tt

spared : (s : State) (drawn : List ℕ) (name : RequestName) (r : Request) → name ≢ CsuaaciDefine → name ≢ CsuaaciRemove → SparesRoles (effect s drawn name r)
spared s drawn Csnbcki r one two = delivery_spares s _ (label_named (value_of r (codes "to"))) _ _
spared s drawn CsnbkgnOp r one two = delivery_spares s _ (label_named (value_of r (codes "to"))) _ _
spared s drawn CsnbkgnPair r one two = delivery_spares s _ (label_named (value_of r (codes "to"))) _ _
spared s drawn Csnbkim r one two = delivery_spares s _ (label_named (value_of r (codes "to"))) _ _
spared s drawn Csnbpex r one two = delivery_spares s _ (label_named (value_of r (codes "to"))) _ _
spared s drawn CsnbkpiFirst r one two = delivery_spares s _ (label_named (value_of r (codes "to"))) _ _
spared s drawn CsnbkpiMiddle r one two = delivery_spares s _ (label_named (value_of r (codes "to"))) _ _
spared s drawn CsuaaciDefine r one two = absurd (one refl)
spared s drawn CsuaaciRemove r one two = absurd (two refl)
spared s drawn _ r one two = tt

same_roles : (s : State) (e : Effect) → SparesRoles e → (state_after s e).roles ≡ s.roles
same_roles s (DefineRole name points) spares = absurd spares
same_roles s (RemoveRole name) spares = absurd spares
same_roles s (Show fields) spares = refl
same_roles s (Become m labels) spares = refl
same_roles s (Create label) spares = refl
same_roles s (Write label key fields) spares = refl
same_roles s (Delete label) spares = refl
same_roles s (ChangeLabels a) spares = refl

pub others : (s : State) (drawn : List ℕ) (r : Request) → r.name ≢ CsuaaciDefine → r.name ≢ CsuaaciRemove → (performed s drawn r).state.roles ≡ s.roles
others s drawn r one two = by_verdict (verdict s drawn r) refl
  where
    by_verdict : (v : Option Refusal) → verdict s drawn r ≡ v → (performed s drawn r).state.roles ≡ s.roles
    by_verdict None is =
        ap (λ (t : State). t.roles) (permitted_state s drawn r is)
        ∙ same_roles s (effect s drawn r.name r) (spared s drawn r.name r one two)
    by_verdict (Some x) is = ap (λ (t : State). t.roles) (refused s drawn r x is)

-- ---- the laws

-- the roles of a state become others
alone : (s : State) (name : List ℕ) (points : Option ℕ) (now : List (Option Role)) → Changed s.roles now name points
    → ChangesRoleAlone s (record s { roles = now }) name points
alone s name points now changed = record { role = changed.role; others = changed.others; registers = refl; labels = refl }

pub defined : (s : State) (drawn : List ℕ) (r : Request) → AreRoles s.roles → r.name ≡ CsuaaciDefine → verdict s drawn r ≡ None
    → ChangesRoleAlone s (performed s drawn r).state (value_of r (codes "name")) (Some (points_spelled r))
defined s drawn r are is permits =
    let name : List ℕ = value_of r (codes "name") in
    subst (λ (now : State). ChangesRoleAlone s now name (Some (points_spelled r))) (sym (defined_state s drawn r is permits))
    (alone s name (Some (points_spelled r)) (after_define name (points_spelled r) s.roles)
    (defined_change s.roles name (points_spelled r) are (define_passed s drawn r is permits)))

pub removed : (s : State) (drawn : List ℕ) (r : Request) → AreRoles s.roles → r.name ≡ CsuaaciRemove → verdict s drawn r ≡ None
    → ChangesRoleAlone s (performed s drawn r).state (value_of r (codes "name")) None
removed s drawn r are is permits =
    let name : List ℕ = value_of r (codes "name") in
    subst (λ (now : State). ChangesRoleAlone s now name None) (sym (removed_state s drawn r is permits))
    (alone s name None (after_remove name s.roles) (removed_change s.roles name are (remove_passed s drawn r is permits)))

pub table : (s : State) (drawn : List ℕ) (r : Request) → AreRoles s.roles → (r.name ≡ CsuaaciRemove → value_of r (codes "name") ≢ default_name)
    → AreRoles (performed s drawn r).state.roles
table s drawn r are named = by_verdict (verdict s drawn r) refl
  where
    name : List ℕ
    name = value_of r (codes "name")

    by_name : (n : RequestName) → r.name ≡ n → verdict s drawn r ≡ None → AreRoles (performed s drawn r).state.roles
    by_name CsuaaciDefine is permits =
        subst (λ (now : State). AreRoles now.roles) (sym (defined_state s drawn r is permits))
        (defined_table s.roles name (points_spelled r) are (define_passed s drawn r is permits))
    by_name CsuaaciRemove is permits =
        subst (λ (now : State). AreRoles now.roles) (sym (removed_state s drawn r is permits))
        (removed_table s.roles name are (named is) (remove_passed s drawn r is permits))
    by_name _ is permits = subst AreRoles (sym (others s drawn r (λ one. cc (is, one)) (λ two. cc (is, two)))) are

    by_verdict : (v : Option Refusal) → verdict s drawn r ≡ v → AreRoles (performed s drawn r).state.roles
    by_verdict None is = by_name r.name refl is
    by_verdict (Some x) is = subst (λ (now : State). AreRoles now.roles) (sym (refused s drawn r x is)) are
