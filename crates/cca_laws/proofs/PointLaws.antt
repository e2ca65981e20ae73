-- Which access control points each effect needs.
use Rattle.std.proofs.Common.{◌≡◌, ◌⊎◌, inl, inr, ⊎_elim, ℕ, true, false, List, Option, None, Some, refl, sym, ap, subst, ◌∙◌, codes, bit_and, bit_or, T, ◌==◌, not, eqb-true}
use Rattle.std.specs.Prelude.{⊤}
use Rattle.std.specs.Int.Bits.{and_zero_l}
use Rattle.std.proofs.lemmas.Nat.{and_assoc, and_comm}
use Rattle.cca_roles.specs.Points.{includes}
use Rattle.cca_roles.specs.declared.roles.Role.{Role}
use Rattle.cca_roles.specs.Roles.{points_of}
use Rattle.record_bodies.specs.Entries.{Entry}
use Rattle.key_tokens.specs.Denotes.{Denoted}
use Rattle.master_registers.specs.Masters.{Masters}
use Rattle.master_registers.specs.declared.actions.Action.{Action}
use Rattle.master_registers.specs.declared.actions.Action.TheVariants.{First, Middle, Last, Clear, Set}
use Rattle.line_service.specs.Replies.{Field}
use Rattle.verb_script.specs.Grammar.{Request, value_of}
use Rattle.verb_script.specs.declared.rows.RequestName.{RequestName}
use Rattle.verb_script.specs.declared.rows.RequestName.TheVariants.{Csnbcki, CsnbkgnOp, CsnbkgnPair, Csnbkim, Csnbpex, CsnbkpiFirst, CsnbkpiMiddle, CsnbmkpPart, CsnbmkpClear, CsnbmkpSet}
use Rattle.verb_script.specs.Named.{label_named}
use Rattle.cca_machine.specs.Act.{Effect, Become, DefineRole, RemoveRole, Create, Write, Delete, ChangeLabels, delivered_with, effect, or_act, performed, refused, state_after as after_effect}
use Rattle.cca_machine.specs.Actions.{part_action}
use Rattle.cca_machine.specs.Points.{point}
use Rattle.cca_machine.specs.State.{State}
use Rattle.cca_machine.specs.Verdict.{Refusal, action_points, held_points, needed_points, points_for, refusal, verdict}
use Rattle.cca_machine.specs.Session.{state_after}
use Rattle.cca_laws.specs.EachLine.{EachRequest}
use Rattle.cca_laws.specs.Points.{HoldsNone, NobodyHolds, role_point, ceremony_points, label_points}
use Rattle.cca_laws.proofs.LineCases.{Always, after, always, over_lines, permitted}

-- ---- the refusals

unheld : (s : State) (random : List ℕ) (r : Request) → held_points s r ≡ None → verdict s random r ≡ Some (refusal 3 (codes "-"))
unheld s random r none = rw none refl

lacking_one : (s : State) (random : List ℕ) (r : Request) (held : ℕ) → held_points s r ≡ Some held → includes held (needed_points r.name r) ≡ false
    → verdict s random r ≡ Some (refusal 4 (codes "-"))
lacking_one s random r held is lacking = rw (is, lacking) refl

pub no_role : (s : State) (drawn : List ℕ) (r : Request) → held_points s r ≡ None → performed s drawn r ≡ refused s (refusal 3 (codes "-"))
unfolding performed
no_role s drawn r none = ap (λ (v : Option Refusal). or_act v s drawn r) (unheld s drawn r none)

pub no_point : (s : State) (drawn : List ℕ) (r : Request) (held : ℕ) → held_points s r ≡ Some held → includes held (needed_points r.name r) ≡ false
    → performed s drawn r ≡ refused s (refusal 4 (codes "-"))
unfolding performed
no_point s drawn r held is lacking = ap (λ (v : Option Refusal). or_act v s drawn r) (lacking_one s drawn r held is lacking)

-- ---- the points that an effect needs

-- what is needed has one of the points
abbrev pub Needs : ℕ → ℕ → Type 0
Needs needed points = T (not (bit_and needed points == 0))

-- a role that holds none of some points lacks what needs one of them
shares_none : (held needed points : ℕ) → includes held needed ≡ true → bit_and held points ≡ 0 → bit_and needed points ≡ 0
shares_none held needed points has none =
    ap (λ n. bit_and n points) (sym (eqb-true (bit_and held needed) needed has))
    ∙ (and_assoc points held needed
    ∙ (ap (bit_and held) (and_comm needed points)
    ∙ (sym (and_assoc needed held points)
    ∙ (ap (λ n. bit_and n needed) none ∙ and_zero_l needed))))

pub never : (needed points : ℕ) → bit_and needed points ≡ 0 → Needs needed points → ⊥
never needed points none needs = subst (λ n. T (not (n == 0))) none needs

-- by what it may change
abbrev RolesNeed : Effect → ℕ → Type 0
RolesNeed (DefineRole name points) needed = Needs needed role_point
RolesNeed (RemoveRole name) needed = Needs needed role_point
RolesNeed _ needed = ⊤

abbrev RegistersNeed : State → Effect → ℕ → Type 0
RegistersNeed s (Become m labels) needed = Needs needed ceremony_points
RegistersNeed s _ needed = ⊤

abbrev LabelsNeed : State → Effect → ℕ → Type 0
LabelsNeed s (Become m labels) needed = (labels ≡ s.labels) ⊎ Needs needed label_points
LabelsNeed s (Create label) needed = Needs needed label_points
LabelsNeed s (Write label key fields) needed = Needs needed label_points
LabelsNeed s (Delete label) needed = Needs needed label_points
LabelsNeed s (ChangeLabels a) needed = Needs needed label_points
LabelsNeed s _ needed = ⊤

-- ---- each request needs them

delivers_role : (s : State) (field : List ℕ) (to : Option (List ℕ)) (key : Denoted) (fields : List Field) (needed : ℕ)
    → RolesNeed (delivered_with s field to key fields) needed
delivers_role s field None key fields needed = tt
delivers_role s field (Some label) key fields needed = tt

roles_need : (s : State) (drawn : List ℕ) (name : RequestName) (r : Request) → RolesNeed (effect s drawn name r) (needed_points name r)
roles_need s drawn Csnbcki r = delivers_role s _ (label_named (value_of r (codes "to"))) _ _ _
roles_need s drawn CsnbkgnOp r = delivers_role s _ (label_named (value_of r (codes "to"))) _ _ _
roles_need s drawn CsnbkgnPair r = delivers_role s _ (label_named (value_of r (codes "to"))) _ _ _
roles_need s drawn Csnbkim r = delivers_role s _ (label_named (value_of r (codes "to"))) _ _ _
roles_need s drawn Csnbpex r = delivers_role s _ (label_named (value_of r (codes "to"))) _ _ _
roles_need s drawn CsnbkpiFirst r =
    delivers_role s _ (label_named (value_of r (codes "to"))) _ _ _
roles_need s drawn CsnbkpiMiddle r =
    delivers_role s _ (label_named (value_of r (codes "to"))) _ _ _
roles_need s drawn _ r = tt

delivers_register : (s : State) (field : List ℕ) (to : Option (List ℕ)) (key : Denoted) (fields : List Field) (needed : ℕ)
    → RegistersNeed s (delivered_with s field to key fields) needed
delivers_register s field None key fields needed = tt
delivers_register s field (Some label) key fields needed = tt

action_needs : (a : Action) → Needs (action_points a) ceremony_points
action_needs First = tt
action_needs Middle = tt
action_needs Last = tt
action_needs Clear = tt
action_needs Set = tt

registers_need : (s : State) (drawn : List ℕ) (name : RequestName) (r : Request) → RegistersNeed s (effect s drawn name r) (needed_points name r)
registers_need s drawn Csnbcki r = delivers_register s _ (label_named (value_of r (codes "to"))) _ _ _
registers_need s drawn CsnbkgnOp r = delivers_register s _ (label_named (value_of r (codes "to"))) _ _ _
registers_need s drawn CsnbkgnPair r = delivers_register s _ (label_named (value_of r (codes "to"))) _ _ _
registers_need s drawn Csnbkim r = delivers_register s _ (label_named (value_of r (codes "to"))) _ _ _
registers_need s drawn Csnbpex r = delivers_register s _ (label_named (value_of r (codes "to"))) _ _ _
registers_need s drawn CsnbkpiFirst r =
    delivers_register s _ (label_named (value_of r (codes "to"))) _ _ _
registers_need s drawn CsnbkpiMiddle r =
    delivers_register s _ (label_named (value_of r (codes "to"))) _ _ _
registers_need s drawn CsnbmkpPart r = action_needs (part_action (value_of r (codes "action")))
registers_need s drawn _ r = tt

delivers_label : (s : State) (field : List ℕ) (to : Option (List ℕ)) (key : Denoted) (fields : List Field) (needed : ℕ)
    → Needs (bit_or needed (point (codes "KRW"))) label_points → LabelsNeed s (delivered_with s field to key fields) (bit_or needed (points_for to))
delivers_label s field None key fields needed needs = tt
delivers_label s field (Some label) key fields needed needs = needs

labels_need : (s : State) (drawn : List ℕ) (name : RequestName) (r : Request) → LabelsNeed s (effect s drawn name r) (needed_points name r)
labels_need s drawn Csnbcki r = delivers_label s _ (label_named (value_of r (codes "to"))) _ _ (point (codes "CKI")) tt
labels_need s drawn CsnbkgnOp r = delivers_label s _ (label_named (value_of r (codes "to"))) _ _ (point (codes "KGN_OP")) tt
labels_need s drawn CsnbkgnPair r = delivers_label s _ (label_named (value_of r (codes "to"))) _ _ (point (codes "KGN_PAIR")) tt
labels_need s drawn Csnbkim r = delivers_label s _ (label_named (value_of r (codes "to"))) _ _ (point (codes "KIM")) tt
labels_need s drawn Csnbpex r = delivers_label s _ (label_named (value_of r (codes "to"))) _ _ (point (codes "PEX")) tt
labels_need s drawn CsnbkpiFirst r =
    delivers_label s _ (label_named (value_of r (codes "to"))) _ _ (point (codes "KPI_FIRST")) tt
labels_need s drawn CsnbkpiMiddle r =
    delivers_label s _ (label_named (value_of r (codes "to"))) _ _ (point (codes "KPI_COMBINE")) tt
labels_need s drawn CsnbmkpPart r = inl refl
labels_need s drawn CsnbmkpClear r = inl refl
labels_need s drawn CsnbmkpSet r = inr tt
labels_need s drawn _ r = tt

-- ---- what stays

-- a role that holds none of some points lacks those that a permitted request needs
pub lacks_them : (points : ℕ) (s : State) (random : List ℕ) (r : Request) → HoldsNone points s r → verdict s random r ≡ None
    → bit_and (needed_points r.name r) points ≡ 0
lacks_them points s random r none permits =
    let p = permitted s random r permits in shares_none p.held (needed_points r.name r) points p.points (none p.held p.role)

pub roles_stay : (s : State) (drawn : List ℕ) (r : Request) → HoldsNone role_point s r → verdict s drawn r ≡ None → (after s drawn r).roles ≡ s.roles
roles_stay s drawn r none permits = by_effect (effect s drawn r.name r) (roles_need s drawn r.name r)
  where
    refuses : Needs (needed_points r.name r) role_point → ⊥
    refuses = never (needed_points r.name r) role_point (lacks_them role_point s drawn r none permits)

    by_effect : (e : Effect) → RolesNeed e (needed_points r.name r) → (after_effect s e).roles ≡ s.roles
    by_effect (DefineRole name points) needs = absurd (refuses needs)
    by_effect (RemoveRole name) needs = absurd (refuses needs)
    by_effect _ needs = refl

pub registers_stay : (s : State) (drawn : List ℕ) (r : Request) → HoldsNone ceremony_points s r → verdict s drawn r ≡ None
    → (after s drawn r).registers ≡ s.registers
registers_stay s drawn r none permits = by_effect (effect s drawn r.name r) (registers_need s drawn r.name r)
  where
    by_effect : (e : Effect) → RegistersNeed s e (needed_points r.name r) → (after_effect s e).registers ≡ s.registers
    by_effect (Become m labels) needs = absurd (never (needed_points r.name r) ceremony_points (lacks_them ceremony_points s drawn r none permits) needs)
    by_effect _ needs = refl

pub labels_stay : (s : State) (drawn : List ℕ) (r : Request) → HoldsNone label_points s r → verdict s drawn r ≡ None → (after s drawn r).labels ≡ s.labels
labels_stay s drawn r none permits = by_effect (effect s drawn r.name r) (labels_need s drawn r.name r)
  where
    refuses : Needs (needed_points r.name r) label_points → ⊥
    refuses = never (needed_points r.name r) label_points (lacks_them label_points s drawn r none permits)

    by_effect : (e : Effect) → LabelsNeed s e (needed_points r.name r) → (after_effect s e).labels ≡ s.labels
    by_effect (Become m labels) needs = ⊎_elim (λ (same : labels ≡ s.labels). same) (λ (n : Needs (needed_points r.name r) label_points). absurd (refuses n)) needs
    by_effect (Create label) needs = absurd (refuses needs)
    by_effect (Write label key fields) needs = absurd (refuses needs)
    by_effect (Delete label) needs = absurd (refuses needs)
    by_effect (ChangeLabels a) needs = absurd (refuses needs)
    by_effect _ needs = refl

-- ---- over lines

abbrev HasRoles : List (Option Role) → State → Type 0
HasRoles roles s = s.roles ≡ roles

pub roles_over : (s : State) (random : List ℕ) (lines : List (List ℕ)) → EachRequest (HoldsNone role_point) s random lines
    → (state_after s random lines).roles ≡ s.roles
roles_over s random lines each =
    over_lines (HasRoles s.roles) (HoldsNone role_point) (λ t drawn r same none permits. roles_stay t drawn r none permits ∙ same) s random lines refl each

abbrev HasRegisters : Masters → State → Type 0
HasRegisters m s = s.registers ≡ m

pub registers_over : (s : State) (random : List ℕ) (lines : List (List ℕ)) → EachRequest (HoldsNone ceremony_points) s random lines
    → (state_after s random lines).registers ≡ s.registers
registers_over s random lines each =
    over_lines (HasRegisters s.registers) (HoldsNone ceremony_points) (λ t drawn r same none permits. registers_stay t drawn r none permits ∙ same) s random lines refl each

abbrev HasLabels : List (Option Entry) → State → Type 0
HasLabels labels s = s.labels ≡ labels

pub labels_over : (s : State) (random : List ℕ) (lines : List (List ℕ)) → EachRequest (HoldsNone label_points) s random lines
    → (state_after s random lines).labels ≡ s.labels
labels_over s random lines each =
    over_lines (HasLabels s.labels) (HoldsNone label_points) (λ t drawn r same none permits. labels_stay t drawn r none permits ∙ same) s random lines refl each

nobody_holds : (points : ℕ) (roles : List (Option Role)) (s : State) (r : Request) → s.roles ≡ roles → NobodyHolds points roles → HoldsNone points s r
nobody_holds points roles s r same nobody held is =
    nobody (value_of r (codes "role")) held (ap (λ (x : List (Option Role)). points_of (value_of r (codes "role")) x) (sym same) ∙ is)

pub nobody_over : (s : State) (random : List ℕ) (lines : List (List ℕ)) → NobodyHolds role_point s.roles → (state_after s random lines).roles ≡ s.roles
nobody_over s random lines nobody =
    over_lines (HasRoles s.roles) Always
    (λ t drawn r same any permits. roles_stay t drawn r (nobody_holds role_point s.roles t r same nobody) permits ∙ same)
    s random lines refl (always s random lines)
