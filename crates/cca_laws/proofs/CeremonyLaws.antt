-- The steps of a key ceremony, one by one.
use Rattle.std.proofs.Common.{◌≡◌, ℕ, Bool, true, false, cond, not, List, [], Option, None, Some, refl, sym, ap, subst, ◌∙◌, codes, T, ◌==◌, bit_and, true≢false}
use Rattle.std.specs.Prelude.{⊤}
use Rattle.key_tokens.specs.Denotes.{Denoted}
use Rattle.master_registers.specs.Actions.{after_action, has_wrong_state, repeats_pattern}
use Rattle.master_registers.specs.Masters.{Masters, NewRegister, Empty, is_full, is_partial}
use Rattle.master_registers.specs.declared.actions.Action.{Action}
use Rattle.master_registers.specs.declared.actions.Action.TheVariants.{First, Middle, Last, Clear, Set}
use Rattle.line_service.specs.Replies.{Field}
use Rattle.verb_script.specs.Grammar.{Request, value_of}
use Rattle.verb_script.specs.declared.rows.RequestName.{RequestName}
use Rattle.verb_script.specs.declared.rows.RequestName.TheVariants.{Csnbcki, CsnbkgnOp, CsnbkgnPair, Csnbkim, Csnbpex, CsnbkpiFirst, CsnbkpiMiddle, CsnbmkpPart, CsnbmkpClear, CsnbmkpSet}
use Rattle.verb_script.specs.Named.{label_named}
use Rattle.cca_machine.specs.Act.{Effect, Show, Become, DefineRole, RemoveRole, Create, Write, Delete, ChangeLabels, delivered_with, effect, state_after as after_effect}
use Rattle.cca_machine.specs.Actions.{part_action}
use Rattle.cca_machine.specs.Session.{state_after}
use Rattle.cca_machine.specs.State.{State}
use Rattle.cca_machine.specs.Verdict.{action_points, bytes_in, first_refusal, needed_points, verb_questions}
use Rattle.cca_laws.specs.Ceremony.{SameKeys, combine_point, first_point, set_point}
use Rattle.cca_laws.specs.EachLine.{EachRequest}
use Rattle.cca_laws.specs.Points.{HoldsNone}
use Rattle.cca_laws.proofs.EffectLaws.{second_passed}
use Rattle.cca_laws.proofs.LineCases.{over_lines, permitted, refused_none}
use Rattle.cca_laws.proofs.PointLaws.{lacks_them}
use Rattle.cca_laws.proofs.UseLaws.{not_false}

-- ---- the registers become others by a step alone

-- a step that no rule refuses, and the points that it needs
pub record IsStep (before now : Masters) (needed : ℕ) : Type 0 where
  pub action : Action
  pub part : List ℕ
  pub points : needed ≡ action_points action
  pub ready : has_wrong_state action before ≡ false
  pub fresh : repeats_pattern action before ≡ false
  pub becomes : now ≡ after_action action part before

abbrev pub Becomes : State → Effect → ℕ → Type 0
Becomes s (Become m labels) needed = IsStep s.registers m needed
Becomes s _ needed = ⊤

delivers : (s : State) (field : List ℕ) (to : Option (List ℕ)) (key : Denoted) (fields : List Field) (needed : ℕ) → Becomes s (delivered_with s field to key fields) needed
delivers s field None key fields needed = tt
delivers s field (Some label) key fields needed = tt

first_passed : (a b : Bool) (one two : ℕ) → cond a (Some one) (cond b (Some two) None) ≡ None → a ≡ false
first_passed true b one two is = cc
first_passed false b one two is = refl

first_of_three : (a b c : Bool) (one two three : ℕ) → cond a (Some one) (cond b (Some two) (cond c (Some three) None)) ≡ None → a ≡ false
first_of_three true b c one two three is = cc
first_of_three false b c one two three is = refl

second_of_three : (a b c : Bool) (one two three : ℕ) → cond a (Some one) (cond b (Some two) (cond c (Some three) None)) ≡ None → b ≡ false
second_of_three true b c one two three is = cc
second_of_three false true c one two three is = cc
second_of_three false false c one two three is = refl

module _ (s : State) (drawn : List ℕ) where
  pub becomes : (name : RequestName) (r : Request) → first_refusal (verb_questions s name r) ≡ None → Becomes s (effect s drawn name r) (needed_points name r)
  becomes Csnbcki r verb = delivers s _ (label_named (value_of r (codes "to"))) _ _ _
  becomes CsnbkgnOp r verb = delivers s _ (label_named (value_of r (codes "to"))) _ _ _
  becomes CsnbkgnPair r verb = delivers s _ (label_named (value_of r (codes "to"))) _ _ _
  becomes Csnbkim r verb = delivers s _ (label_named (value_of r (codes "to"))) _ _ _
  becomes Csnbpex r verb = delivers s _ (label_named (value_of r (codes "to"))) _ _ _
  becomes CsnbkpiFirst r verb = delivers s _ (label_named (value_of r (codes "to"))) _ _ _
  becomes CsnbkpiMiddle r verb = delivers s _ (label_named (value_of r (codes "to"))) _ _ _
  becomes CsnbmkpPart r verb = record {
    action = part_action (value_of r (codes "action"));
    part = bytes_in r (codes "part");
    points = refl;
    ready = first_passed (has_wrong_state (part_action (value_of r (codes "action"))) s.registers) _ 25 26 (refused_none _ _ _ verb).0;
    fresh = second_passed (has_wrong_state (part_action (value_of r (codes "action"))) s.registers)
        (repeats_pattern (part_action (value_of r (codes "action"))) s.registers) 25 26 (refused_none _ _ _ verb).0;
    becomes = refl;
  }
  becomes CsnbmkpClear r verb = record { action = Clear; part = []; points = refl; ready = refl; fresh = refl; becomes = refl }
  becomes CsnbmkpSet r verb = record {
    action = Set;
    part = [];
    points = refl;
    ready = first_of_three (has_wrong_state Set s.registers) _ _ 25 26 27 (refused_none _ _ _ verb).0;
    fresh = second_of_three (has_wrong_state Set s.registers) (repeats_pattern Set s.registers) _ 25 26 27 (refused_none _ _ _ verb).0;
    becomes = refl;
  }
  becomes _ r verb = tt

-- a property of the registers that lasts over each step
pub registers_after : (P : Masters → Type 0)
    → ((action : Action) (part : List ℕ) (m : Masters) → has_wrong_state action m ≡ false → repeats_pattern action m ≡ false → P m → P (after_action action part m))
    → (s : State) (e : Effect) (needed : ℕ) → P s.registers → Becomes s e needed → P (after_effect s e).registers
registers_after P step s (Become m labels) needed now is = subst P (sym is.becomes) (step is.action is.part s.registers is.ready is.fresh now)
registers_after P step s (Show fields) needed now is = now
registers_after P step s (DefineRole name bits) needed now is = now
registers_after P step s (RemoveRole name) needed now is = now
registers_after P step s (Create label) needed now is = now
registers_after P step s (Write label key fields) needed now is = now
registers_after P step s (Delete label) needed now is = now
registers_after P step s (ChangeLabels a) needed now is = now

-- a property of the registers that lasts over each step but those that need one of the points
module _ (points : ℕ) (P : Masters → Type 0)
    (step : (action : Action) (part : List ℕ) (m : Masters) → bit_and (action_points action) points ≡ 0 → has_wrong_state action m ≡ false → P m
    → P (after_action action part m)) where
  by_effect : (s : State) (e : Effect) (needed : ℕ) → bit_and needed points ≡ 0 → P s.registers → Becomes s e needed → P (after_effect s e).registers
  by_effect s (Become m labels) needed none now is =
      subst P (sym is.becomes) (step is.action is.part s.registers (ap (λ n. bit_and n points) (sym is.points) ∙ none) is.ready now)
  by_effect s (Show fields) needed none now is = now
  by_effect s (DefineRole name bits) needed none now is = now
  by_effect s (RemoveRole name) needed none now is = now
  by_effect s (Create label) needed none now is = now
  by_effect s (Write label key fields) needed none now is = now
  by_effect s (Delete label) needed none now is = now
  by_effect s (ChangeLabels a) needed none now is = now

  pub over_steps : (s : State) (random : List ℕ) (lines : List (List ℕ)) → P s.registers → EachRequest (HoldsNone points) s random lines
      → P (state_after s random lines).registers
  over_steps s random lines now each =
      over_lines (λ (t : State). P t.registers) (HoldsNone points)
      (λ t drawn r here lacks permits.
      by_effect t (effect t drawn r.name r) (needed_points r.name r) (lacks_them points t drawn r lacks permits) here (becomes t drawn r.name r (permitted t drawn r permits).verb))
      s random lines now each

-- ---- the three duties

-- a number that isn't none
some_point : (n : ℕ) → T (not (n == 0)) → n ≡ 0 → ⊥
some_point n some is = subst (λ k. T (not (k == 0))) is some

abbrev with_coming : Masters → NewRegister → Masters
with_coming m c = record m { coming = c }

module _ (start : Masters) where
  abbrev Stays : Masters → Type 0
  Stays m = m ≡ start

  first_step : start.coming ≡ Empty → (action : Action) (part : List ℕ) (m : Masters) → bit_and (action_points action) first_point ≡ 0 → has_wrong_state action m ≡ false
      → Stays m → Stays (after_action action part m)
  first_step empty First part m none ready now = absurd (some_point (bit_and (action_points First) first_point) tt none)
  first_step empty Middle part m none ready now =
      absurd (true≢false (sym (not_false (is_partial m.coming) ready) ∙ ap is_partial (ap (λ (x : Masters). x.coming) now ∙ empty)))
  first_step empty Last part m none ready now =
      absurd (true≢false (sym (not_false (is_partial m.coming) ready) ∙ ap is_partial (ap (λ (x : Masters). x.coming) now ∙ empty)))
  first_step empty Clear part m none ready now = ap (with_coming m) (sym (ap (λ (x : Masters). x.coming) now ∙ empty)) ∙ now
  first_step empty Set part m none ready now =
      absurd (true≢false (sym (not_false (is_full m.coming) ready) ∙ ap is_full (ap (λ (x : Masters). x.coming) now ∙ empty)))

  abbrev IsUnset : Masters → Type 0
  IsUnset m = (is_full m.coming ≡ false) × SameKeys start m

  combine_step : (action : Action) (part : List ℕ) (m : Masters) → bit_and (action_points action) combine_point ≡ 0 → has_wrong_state action m ≡ false
      → IsUnset m → IsUnset (after_action action part m)
  combine_step First part m none ready now = (refl, record { current = now.1.current; former = now.1.former })
  combine_step Middle part m none ready now = absurd (some_point (bit_and (action_points Middle) combine_point) tt none)
  combine_step Last part m none ready now = absurd (some_point (bit_and (action_points Last) combine_point) tt none)
  combine_step Clear part m none ready now = (refl, record { current = now.1.current; former = now.1.former })
  combine_step Set part m none ready now = absurd (true≢false (sym (not_false (is_full m.coming) ready) ∙ now.0))

  set_step : (action : Action) (part : List ℕ) (m : Masters) → bit_and (action_points action) set_point ≡ 0 → has_wrong_state action m ≡ false
      → SameKeys start m → SameKeys start (after_action action part m)
  set_step First part m none ready now = record { current = now.current; former = now.former }
  set_step Middle part m none ready now = record { current = now.current; former = now.former }
  set_step Last part m none ready now = record { current = now.current; former = now.former }
  set_step Clear part m none ready now = record { current = now.current; former = now.former }
  set_step Set part m none ready now = absurd (some_point (bit_and (action_points Set) set_point) tt none)

module _ (s : State) (random : List ℕ) (lines : List (List ℕ)) where
  pub without_first : EachRequest (HoldsNone first_point) s random lines → s.registers.coming ≡ Empty → (state_after s random lines).registers ≡ s.registers
  without_first each empty = over_steps first_point (Stays s.registers) (first_step s.registers empty) s random lines refl each

  pub without_combine : EachRequest (HoldsNone combine_point) s random lines → is_full s.registers.coming ≡ false
      → (is_full (state_after s random lines).registers.coming ≡ false) × SameKeys s.registers (state_after s random lines).registers
  without_combine each unfull =
      over_steps combine_point (IsUnset s.registers) (combine_step s.registers) s random lines (unfull, record { current = refl; former = refl }) each

  pub without_set : EachRequest (HoldsNone set_point) s random lines → SameKeys s.registers (state_after s random lines).registers
  without_set each = over_steps set_point (SameKeys s.registers) (set_step s.registers) s random lines (record { current = refl; former = refl }) each
