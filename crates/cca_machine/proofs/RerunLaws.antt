-- Runs of REENCIPHER that are stopped, and run again, end as one that isn't stopped.
use Rattle.std.proofs.Common.{◌≡◌, ℕ, zero, suc, ◌<◌, ◌≤◌, Bool, true, false, List, [], ◌∷◌, length, Option, None, Some, codes, refl, sym, ap, ◌∙◌, subst}
use Rattle.std.specs.Prelude.{◌||◌, if◌then◌else◌}
use Rattle.device_cells.specs.Cells.{body}
use Rattle.record_bodies.specs.Ages.{any_old as any_old_label, has_old_key, is_old_entry}
use Rattle.record_bodies.specs.Entries.{Entry}
use Rattle.record_bodies.specs.StoreStands.{StandsForLabels}
use Rattle.record_bodies.proofs.OneBody.{same_bodies}
use Rattle.key_tokens.specs.Denotes.{HaveDistinctPatterns}
use Rattle.record_bodies.specs.Further.{changed as changed_label, changed_entry, further, reruns, changed_count, is_changed_by, made_by}
use Rattle.record_bodies.specs.declared.actions.StoreAction.{StoreAction}
use Rattle.record_bodies.specs.declared.actions.StoreAction.TheVariants.{Renew, Ahead, Drop}
use Rattle.record_bodies.proofs.FurtherLaws.{rerun, changed_all, whole}
use Rattle.line_service.specs.Replies.{Reply, Done, Number}
use Rattle.verb_rules.specs.Keys.{keys_of}
use Rattle.cca_machine.specs.State.{State, IsStoreOf}
use Rattle.cca_machine.specs.Verdict.{Refusal, verdict, verdict_by, ahead_checks, first_refusal, questions}
use Rattle.cca_machine.specs.Act.{Outcome, ChangeLabels, effected, or_act, performed}
use Rattle.cca_machine.specs.Reruns.{reencipher_for, stopped}

-- a permitted run
run_is : (a : StoreAction) (s : State) (drawn role : List ℕ) → verdict s [] (reencipher_for a role) ≡ None
    → performed s drawn (reencipher_for a role) ≡ effected s (reencipher_for a role) (ChangeLabels a)
unfolding performed
run_is Renew s drawn role permitted = ap (λ (v : Option Refusal). or_act v s drawn (reencipher_for Renew role)) permitted
run_is Ahead s drawn role permitted = ap (λ (v : Option Refusal). or_act v s drawn (reencipher_for Ahead role)) permitted
run_is Drop s drawn role permitted = ap (λ (v : Option Refusal). or_act v s drawn (reencipher_for Drop role)) permitted

abbrev with_labels : State → List (Option Entry) → State
with_labels s labels = record s { labels = labels }

abbrev changed : ℕ → Reply
changed n = Done (Number (codes "changed") n ∷ [])

-- what holds of the label that the action makes, and of the one that it leaves
pub by_change : (P : Entry → Type 0) (a : StoreAction) (e : Entry) → P (made_by a e) → P e → P (changed_label a e)
by_change P a e made left = by_test (is_changed_by a e)
  where
    by_test : (t : Bool) → P (if t then made_by a e else e)
    by_test true = made
    by_test false = left

-- ---- the verdict on AHEAD asks which labels are under the old master key, and the run doesn't change that

old_one : (e : Option Entry) → is_old_entry (changed_entry Ahead e) ≡ is_old_entry e
old_one None = refl
old_one (Some e) = by_change (λ f. has_old_key f.what ≡ has_old_key e.what) Ahead e refl refl

old_further : (s : List (Option Entry)) (n : ℕ) → any_old_label (further Ahead s n) ≡ any_old_label s
old_further [] n = refl
old_further (e ∷ s) zero = refl
old_further (e ∷ s) (suc n) = ap (λ b. b || any_old_label (further Ahead s n)) (old_one e) ∙ ap (λ b. is_old_entry e || b) (old_further s n)

old_reruns : (s : List (Option Entry)) (stops : List ℕ) → any_old_label (reruns Ahead s stops) ≡ any_old_label s
old_reruns s [] = refl
old_reruns s (n ∷ stops) = old_reruns (further Ahead s n) stops ∙ old_further s n

pub same_verdict : (a : StoreAction) (s : State) (role stops : List ℕ) → verdict (stopped a s stops) [] (reencipher_for a role) ≡ verdict s [] (reencipher_for a role)
same_verdict Renew s role stops = refl
same_verdict Ahead s role stops = ap by_old (old_reruns s.labels stops)
  where
    by_old : Bool → Option Refusal
    by_old old =
        verdict_by s (reencipher_for Ahead role) (first_refusal (questions (codes "-") (ahead_checks s.registers old) ∷ []))
same_verdict Drop s role stops = refl

-- ---- what the runs leave

state_is : (a : StoreAction) (s : State) (role stops : List ℕ) → verdict s [] (reencipher_for a role) ≡ None
    → (performed (stopped a s stops) [] (reencipher_for a role)).state ≡ with_labels s (further a (reruns a s.labels stops) 1024)
state_is a s role stops permitted = ap (λ (o : Outcome). o.state) (run_is a (stopped a s stops) [] role (same_verdict a s role stops ∙ permitted))

pub stop_leaves : (a : StoreAction) (s : State) (drawn role : List ℕ) (cell : ℕ) → verdict s [] (reencipher_for a role) ≡ None
    → (performed s drawn (reencipher_for a role)).between cell ≡ stopped a s (cell ∷ [])
stop_leaves a s drawn role cell permitted = ap (λ (o : Outcome). o.between cell) (run_is a s drawn role permitted)

pub rerun_leaves : (a : StoreAction) (s : State) (role stops : List ℕ) → length s.labels ≤ 1024 → verdict s [] (reencipher_for a role) ≡ None
    → (performed (stopped a s stops) [] (reencipher_for a role)).state ≡ (performed s [] (reencipher_for a role)).state
rerun_leaves a s role stops fits permitted =
    state_is a s role stops permitted
    ∙ (ap (with_labels s) (rerun a s.labels stops 1024 fits) ∙ sym (state_is a s role [] permitted))

-- no operand, so no warning
reply_is : (a : StoreAction) (s : State) (role : List ℕ) → (effected s (reencipher_for a role) (ChangeLabels a)).reply ≡ changed (changed_count a s.labels)
reply_is Renew s role = refl
reply_is Ahead s role = refl
reply_is Drop s role = refl

pub rerun_counts : (a : StoreAction) (s : State) (role stops : List ℕ) → verdict s [] (reencipher_for a role) ≡ None
    → (performed (stopped a s stops) [] (reencipher_for a role)).reply ≡ changed (changed_count a (reruns a s.labels stops))
rerun_counts a s role stops permitted =
    ap (λ (o : Outcome). o.reply) (run_is a (stopped a s stops) [] role (same_verdict a s role stops ∙ permitted))
    ∙ reply_is a (stopped a s stops) role

pub none_left : (a : StoreAction) (s : State) (role : List ℕ) → length s.labels ≤ 1024 → verdict s [] (reencipher_for a role) ≡ None
    → (performed (performed s [] (reencipher_for a role)).state [] (reencipher_for a role)).reply ≡ changed 0
none_left a s role fits permitted =
    ap (λ (t : State). (performed t [] (reencipher_for a role)).reply) (state_is a s role [] permitted)
    ∙ (rerun_counts a s role (1024 ∷ []) permitted ∙ ap changed (changed_all a s.labels 1024 fits))

pub same_bytes : (a : StoreAction) (s : State) (role stops one other : List ℕ) (cell : ℕ) → HaveDistinctPatterns (keys_of s.registers)
    → verdict s [] (reencipher_for a role) ≡ None → IsStoreOf (performed s [] (reencipher_for a role)).state one
    → IsStoreOf (performed (stopped a s stops) [] (reencipher_for a role)).state other → cell < 1024 → body one cell ≡ body other cell
same_bytes a s role stops one other cell apart permitted first second within =
    let begun : IsStoreOf (with_labels s (further a s.labels 1024)) one = subst (λ (t : State). IsStoreOf t one) (state_is a s role [] permitted) first in
    let again : IsStoreOf (with_labels s (further a (reruns a s.labels stops) 1024)) other =
    subst (λ (t : State). IsStoreOf t other) (state_is a s role stops permitted) second in
    same_bodies (keys_of s.registers) apart one other (further a s.labels 1024) cell begun
    (subst (StandsForLabels (keys_of s.registers) other) (rerun a s.labels stops 1024 (whole a (keys_of s.registers) one s.labels begun)) again) within
