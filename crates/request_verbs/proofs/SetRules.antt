-- The rules of SET, CLEAR and AHEAD, by what the memory knows.
use Rattle.std.proofs.Common.{◌≡◌, ℕ, Bool, true, false, List, [], ◌∷◌, Option, None, Some, refl, sym, ap, ◌∙◌, codes}
use Rattle.std.specs.Prelude.{◌||◌, if◌then◌else◌}
use Rattle.verb_rules.proofs.TokenLemmas.{keys_apart}
use Rattle.key_cells.specs.Bench.{Bench}
use Rattle.key_records.proofs.AgeLaws.{old_labels, no_old_labels}
use Rattle.record_bodies.specs.Ages.{any_old, any_ahead_entry}
use Rattle.key_records.specs.Changes.{any_under}
use Rattle.record_bodies.specs.declared.rows.Row.{Row}
use Rattle.master_registers.specs.Loaded.{Loaded, pattern_in}
use Rattle.master_registers.specs.Masters.{Masters, has_pattern_of, pattern_of_master, set_refused, same_pattern}
use Rattle.master_registers.specs.declared.patterns.Pattern.{Pattern}
use Rattle.master_registers.specs.declared.registers.Registers.{Registers}
use Rattle.verb_rules.specs.Keys.{keys_of, master_key}
use Rattle.cca_vectors.specs.Checks.{check, first_failing}
use Rattle.master_registers.specs.declared.actions.Action.TheVariants.{Set}
use Rattle.cca_machine.specs.Actions.{action_checks}
use Rattle.cca_machine.specs.State.{State}
use Rattle.cca_machine.specs.Verdict.{Refusal, action_questions, first_refusal, refusal, set_questions, clear_questions, ahead_questions, or_refused}
use Rattle.cca_machine.specs.Deciding.{IsRecorded}

-- by rules 25 and 26, and whether a label is under the old master key
abbrev pub or_old : Option ℕ → Bool → Option Refusal
or_old None true = Some (refusal 27 (codes "-"))
or_old None false = None
or_old (Some rule) old = Some (refusal rule (codes "-"))

module _ (s : State) (held : Registers) (bench : Bench) (rows : List (Option Row)) (loaded : Loaded s.registers held bench) (recorded : IsRecorded s rows) where
  former_is : pattern_in s.registers.former ≡ held.old_pattern
  former_is = ap (λ (h : Registers). h.old_pattern) (sym loaded.told)

  -- the labels that are under the old master key have its pattern
  pub old_are : (pattern : Pattern) → held.old_pattern ≡ Some pattern → any_under pattern rows ≡ any_old s.labels
  old_are pattern is = by_former s.registers.former refl (former_is ∙ is)
    where
      by_former : (former : Option (List ℕ)) → s.registers.former ≡ former → pattern_in former ≡ Some pattern → any_under pattern rows ≡ any_old s.labels
      by_former None former found = cc found
      by_former (Some x) former found =
          let same : record { bytes = pattern_of_master x } ≡ pattern = cc in
          ap (λ p. any_under p rows) (sym same)
          ∙ old_labels (keys_of s.registers) (keys_apart s.registers loaded.valid) (record { key = x; pattern = pattern_of_master x }) (ap master_key former)
          rows s.labels recorded.image recorded.keeps

  -- where the old register is empty there are none
  pub none_old : held.old_pattern ≡ None → false ≡ any_old s.labels
  none_old is = by_former s.registers.former refl (former_is ∙ is)
    where
      by_former : (former : Option (List ℕ)) → s.registers.former ≡ former → pattern_in former ≡ None → false ≡ any_old s.labels
      by_former None former found =
          sym (no_old_labels (keys_of s.registers) (keys_apart s.registers loaded.valid) (ap master_key former) rows s.labels recorded.image recorded.keeps)
      by_former (Some x) former found = cc found

abbrev is_taken : Masters → Bool
is_taken m = has_pattern_of m.coming m.current || has_pattern_of m.coming m.former

by_rules : (wrong same old : Bool) (rule : Option ℕ) → (if wrong then Some 25 else if same then Some 26 else None) ≡ rule
    → or_refused (if wrong then Some 25 else if same then Some 26 else if old then Some 27 else None) (codes "-") None ≡ or_old rule old
by_rules true same old rule is = ap (λ r. or_old r old) is
by_rules false true old rule is = ap (λ r. or_old r old) is
by_rules false false true rule is = ap (λ r. or_old r true) is
by_rules false false false rule is = ap (λ r. or_old r false) is

-- the first rule that SET breaks
pub set_refusal : (s : State) (rule : Option ℕ) → first_failing (action_checks Set s.registers) ≡ rule → first_refusal (set_questions s) ≡ or_old rule (any_old s.labels)
set_refusal s rule is = by_rules (set_refused s.registers) (same_pattern s.registers) (any_old s.labels) rule is

-- the first rule that AHEAD breaks
pub ahead_refusal : (s : State) (rule : Option ℕ) → first_failing (check 25 (set_refused s.registers) ∷ check 26 (is_taken s.registers) ∷ []) ≡ rule → first_refusal (ahead_questions s) ≡ or_old rule (any_old s.labels)
ahead_refusal s rule is = by_rules (set_refused s.registers) (is_taken s.registers) (any_old s.labels) rule is

-- and CLEAR
pub clear_refusal : (s : State) (ahead : Bool) → any_ahead_entry s.labels ≡ ahead → first_refusal (clear_questions s) ≡ (if ahead then Some (refusal 33 (codes "-")) else None)
clear_refusal s true is = ap (λ b. or_refused (if b then Some 33 else None) (codes "-") None) is
clear_refusal s false is = ap (λ b. or_refused (if b then Some 33 else None) (codes "-") None) is

parts_by : (wrong same old : Bool) → or_refused (if wrong then Some 25 else if same then Some 26 else if old then Some 27 else None) (codes "-") None ≡ None
    → (or_refused (if wrong then Some 25 else if same then Some 26 else None) (codes "-") None ≡ None) × (old ≡ false)
parts_by true same old none = cc none
parts_by false true old none = cc none
parts_by false false true none = cc none
parts_by false false false none = (refl, refl)

-- where no rule refuses SET, none refuses the action, and no label is under the old master key
pub set_parts : (s : State) → first_refusal (set_questions s) ≡ None → (first_refusal (action_questions s Set) ≡ None) × (any_old s.labels ≡ false)
set_parts s none = parts_by (set_refused s.registers) (same_pattern s.registers) (any_old s.labels) none

ahead_by : (ahead : Bool) → or_refused (if ahead then Some 33 else None) (codes "-") None ≡ None → ahead ≡ false
ahead_by true none = cc none
ahead_by false none = refl

-- where no rule refuses CLEAR, no label is ahead
pub none_ahead : (s : State) → first_refusal (clear_questions s) ≡ None → any_ahead_entry s.labels ≡ false
none_ahead s none = ahead_by (any_ahead_entry s.labels) none
