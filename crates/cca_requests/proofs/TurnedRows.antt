-- What the memory knows after a change of the registers, by the rules.
use Rattle.std.proofs.Common.{◌≡◌, ℕ, Bool, true, false, List, Option, None, Some, Result, Ok, Err, codes, refl}
use Rattle.std.specs.Prelude.{◌↔◌, IsTrue, OnOk, OnErr, if◌then◌else◌}
use Rattle.record_bodies.specs.declared.rows.Row.{Row}
use Rattle.record_bodies.specs.StoreStands.{HoldsRows}
use Rattle.record_bodies.proofs.RowTurns.{rows_turn}
use Rattle.master_registers.specs.Actions.{has_wrong_state, repeats_pattern}
use Rattle.master_registers.specs.declared.actions.Action.{Action}
use Rattle.master_registers.specs.declared.actions.Action.TheVariants.{First, Middle, Last, Clear, Set}
use Rattle.master_registers.specs.declared.faults.RegisterFault.{RegisterFault}
use Rattle.master_registers.specs.declared.faults.RegisterFault.TheVariants.{DiskFault, RegisterState, SamePattern}
use Rattle.master_registers.specs.declared.registers.Registers.{Registers}
use Rattle.cca_machine.specs.State.{State}
use Rattle.cca_machine.specs.Verdict.{Refusal, or_refused}
use Rattle.cca_requests.specs.Changes.{IsTurnedBy, change_stop, rows_after, rows_by}

abbrev verdict_by : Bool → Bool → Option Refusal
verdict_by wrong same = or_refused (if wrong then Some 25 else if same then Some 26 else None) (codes "-") None

module _ (action : Action) (rows : List (Option Row)) where
  ok_same : (held : Registers) (wrong same : Bool) (r : Refusal) → ((Ok held ≡ Err RegisterState) ↔ IsTrue wrong) → ((Ok held ≡ Err SamePattern) ↔ IsTrue same) → verdict_by wrong same ≡ Some r
      → rows_after action rows ≡ rows
  ok_same held true same r state again some = let no_way : Ok held ≡ Err RegisterState = state.1 refl in absurd (cc no_way)
  ok_same held false true r state again some = let no_way : Ok held ≡ Err SamePattern = again.1 refl in absurd (cc no_way)
  ok_same held false false r state again some = absurd (cc some)

  turned_by : (wrong same : Bool) (outcome : Result Registers RegisterFault) → ((outcome ≡ Err RegisterState) ↔ IsTrue wrong) → ((outcome ≡ Err SamePattern) ↔ IsTrue same)
      → (verdict_by wrong same ≡ None → OnOk (change_stop outcome) (rows_by outcome action rows ≡ rows_after action rows))
      × ((r : Refusal) → verdict_by wrong same ≡ Some r → OnOk (change_stop outcome) (rows_by outcome action rows ≡ rows))
  turned_by wrong same (Ok held) state again = (λ none. refl, λ r some. ok_same held wrong same r state again some)
  turned_by wrong same (Err DiskFault) state again = (λ none. tt, λ r some. tt)
  turned_by true same (Err RegisterState) state again = (λ none. absurd (cc none), λ r some. refl)
  turned_by false same (Err RegisterState) state again = (λ none. let wrongly : false ≡ true = state.0 refl in absurd (cc wrongly), λ r some. refl)
  turned_by true same (Err SamePattern) state again = (λ none. absurd (cc none), λ r some. refl)
  turned_by false true (Err SamePattern) state again = (λ none. absurd (cc none), λ r some. refl)
  turned_by false false (Err SamePattern) state again = (λ none. let wrongly : false ≡ true = again.0 refl in absurd (cc wrongly), λ r some. refl)

  pub err_kept : (outcome : Result Registers RegisterFault) → OnErr (change_stop outcome) (rows_by outcome action rows ≡ rows)
  err_kept (Ok held) = tt
  err_kept (Err DiskFault) = refl
  err_kept (Err RegisterState) = tt
  err_kept (Err SamePattern) = tt

pub is_turned : (s : State) (action : Action) (rows : List (Option Row)) (outcome : Result Registers RegisterFault) → ((outcome ≡ Err RegisterState) ↔ IsTrue (has_wrong_state action s.registers))
    → ((outcome ≡ Err SamePattern) ↔ IsTrue (repeats_pattern action s.registers)) → IsTurnedBy s action (change_stop outcome) rows (rows_by outcome action rows)
is_turned s action rows outcome state again = turned_by action rows (has_wrong_state action s.registers) (repeats_pattern action s.registers) outcome state again

-- whatever the disks hold
pub held_after : (action : Action) (outcome : Result Registers RegisterFault) (rows : List (Option Row)) (image : List ℕ) → HoldsRows rows image → HoldsRows (rows_by outcome action rows) image
held_after First (Ok held) rows image holds = holds
held_after Middle (Ok held) rows image holds = holds
held_after Last (Ok held) rows image holds = holds
held_after Clear (Ok held) rows image holds = holds
held_after Set (Ok held) rows image holds = rows_turn rows image holds
held_after action (Err cause) rows image holds = holds
