-- The rule of a token that is changed to another master key, by what the memory knows of the new register.
use Rattle.std.proofs.Common.{◌≡◌, Some, None, refl, ap, not, [], ◌∷◌, codes}
use Rattle.std.specs.Prelude.{◌≢◌}
use Rattle.cca_vectors.specs.Checks.{check}
use Rattle.key_cells.specs.Bench.{Bench}
use Rattle.master_registers.specs.Loaded.{Loaded}
use Rattle.master_registers.specs.Masters.{NewRegister, Empty, Partial, Full, is_full, state_of}
use Rattle.master_registers.specs.declared.registers.NewState.{NewState}
use Rattle.master_registers.specs.declared.registers.NewState.TheVariants as state
use Rattle.master_registers.specs.declared.registers.Registers.{Registers}
use Rattle.key_transport.specs.declared.changing.Target.{Target}
use Rattle.key_transport.specs.declared.changing.Target.TheVariants.{Current, New}
use Rattle.cca_machine.specs.State.{State}
use Rattle.cca_machine.specs.Verdict.{change_questions, first_refusal, questions, refusal}

by_register : (coming : NewRegister) (told : NewState) → told ≡ state_of coming → told ≢ state.Full
    → first_refusal (questions (codes "-") (check 25 (not (is_full coming)) ∷ []) ∷ []) ≡ Some (refusal 25 (codes "-"))
by_register Empty told is other = refl
by_register (Partial bytes) told is other = refl
by_register (Full bytes) told is other = absurd (other is)

by_full : (coming : NewRegister) (told : NewState) → told ≡ state_of coming → told ≡ state.Full
    → first_refusal (questions (codes "-") (check 25 (not (is_full coming)) ∷ []) ∷ []) ≡ None
by_full Empty told is full = cc (is, full)
by_full (Partial bytes) told is full = cc (is, full)
by_full (Full bytes) told is full = refl

-- it refuses a change to the new master key where the register isn't full
pub change_refused : (s : State) (held : Registers) (bench : Bench) (target : Target) → Loaded s.registers held bench
    → target ≡ New → held.new_state ≢ state.Full → first_refusal (change_questions s target) ≡ Some (refusal 25 (codes "-"))
change_refused s held bench Current loaded new other = cc new
change_refused s held bench New loaded new other = by_register s.registers.coming held.new_state (ap (λ (h : Registers). h.new_state) loaded.told) other

-- and nothing else
pub change_permitted : (s : State) (held : Registers) (bench : Bench) (target : Target) → Loaded s.registers held bench
    → (target ≡ New → held.new_state ≡ state.Full) → first_refusal (change_questions s target) ≡ None
change_permitted s held bench Current loaded full = refl
change_permitted s held bench New loaded full = by_full s.registers.coming held.new_state (ap (λ (h : Registers). h.new_state) loaded.told) (full refl)
