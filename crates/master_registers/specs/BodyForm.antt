-- Bodies of cell 0, byte by byte, for the functions that write and read them.
use Rattle.std.specs.Prelude.{◌≡◌, ◌≤◌, ◌<◌, ◌+◌, ℕ, zero, suc, List, ◌∷◌, length, replicate, Option, None, Some, slice_index, slice_range}
use Rattle.key_cells.specs.Bytes.{IsZero}
use Rattle.master_registers.specs.RegisterBody.{state_code, kept_code}
use Rattle.master_registers.specs.Masters.{NewRegister, Empty, Partial, Full, Masters, IsMaster, new_bytes, kept_bytes, pattern_of_master}
use Rattle.master_registers.specs.declared.registers.NewState.{NewState}
use Rattle.master_registers.specs.declared.registers.NewState.TheVariants as state
use Rattle.master_registers.specs.declared.registers.Registers.{Registers}
use Rattle.master_registers.specs.declared.patterns.Pattern.{Pattern}

-- the body of registers whose contents are zero
unfoldable pub states_body : Registers → List ℕ
states_body held = 1 ∷ state_code held.new_state ∷ kept_code held.current_pattern ∷ kept_code held.old_pattern ∷ replicate 188 0

abbrev pub coming_at : ℕ → List ℕ → NewRegister
coming_at zero bytes = Empty
coming_at (suc zero) bytes = Partial bytes
coming_at (suc (suc n)) bytes = Full bytes

abbrev pub kept_at : ℕ → List ℕ → Option (List ℕ)
kept_at zero bytes = None
kept_at (suc n) bytes = Some bytes

-- the registers whose states and contents stand in a body
unfoldable pub masters_at : List ℕ → Masters
masters_at body = record {
  coming = coming_at (slice_index body 1) (slice_range body 8 32);
  current = kept_at (slice_index body 2) (slice_range body 32 56);
  former = kept_at (slice_index body 3) (slice_range body 56 80);
}

-- its first four bytes are those of a table
pub record HasStates (body : List ℕ) : Type 0 where
  pub version : slice_index body 0 ≡ 1
  pub coming : slice_index body 1 ≤ 2
  pub current : slice_index body 2 ≤ 1
  pub former : slice_index body 3 ≤ 1

abbrev pub state_at : ℕ → NewState
state_at zero = state.Empty
state_at (suc zero) = state.Partial
state_at (suc (suc n)) = state.Full

abbrev pub pattern_at : ℕ → List ℕ → Option Pattern
pattern_at zero bytes = None
pattern_at (suc n) bytes = Some (record { bytes = pattern_of_master bytes })

-- the contents of each register are 24 bytes
pub record AreMasterKeys (m : Masters) : Type 0 where
  pub coming : IsMaster (new_bytes m.coming)
  pub current : IsMaster (kept_bytes m.current)
  pub former : IsMaster (kept_bytes m.former)

-- the contents from `at` on are zero, where the state byte says that the register is empty
abbrev pub IsZeroWhereEmpty : List ℕ → ℕ → ℕ → Type 0
IsZeroWhereEmpty body state at = slice_index body state ≡ 0 → IsZero (slice_range body at (at + 24))

-- 192 bytes
pub record IsBody (body : List ℕ) : Type 0 where
  pub size : length body ≡ 192
  pub each : (k : ℕ) → slice_index body k < 256

-- a body that is the table of the registers that stand in it
pub record HasBodyForm (body : List ℕ) : Type 0 where
  pub states : HasStates body
  pub gap : IsZero (slice_range body 4 8)
  pub coming : IsZeroWhereEmpty body 1 8
  pub current : IsZeroWhereEmpty body 2 32
  pub former : IsZeroWhereEmpty body 3 56
  pub rest : IsZero (slice_range body 80 192)
