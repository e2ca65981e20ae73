-- The registers in the workbench, and what the code knows of them beside it.
use Rattle.std.specs.Prelude.{◌≡◌, ℕ, Bool, false, List, Option, None, Some}
use Rattle.std.specs.Str.{bytes_eq}
use Rattle.key_cells.specs.Bench.{Bench}
use Rattle.key_cells.specs.Lease.{bench_of, holding}
use Rattle.key_cells.specs.declared.leases.Lease.{Lease}
use Rattle.key_cells.specs.Bytes.{xor}
use Rattle.master_registers.specs.Masters.{NewRegister, Empty, Partial, Full, Masters, IsMasters, new_bytes, kept_bytes, pattern_of_master, state_of}
use Rattle.master_registers.specs.RegisterBody.{StandsForMasters}
use Rattle.master_registers.specs.declared.registers.NewState.{NewState}
use Rattle.master_registers.specs.declared.registers.NewState.TheVariants as state
use Rattle.master_registers.specs.declared.registers.Registers.{Registers}
use Rattle.master_registers.specs.declared.patterns.Pattern.{Pattern}

-- the pattern of a register, where it is full
abbrev pub pattern_in : Option (List ℕ) → Option Pattern
pattern_in None = None
pattern_in (Some bytes) = Some (record { bytes = pattern_of_master bytes })

-- a register is full and has the pattern of these bytes
abbrev pub has_pattern : Option Pattern → List ℕ → Bool
has_pattern None bytes = false
has_pattern (Some pattern) bytes = bytes_eq bytes pattern.bytes

-- how full the new register is, and the patterns of the others
abbrev pub registers_of : Masters → Registers
registers_of m = record {
  new_state = state_of m.coming;
  current_pattern = pattern_in m.current;
  old_pattern = pattern_in m.former;
}

-- the places of the bench hold the registers, zeros where empty
pub record ArePlaced (m : Masters) (bench : Bench) : Type 0 where
  pub coming : bench.coming ≡ new_bytes m.coming
  pub current : bench.current ≡ kept_bytes m.current
  pub former : bench.former ≡ kept_bytes m.former

pub record Loaded (m : Masters) (held : Registers) (bench : Bench) : Type 0 where
  pub valid : IsMasters m
  pub placed : ArePlaced m bench
  pub told : held ≡ registers_of m

-- the bench with the registers and the body of another one
abbrev pub with_registers : Bench → Bench → Bench
with_registers bench other = record bench {
  coming = other.coming;
  current = other.current;
  former = other.former;
  body = other.body;
}

-- of a lease the places of the registers and the body may have changed, and nothing else
abbrev pub KeepsRest : Lease → Lease → Type 0
KeepsRest old new = new ≡ holding old (with_registers (bench_of old) (bench_of new))

-- ---- the registers that a bench holds, by what the code knows of them

abbrev pub coming_in : NewState → List ℕ → NewRegister
coming_in state.Empty bytes = Empty
coming_in state.Partial bytes = Partial bytes
coming_in state.Full bytes = Full bytes

abbrev pub kept_in : Option Pattern → List ℕ → Option (List ℕ)
kept_in None bytes = None
kept_in (Some pattern) bytes = Some bytes

abbrev pub masters_in : Registers → Bench → Masters
masters_in held bench = record {
  coming = coming_in held.new_state bench.coming;
  current = kept_in held.current_pattern bench.current;
  former = kept_in held.old_pattern bench.former;
}

-- the registers whose new one, in another state, holds its bytes XOR a key part
abbrev pub combined : NewState → List ℕ → Masters → Masters
combined state part m = record m { coming = coming_in state (xor (new_bytes m.coming) part) }

-- a bench holds the registers that the code knows of
abbrev pub IsLoaded : Registers → Bench → Type 0
IsLoaded held bench = Loaded (masters_in held bench) held bench

-- the image of a module stands for the registers that a bench holds
abbrev pub StandsForLoaded : Registers → Bench → List ℕ → Type 0
StandsForLoaded held bench image = StandsForMasters image (masters_in held bench)
