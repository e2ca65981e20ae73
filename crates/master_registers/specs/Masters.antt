-- The three master key registers with their clear contents, and what each step of a key ceremony makes of them.
use Rattle.std.specs.Prelude.{◌≢◌, ℕ, Bool, true, false, not, List, ◌∷◌, take, replicate, Option, None, Some, bytes_eq, ⊤}
use Rattle.sha1.specs.Sha1.{sha1}
use Rattle.key_cells.specs.Bytes.{AreBytes, xor}
use Rattle.master_registers.specs.declared.registers.NewState.{NewState}
use Rattle.master_registers.specs.declared.registers.NewState.TheVariants as state

-- the new register: empty, or partly full or full with 24 bytes
pub data NewRegister : Type 0 where
  Empty : NewRegister
  Partial : List ℕ → NewRegister
  Full : List ℕ → NewRegister

-- how full it is
abbrev pub state_of : NewRegister → NewState
state_of Empty = state.Empty
state_of (Partial bytes) = state.Partial
state_of (Full bytes) = state.Full

-- the new, the current and the old master key register
pub record Masters : Type 0 where
  pub coming : NewRegister
  pub current : Option (List ℕ)
  pub former : Option (List ℕ)

-- three empty registers
abbrev pub blank_masters : Masters
blank_masters = record { coming = Empty; current = None; former = None }

-- the verification pattern of a master key: the first 8 bytes of SHA-1 over X'01' and its 24 bytes
unfoldable pub pattern_of_master : List ℕ → List ℕ
pattern_of_master bytes = take 8 (sha1 (1 ∷ bytes))

-- the 24 bytes of the new register, zeros where it is empty
abbrev pub new_bytes : NewRegister → List ℕ
new_bytes Empty = replicate 24 0
new_bytes (Partial bytes) = bytes
new_bytes (Full bytes) = bytes

-- the 24 bytes of the current or the old register, zeros where it is empty
abbrev pub kept_bytes : Option (List ℕ) → List ℕ
kept_bytes None = replicate 24 0
kept_bytes (Some bytes) = bytes

-- 24 bytes
abbrev pub IsMaster : List ℕ → Type 0
IsMaster bytes = AreBytes 24 bytes

-- old is full only where current is, and then their patterns differ
abbrev pub AreApart : Option (List ℕ) → Option (List ℕ) → Type 0
AreApart current None = ⊤
AreApart None (Some old) = ⊥
AreApart (Some current) (Some old) = pattern_of_master current ≢ pattern_of_master old

-- registers that a module can hold
pub record IsMasters (m : Masters) : Type 0 where
  pub coming : IsMaster (new_bytes m.coming)
  pub current : IsMaster (kept_bytes m.current)
  pub former : IsMaster (kept_bytes m.former)
  pub apart : AreApart m.current m.former

-- ---- the steps

-- FIRST: new is partly full with the part
abbrev pub after_first : List ℕ → Masters → Masters
after_first part m = record m { coming = Partial part }

-- MIDDLE: new is partly full with its bytes XOR the part
abbrev pub after_middle : List ℕ → Masters → Masters
after_middle part m = record m { coming = Partial (xor (new_bytes m.coming) part) }

-- LAST: new is full with its bytes XOR the part
abbrev pub after_last : List ℕ → Masters → Masters
after_last part m = record m { coming = Full (xor (new_bytes m.coming) part) }

-- CLEAR: new is empty
abbrev pub cleared : Masters → Masters
cleared m = record m { coming = Empty }

-- SET: current moves to old, new moves to current, and new is empty. Where current is empty, old is empty too.
abbrev pub after_set : Masters → Masters
after_set m = record { coming = Empty; current = Some (new_bytes m.coming); former = m.current }

-- ---- the tests

abbrev pub is_empty : NewRegister → Bool
is_empty Empty = true
is_empty (Partial bytes) = false
is_empty (Full bytes) = false

abbrev pub is_partial : NewRegister → Bool
is_partial Empty = false
is_partial (Partial bytes) = true
is_partial (Full bytes) = false

abbrev pub is_full : NewRegister → Bool
is_full Empty = false
is_full (Partial bytes) = false
is_full (Full bytes) = true

-- FIRST is refused where new isn't empty
abbrev pub first_refused : Masters → Bool
first_refused m = not (is_empty m.coming)

-- MIDDLE and LAST are refused where new isn't partly full
abbrev pub combine_refused : Masters → Bool
combine_refused m = not (is_partial m.coming)

-- SET is refused where new isn't full
abbrev pub set_refused : Masters → Bool
set_refused m = not (is_full m.coming)

abbrev pub has_pattern_of : NewRegister → Option (List ℕ) → Bool
has_pattern_of Empty current = false
has_pattern_of (Partial bytes) current = false
has_pattern_of (Full bytes) None = false
has_pattern_of (Full bytes) (Some current) =
    bytes_eq (pattern_of_master current) (pattern_of_master bytes)

-- SET is refused, where new is full, if current is full and has the same pattern
abbrev pub same_pattern : Masters → Bool
same_pattern m = has_pattern_of m.coming m.current
