-- The registers as the body of cell 0 of the module.
use Rattle.std.specs.Prelude.{◌≡◌, ◌⊎◌, ℕ, List, ◌∷◌, ◌++◌, replicate, Option, None, Some}
use Rattle.device_cells.specs.Cells.{body}
use Rattle.master_registers.specs.Masters.{Masters, IsMasters, blank_masters, new_bytes, kept_bytes, state_of}
use Rattle.master_registers.specs.declared.registers.NewState.{NewState}
use Rattle.master_registers.specs.declared.registers.NewState.TheVariants as state

abbrev pub state_code : NewState → ℕ
state_code state.Empty = 0
state_code state.Partial = 1
state_code state.Full = 2

-- 0 empty, 1 full
abbrev pub kept_code : {A : Type 0} → Option A → ℕ
kept_code None = 0
kept_code (Some content) = 1

-- Byte 0 is X'01'. Bytes 1, 2 and 3 say how full new, current and old are. Their contents stand at 8, 32 and 56, zeros
-- where empty. Every other byte is zero.
unfoldable pub registers_body : Masters → List ℕ
registers_body m =
    1 ∷ state_code (state_of m.coming) ∷ kept_code m.current ∷ kept_code m.former ∷ replicate 4 0
    ++ new_bytes m.coming ++ kept_bytes m.current ++ kept_bytes m.former ++ replicate 112 0

abbrev pub blank_body : List ℕ
blank_body = replicate 192 0

-- a blank body stands for three empty registers, and any other for those whose table it is
abbrev pub ReadsMasters : List ℕ → Masters → Type 0
ReadsMasters bytes m =
    ((bytes ≡ blank_body) × (m ≡ blank_masters)) ⊎ ((bytes ≡ registers_body m) × IsMasters m)

-- the selected body of cell 0 reads as these registers
abbrev pub StandsForMasters : List ℕ → Masters → Type 0
StandsForMasters image m = ReadsMasters (body image 0) m

-- it reads as no registers
abbrev pub IsDamaged : List ℕ → Type 0
IsDamaged image = (m : Masters) → StandsForMasters image m → ⊥
