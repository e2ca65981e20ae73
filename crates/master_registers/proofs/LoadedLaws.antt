-- The registers that are loaded are told by what the code knows of them.
use Rattle.std.proofs.Common.{◌≡◌, ℕ, List, Option, None, Some, refl, ap, ◌∙◌}
use Rattle.key_cells.specs.Bench.{Bench}
use Rattle.master_registers.specs.Masters.{NewRegister, Empty, Partial, Full, Masters, new_bytes, kept_bytes, state_of}
use Rattle.master_registers.specs.Loaded.{pattern_in, Loaded, coming_in, kept_in, masters_in}
use Rattle.master_registers.specs.declared.registers.Registers.{Registers}

coming_told : (r : NewRegister) → coming_in (state_of r) (new_bytes r) ≡ r
coming_told Empty = refl
coming_told (Partial bytes) = refl
coming_told (Full bytes) = refl

kept_told : (r : Option (List ℕ)) → kept_in (pattern_in r) (kept_bytes r) ≡ r
kept_told None = refl
kept_told (Some bytes) = refl

abbrev made : NewRegister → Option (List ℕ) → Option (List ℕ) → Masters
made coming current former = record { coming = coming; current = current; former = former }

-- the registers that are loaded are those of the bench, so that a caller can name them by what it passes
pub loaded_one : (m : Masters) (held : Registers) (bench : Bench) → Loaded m held bench → masters_in held bench ≡ m
loaded_one m held bench loaded =
    ap (λ (h : Registers). masters_in h bench) loaded.told
    ∙ ap (λ bytes. made (coming_in (state_of m.coming) bytes) (kept_in (pattern_in m.current) bench.current) (kept_in (pattern_in m.former) bench.former)) loaded.placed.coming
    ∙ ap (λ r. made r (kept_in (pattern_in m.current) bench.current) (kept_in (pattern_in m.former) bench.former)) (coming_told m.coming)
    ∙ ap (λ bytes. made m.coming (kept_in (pattern_in m.current) bytes) (kept_in (pattern_in m.former) bench.former)) loaded.placed.current
    ∙ ap (λ r. made m.coming r (kept_in (pattern_in m.former) bench.former)) (kept_told m.current)
    ∙ ap (λ bytes. made m.coming m.current (kept_in (pattern_in m.former) bytes)) loaded.placed.former
    ∙ ap (λ r. made m.coming m.current r) (kept_told m.former)
