-- The registers that the code finds in the bench and on the module are those of the state.
use Rattle.std.proofs.Common.{◌≡◌, ℕ, List, Option, None, Some, refl, sym, ap, subst, ◌∙◌}
use Rattle.key_cells.specs.Bench.{Bench}
use Rattle.key_cells.specs.Lease.{bench_of}
use Rattle.key_cells.specs.declared.leases.Lease.{Lease}
use Rattle.device_cells.specs.Cells.{body}
use Rattle.device_cells.specs.Medium.{Medium, Keeps, Told}
use Rattle.device_cells.proofs.Media.{told_at, told_from}
use Rattle.line_service.specs.Answering.{Holds}
use Rattle.master_registers.specs.Masters.{NewRegister, Empty, Partial, Full, Masters, new_bytes, kept_bytes, state_of}
use Rattle.master_registers.specs.Loaded.{Loaded, masters_in, coming_in, kept_in, pattern_in, registers_of}
use Rattle.master_registers.specs.RegisterBody.{StandsForMasters, IsDamaged}
use Rattle.master_registers.specs.declared.registers.Registers.{Registers}
use Rattle.master_registers.proofs.BodyLaws.{reads_one}
use Rattle.cca_machine.specs.State.{State, IsModuleOf}
use Rattle.cca_machine.specs.Deciding.{ChangesPlaces, with_places}

coming_is : (r : NewRegister) (bytes : List ℕ) → bytes ≡ new_bytes r → coming_in (state_of r) bytes ≡ r
coming_is Empty bytes is = refl
coming_is (Partial b) bytes is = ap Partial is
coming_is (Full b) bytes is = ap Full is

kept_is : (r : Option (List ℕ)) (bytes : List ℕ) → bytes ≡ kept_bytes r → kept_in (pattern_in r) bytes ≡ r
kept_is None bytes is = refl
kept_is (Some b) bytes is = ap Some is

abbrev made : NewRegister → Option (List ℕ) → Option (List ℕ) → Masters
made coming current former = record { coming = coming; current = current; former = former }

same_masters : (m n : Masters) → m.coming ≡ n.coming → m.current ≡ n.current → m.former ≡ n.former → m ≡ n
same_masters m n coming current former =
    ap (λ x. made x m.current m.former) coming ∙ (ap (λ x. made n.coming x m.former) current ∙ ap (λ x. made n.coming n.current x) former)

-- the registers that the code finds in the bench
pub masters_are : (m : Masters) (held : Registers) (bench : Bench) → Loaded m held bench → m ≡ masters_in held bench
masters_are m held bench loaded =
    let found : masters_in (registers_of m) bench ≡ m =
    same_masters (masters_in (registers_of m) bench) m (coming_is m.coming bench.coming loaded.placed.coming) (kept_is m.current bench.current loaded.placed.current)
    (kept_is m.former bench.former loaded.placed.former) in
    sym found ∙ ap (λ (h : Registers). masters_in h bench) (sym loaded.told)

-- a verb's places are none of the registers'
pub loaded_places : (m : Masters) (held : Registers) (bench other : Bench) → Loaded m held bench → Loaded m held (with_places bench other)
loaded_places m held bench other loaded = record {
  valid = loaded.valid;
  placed = record { coming = loaded.placed.coming; current = loaded.placed.current; former = loaded.placed.former };
  told = loaded.told;
}

pub loaded_after : (m : Masters) (held : Registers) (old new : Lease) → ChangesPlaces old new → Loaded m held (bench_of old) → Loaded m held (bench_of new)
loaded_after m held old new places loaded =
    subst (λ (b : Bench). Loaded m held b) (sym (ap bench_of places)) (loaded_places m held (bench_of old) (bench_of new) loaded)

-- the registers that were loaded are those of the state
pub registers_found : (m0 m1 : Medium) (s : State) (found : Masters) → Holds m0 (IsModuleOf s) → Keeps m0 m1
    → Told m1 (λ image. StandsForMasters image found) → s.registers ≡ found
registers_found m0 m1 s found holds keeps told =
    let one : StandsForMasters holds.image found = told_at m1.content (λ image. StandsForMasters image found) holds.image (keeps.content ∙ holds.told) told in
    reads_one (body holds.image 0) s.registers found holds.has.registers one

pub undamaged : (m : Medium) (s : State) → Holds m (IsModuleOf s) → Told m IsDamaged → ⊥
undamaged m s holds damaged = told_at m.content IsDamaged holds.image holds.told damaged s.registers holds.has.registers

-- so registers that were loaded aren't damaged
pub told_sound : (m0 m1 : Medium) (found : Masters) (P : Type 0) → Keeps m0 m1 → Told m1 (λ image. StandsForMasters image found)
    → Told m0 (λ image. IsDamaged image → P)
told_sound m0 m1 found P keeps stands =
    told_from m0.content (λ image. IsDamaged image → P)
    (λ image is broken. absurd (broken found (told_at m1.content (λ c. StandsForMasters c found) image (keeps.content ∙ is) stands)))

pub told_then : (m : Medium) {P : Type 0} → P → Told m (λ image. IsDamaged image → P)
told_then m {P} has = told_from m.content (λ image. IsDamaged image → P) (λ image is broken. has)
