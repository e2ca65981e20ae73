-- The registers that were prepared in a bench are those that are written.
use Rattle.std.proofs.Common.{◌≡◌, ◌≤◌, ◌+◌, ◌*◌, inl, inr, ⊎_elim, ℕ, true, false, List, Result, Ok, Err, refl, sym, ap, subst, ◌∙◌, arith}
use Rattle.std.specs.Prelude.{◌↔◌, IfOk, is_err}
use Rattle.device_cells.specs.Cells.{cell_size, IsReplaced, IsReplacing}
use Rattle.device_cells.specs.Faults.{HasCause}
use Rattle.device_cells.specs.Medium.{Medium, Told, IsSettled, From, Becomes, EachImage}
use Rattle.device_cells.proofs.Media.{told_at, becomes_told, each_still, each_weaker}
use Rattle.key_cells.specs.Bench.{Bench}
use Rattle.key_cells.specs.Lease.{bench_of, holding}
use Rattle.key_cells.specs.declared.leases.Lease.{Lease}
use Rattle.master_registers.specs.Changes.{CarriesOut, ChangesModule, HasDiskCause, HoldsEither, WhenRefused}
use Rattle.master_registers.specs.Loaded.{Loaded, KeepsRest, masters_in, with_registers}
use Rattle.master_registers.specs.Masters.{Masters, IsMasters}
use Rattle.master_registers.specs.RegisterBody.{registers_body, ReadsMasters, StandsForMasters}
use Rattle.master_registers.specs.declared.faults.RegisterFault.{RegisterFault}
use Rattle.master_registers.specs.declared.faults.RegisterFault.TheVariants.{DiskFault, RegisterState, SamePattern}
use Rattle.master_registers.specs.declared.registers.Registers.{Registers}
use Rattle.master_registers.proofs.LoadedLaws.{loaded_one}

-- the registers of a bench don't hang on its body
loaded_beside : (m : Masters) (next : Registers) (bench later : Bench) (body : List ℕ) → later ≡ record bench { body = body } → Loaded m next bench → Loaded m next later
loaded_beside m next bench later body is loaded =
    let same : Loaded m next (record bench { body = body }) = record {
      valid = loaded.valid;
      placed = record { coming = loaded.placed.coming; current = loaded.placed.current; former = loaded.placed.former };
      told = loaded.told;
    } in
    subst (Loaded m next) (sym is) same

answers_loaded : (m : Masters) (next : Registers) (later : Bench) (result : Result Registers RegisterFault) → IfOk result (λ now. now ≡ next) → Loaded m next later
    → IfOk result (λ now. Loaded m now later)
answers_loaded m next later (Ok now) same loaded = subst (λ (r : Registers). Loaded m r later) (sym same) loaded
answers_loaded m next later (Err fault) same loaded = tt

-- no rule refuses it
never : (result : Result Registers RegisterFault) (P : Type 0) → WhenRefused result ⊥ → WhenRefused result P
never (Ok held) P h = h
never (Err DiskFault) P h = h
never (Err RegisterState) P h = absurd h
never (Err SamePattern) P h = absurd h

abbrev pub failed : RegisterFault → Result Registers RegisterFault
failed fault = Err fault

-- what a write of prepared registers leaves
pub changes_registers : {M : Type 0} (medium : M → Medium) (faults : M → ℕ) (m after : Masters) (next : Registers) (between : Bench) (lease later : Lease) (body : List ℕ)
    (old new : M) (result : Result Registers RegisterFault)
    → Loaded after next between
    → bench_of later ≡ record between { body = body }
    → IfOk result (λ now. now ≡ next)
    → KeepsRest lease later
    → ChangesModule m (masters_in next between) (medium old) (medium new) result
    → HasDiskCause (faults old) (faults new) result
    → WhenRefused result ⊥
    → CarriesOut medium faults m after lease later old new result
changes_registers medium faults m after next between lease later body old new result loaded is same rest changes cause unrefused =
    let beside : Loaded after next (bench_of later) = loaded_beside after next between (bench_of later) body is loaded in
    record {
      loaded = answers_loaded after next (bench_of later) result same beside;
      placed = λ _. beside.placed;
      rest = rest;
      changed = subst (λ (made : Masters). ChangesModule m made (medium old) (medium new) result) (loaded_one after next between loaded) changes;
      cause = cause;
      untouched = never result (new ≡ old) unrefused;
      lease_untouched = never result (later ≡ lease) unrefused;
    }

-- ---- registers that are written into cell 0

module _ (m next : Masters) (valid : IsMasters next) (bytes : List ℕ) (same : bytes ≡ registers_body next) (k : ℕ) (cell : k ≡ 0) where
  holds_either : (old new : List ℕ) → StandsForMasters old m → IsReplacing 0 bytes old new → HoldsEither m next old new
  holds_either old new stands replacing = record {
    outside = replacing.outside;
    others = replacing.others;
    here = ⊎_elim inl (λ is. inr (is ∙ same)) replacing.here;
    untouched = replacing.untouched;
    stands = ⊎_elim
        (λ is. inl (subst (λ (b : List ℕ). ReadsMasters b m) (sym is) stands))
        (λ is. inr (inr (is ∙ same, valid))) replacing.here;
  }

  module _ (m0 m1 : Medium) (start : Told m0 (λ image. StandsForMasters image m)) (replacing : Becomes (IsReplacing k bytes) m0 m1) (moments : EachImage m0 m1 (From (IsReplacing k bytes) m0)) where
    either_from : (c : List ℕ) → From (IsReplacing 0 bytes) m0 c → From (HoldsEither m next) m0 c
    either_from c from = (from.0, from.1, holds_either from.0 c (told_at m0.content (λ image. StandsForMasters image m) from.0 from.1 start) from.2)

    either_read : Becomes (HoldsEither m next) m0 m1
    either_read = record {
      size = replacing.size;
      told = λ c is. either_from c (subst (λ (n : ℕ). From (IsReplacing n bytes) m0 c) cell (replacing.told c is));
      still = replacing.still;
    }

    either_left : EachImage m0 m1 (From (HoldsEither m next) m0)
    either_left = each_weaker m0 m1 (From (IsReplacing k bytes) m0) (From (HoldsEither m next) m0) moments
        (λ c from. either_from c (subst (λ (n : ℕ). From (IsReplacing n bytes) m0 c) cell from))

    pub store_failed : ChangesModule m next m0 m1 (Err DiskFault)
    store_failed = record { settled = tt; replaced = tt; stands = tt; either = either_read; moments = either_left }

    pub store_done : (held : Registers) → IsSettled m1 → Becomes (IsReplaced k bytes) m0 m1 → ChangesModule m next m0 m1 (Ok held)
    store_done held settled replaced =
        let becomes : Becomes (IsReplaced 0 bytes) m0 m1 = subst (λ (n : ℕ). Becomes (IsReplaced n bytes) m0 m1) cell replaced in
        record {
          settled = settled;
          replaced = subst (λ (b : List ℕ). Becomes (IsReplaced 0 b) m0 m1) same becomes;
          stands = becomes_told m0 m1 (IsReplaced 0 bytes) (λ image. StandsForMasters image m) (λ image. StandsForMasters image next) becomes start
              (λ d c stands step. inr (step.here ∙ same, valid));
          either = either_read;
          moments = either_left;
        }

pub cause_failed : {T E : Type 0} (before now : ℕ) (r : Result T E) → HasCause before now r → is_err r ≡ true → HasDiskCause before now (Err DiskFault)
cause_failed before now (Ok x) cause failed = let wrong : false ≡ true = failed in absurd (cc)
cause_failed before now (Err e) cause failed = record { later = cause.later; failed = λ _. cause.failed; quiet = λ other. absurd (other refl) }

pub cause_done : {T E : Type 0} (before now : ℕ) (r : Result T E) → HasCause before now r → is_err r ≡ false → (held : Registers) → HasDiskCause before now (Ok held)
cause_done before now (Ok x) cause done held = record { later = cause.later; failed = λ is. absurd (cc is); quiet = λ _. cause.quiet }
cause_done before now (Err e) cause done held = let wrong : true ≡ false = done in absurd (cc)

-- cell 0 lies within the module
pub first_fits : (size k : ℕ) → 1536 ≤ size → k ≡ 0 → cell_size * (k + 1) ≤ size
first_fits size k within first = omega arith

-- a write into the cell changes the body of the lease alone
pub rest_stored : (lease between later : Lease) (body : List ℕ) → KeepsRest lease between → later ≡ holding between (record (bench_of between) { body = body }) → KeepsRest lease later
rest_stored lease between later body rest is =
    is
    ∙ ap (λ (l : Lease). holding l (record (bench_of l) { body = body })) rest
    ∙ ap (λ (l : Lease). holding lease (with_registers (bench_of lease) (bench_of l))) (sym is)

-- ---- a refusal

-- neither of the two rules
pub refuses_none : (result : Result Registers RegisterFault) (next : Registers) (fault : RegisterFault) (P : Type 0) → WhenRefused result ⊥ → (fault ≡ DiskFault → ⊥)
    → ((Ok next ≡ failed fault) ↔ P) → ((result ≡ failed fault) ↔ P)
refuses_none result next fault P unrefused other either =
    (λ is. absurd (none result fault unrefused other is), λ holds. absurd (cc (either.1 holds)))
  where
    none : (result : Result Registers RegisterFault) (fault : RegisterFault) → WhenRefused result ⊥ → (fault ≡ DiskFault → ⊥) → result ≡ Err fault → ⊥
    none (Ok held) fault unrefused other is = cc is
    none (Err DiskFault) fault unrefused other is = other (cc is)
    none (Err RegisterState) fault unrefused other is = unrefused
    none (Err SamePattern) fault unrefused other is = unrefused

refused_by : (fault : RegisterFault) (P : Type 0) → P → WhenRefused (Err fault) P
refused_by DiskFault P holds = tt
refused_by RegisterState P holds = holds
refused_by SamePattern P holds = holds

pub carries_none : {M : Type 0} (medium : M → Medium) (faults : M → ℕ) (m after : Masters) (lease later : Lease) (store : M) (fault : RegisterFault)
    → IsSettled (medium store) → Told (medium store) (λ image. StandsForMasters image m) → KeepsRest lease later → later ≡ lease → (failed fault ≡ failed DiskFault → ⊥)
    → CarriesOut medium faults m after lease later store store (Err fault)
carries_none medium faults m after lease later store fault settled start rest same other = record {
  loaded = tt;
  placed = λ is. absurd (other is);
  rest = rest;
  changed = record {
    settled = tt;
    replaced = tt;
    stands = tt;
    either = record { size = refl; told = λ c is. (c, is, either_none c (told_at (medium store).content (λ image. StandsForMasters image m) c is start)); still = λ some. some };
    moments = each_weaker (medium store) (medium store) (medium store).images (From (HoldsEither m after) (medium store)) (each_still (medium store))
        (λ c image. (c, settled.only c image, either_none c (told_at (medium store).content (λ image. StandsForMasters image m) c (settled.only c image) start)));
  };
  cause = record { later = omega arith; failed = λ is. absurd (other is); quiet = λ _. refl };
  untouched = refused_by fault (store ≡ store) refl;
  lease_untouched = refused_by fault (later ≡ lease) same;
}
  where
    either_none : (c : List ℕ) → StandsForMasters c m → HoldsEither m after c c
    either_none c stands = record {
      outside = record { size = refl; before = λ k below. refl; after = λ k above. refl };
      others = λ n away. refl;
      here = inl refl;
      untouched = λ k away. refl;
      stands = inl stands;
    }
