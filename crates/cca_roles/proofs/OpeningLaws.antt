-- Opening a module: the first cell, one cell more, the end, and a cell that is refused.
use Rattle.std.proofs.Common.{◌≡◌, ◌≤◌, ◌<◌, ◌*◌, inl, inr, ⊎_elim, ℕ, true, false, Result, Ok, Err, zero, suc, ◌+◌, List, length, get_or, set, replicate, Option, None, Some, refl, sym, ap, subst, ◌∙◌, arith}
use Rattle.std.proofs.lemmas.Bool.{cases_eq, cases_lt}
use Rattle.std.proofs.lemmas.List.{get_or-set_same, get_or-set_other}
use Rattle.std.specs.Prelude.{is_err, OnOk, OnErr}
use Rattle.device_cells.specs.Cells.{body, cell_size}
use Rattle.device_cells.specs.Faults.{HasCause}
use Rattle.device_cells.specs.Medium.{Medium, Told, Keeps}
use Rattle.device_cells.proofs.Media.{told_map, told_next}
use Rattle.key_cells.specs.Lease.{holding, bench_of}
use Rattle.key_cells.specs.declared.leases.Lease.{Lease}
use Rattle.cca_roles.specs.Changes.{HasRoleCause, KeepsAllButBody}
use Rattle.cca_roles.specs.declared.faults.RoleFault.{RoleFault}
use Rattle.cca_roles.specs.declared.faults.RoleFault.TheVariants.{DiskFault, Damaged}
use Rattle.cca_roles.specs.Directory.{name_at, IsHeld}
use Rattle.cca_roles.specs.Opening.{Opens, IsRefused, OpenedTo}
use Rattle.cca_roles.specs.RoleBody.{ReadsPlace, slot_in}
use Rattle.cca_roles.specs.Roles.{AreRoles, names, name_of, role_at, blank_roles}
use Rattle.cca_roles.specs.RolesStand.{StandsForRoles, IsDamagedPlace, IsFirstDamaged, Repeats}
use Rattle.cca_roles.specs.declared.roles.Role.{Role}
use Rattle.cca_roles.proofs.BodyLaws.{reads_one, ReadsNothing}
use Rattle.cca_roles.proofs.DirectoryLaws.{none_some}
use Rattle.cca_roles.proofs.TableLaws.{name_of_place, role_named}

module _ (image : List ℕ) (place : ℕ) (roles : List (Option Role)) (opened : OpenedTo image place roles) where
  pub opened_more : (new : List (Option Role)) → place < length roles → Opens (body image (place + 1)) place roles new → OpenedTo image (place + 1) new
  opened_more new within opens = record {
    reads = λ n below. ⊎_elim (λ (is : n ≡ place). subst (λ (k : ℕ). ReadsPlace k (body image (k + 1)) (slot_in k (body image (k + 1)))) (sym is) opens.reads) (λ (other : n ≡ place → ⊥). opened.reads n (omega arith)) (cases_eq n place);
    known = λ n below. at n opens.known ∙ ⊎_elim
        (λ (is : n ≡ place). ap (λ k. get_or (set roles place here) k None) is ∙ get_or-set_same roles place here None within ∙ ap (λ k. slot_in k (body image (k + 1))) (sym is))
        (λ (other : n ≡ place → ⊥). get_or-set_other roles place n here None other ∙ opened.known n (omega arith)) (cases_eq n place);
    rest = λ n above. let other : n ≡ place → ⊥ = omega arith in at n opens.known ∙ get_or-set_other roles place n here None other ∙ opened.rest n (omega arith);
  }
    where
      here : Option Role
      here = slot_in place (body image (place + 1))

      at : (n : ℕ) → new ≡ set roles place here → get_or new n None ≡ get_or (set roles place here) n None
      at n is = ap (λ l. get_or l n None) is

  -- the name of a place before
  name_before : (n : ℕ) → n < place → name_at (names roles) n ≡ name_of (slot_in n (body image (n + 1)))
  name_before n below = name_of_place roles n ∙ ap name_of (opened.known n below)

  not_before : AreRoles roles → (k : ℕ) → k < place → IsDamagedPlace image k → ⊥
  not_before are k below (inl nothing) = nothing (slot_in k (body image (k + 1))) (opened.reads k below)
  not_before are k below (inr repeats) =
      let low : repeats.lower < place = omega (arith, repeats.below) in
      let first : name_at (names roles) repeats.lower ≡ Some repeats.again.name =
      name_before repeats.lower low ∙ ap name_of (reads_one repeats.lower (body image (repeats.lower + 1)) (Some repeats.first) repeats.reads_first) ∙ ap (λ l. Some l) repeats.same in
      let again : name_at (names roles) k ≡ Some repeats.again.name =
      name_before k below ∙ ap name_of (reads_one k (body image (k + 1)) (Some repeats.again) repeats.reads_again) in
      omega (arith, are.apart repeats.lower k repeats.again.name first again, repeats.below)

  pub refused_damaged : AreRoles roles → place < 32 → IsRefused (body image (place + 1)) place roles → IsFirstDamaged image (place + 1)
  refused_damaged are within refused = record {
    place = place;
    cell_is = refl;
    within = within;
    damaged = ⊎_elim (λ nothing. inl nothing) (λ (held : (r : Role) × ReadsPlace place (body image (place + 1)) (Some r) × IsHeld (Some r.name) (names roles)). inr (repeat held.0 held.1 held.2.0 held.2.1)) refused;
    first = λ k below damaged. not_before are k below damaged;
  }
    where
      repeat : (r : Role) → ReadsPlace place (body image (place + 1)) (Some r) → (k : ℕ) → name_at (names roles) k ≡ Some r.name → Repeats image place
      repeat r reads k held =
          let below : k < place = ⊎_elim (λ (b : k < place). b)
          (λ (past : place ≤ k). absurd (none_some r.name (sym (name_of_place roles k ∙ ap name_of (opened.rest k past)) ∙ held)))
          (cases_lt k place) in
          let lower = role_named (slot_in k (body image (k + 1))) r.name (sym (name_before k below) ∙ held) in
          record {
            lower = k;
            below = below;
            first = lower.0;
            again = r;
            reads_first = subst (λ (o : Option Role). ReadsPlace k (body image (k + 1)) o) lower.1 (opened.reads k below);
            reads_again = reads;
            same = lower.2;
          }

-- the first cell
pub opened_first : (image : List ℕ) (roles : List (Option Role)) → ReadsPlace 0 (body image 1) (slot_in 0 (body image 1)) → roles ≡ set blank_roles 0 (slot_in 0 (body image 1)) → OpenedTo image 1 roles
opened_first image roles reads is = record {
  reads = λ n below. let first : n ≡ 0 = omega arith in subst (λ (k : ℕ). ReadsPlace k (body image (k + 1)) (slot_in k (body image (k + 1)))) (sym first) reads;
  known = λ n below. let first : n ≡ 0 = omega arith in
      ap (λ (k : ℕ). role_at roles k) first ∙ ap (λ l. role_at l 0) is ∙ ap (λ k. slot_in k (body image (k + 1))) (sym first);
  rest = λ n above. let other : n ≡ 0 → ⊥ = omega arith in
      ap (λ l. role_at l n) is ∙ get_or-set_other blank_roles 0 n (slot_in 0 (body image 1)) None other ∙ later n above;
}
  where
    blank : (n m : ℕ) → get_or {A = Option Role} (replicate n None) m None ≡ None
    blank zero m = refl
    blank (suc n) zero = refl
    blank (suc n) (suc m) = blank n m

    later : (n : ℕ) → 1 ≤ n → role_at blank_roles n ≡ None
    later zero above = absurd (omega arith)
    later (suc n) above = blank 31 n

-- the first cell is damaged
pub first_damaged : (image : List ℕ) → ReadsNothing 0 (body image 1) → IsFirstDamaged image 1
first_damaged image nothing = record { place = 0; cell_is = refl; within = omega arith; damaged = inl nothing; first = λ k below damaged. absurd (omega arith) }

-- each cell is known
pub opened_all : (image : List ℕ) (roles : List (Option Role)) → OpenedTo image 32 roles → AreRoles roles → StandsForRoles image roles
opened_all image roles opened are = record {
  size = are.size;
  reads = λ n below. subst (λ (r : Option Role). ReadsPlace n (body image (n + 1)) r) (sym (opened.known n below)) (opened.reads n below);
  apart = are.apart;
}

-- ---- one cell that was read

-- a cell of a place lies within a module of 33 cells
pub place_fits : (size place k : ℕ) → size ≡ 50688 → place < 32 → k ≡ place + 1 → cell_size * (k + 1) ≤ size
place_fits size place k is within same = omega arith

pub cause_unread : {T E : Type 0} (before now : ℕ) (r : Result T E) → HasCause before now r → is_err r ≡ true → HasRoleCause before now (Err DiskFault)
cause_unread before now (Ok x) cause unread = let wrong : false ≡ true = unread in absurd (cc)
cause_unread before now (Err e) cause unread = record { later = cause.later; failed = λ _. cause.failed; quiet = λ other. absurd (other refl) }

pub cause_read : {T E : Type 0} (before now : ℕ) (r : Result T E) → HasCause before now r → is_err r ≡ false → (result : Result (Unit {0}) RoleFault) → (result ≡ Err DiskFault → ⊥) → HasRoleCause before now result
cause_read before now (Ok x) cause read result other = record { later = cause.later; failed = λ is. absurd (other is); quiet = λ _. cause.quiet }
cause_read before now (Err e) cause read result other = let wrong : true ≡ false = read in absurd (cc)

module _ (m : Medium) (place : ℕ) (bytes copy : List ℕ) (cell : ℕ) (roles : List (Option Role)) (same : copy ≡ bytes) (is_cell : cell ≡ place + 1) (read : Told m (λ image. bytes ≡ body image cell)) where
  place_here : Told m (λ image. copy ≡ body image (place + 1))
  place_here = told_map m (λ image. bytes ≡ body image cell) (λ image. copy ≡ body image (place + 1)) read (λ image here. same ∙ here ∙ ap (body image) is_cell)

  pub opens_read : (slot : Option Role) (now : List (Option Role)) → slot ≡ slot_in place copy → ReadsPlace place copy slot → now ≡ set roles place slot
      → Told m (λ image. Opens (body image (place + 1)) place roles now)
  opens_read slot now found reads put =
      told_map m (λ image. copy ≡ body image (place + 1)) (λ image. Opens (body image (place + 1)) place roles now) place_here
      (λ image here. subst (λ (b : List ℕ). Opens b place roles now) here
      (record { reads = subst (ReadsPlace place copy) found reads; known = put ∙ ap (set roles place) found }))

  pub refused_read : (n : ℕ) → place + 1 ≡ n → IsRefused copy place roles → (n ≡ place + 1) × Told m (λ image. IsRefused (body image (place + 1)) place roles)
  refused_read n is refused = (
    sym is,
    told_map m (λ image. copy ≡ body image (place + 1)) (λ image. IsRefused (body image (place + 1)) place roles) place_here
        (λ image here. subst (λ (b : List ℕ). IsRefused b place roles) here refused),
  )

  pub refused_held : (n : ℕ) (slot : Option Role) → place + 1 ≡ n → ReadsPlace place copy slot → IsHeld (name_of slot) (names roles)
      → (n ≡ place + 1) × Told m (λ image. IsRefused (body image (place + 1)) place roles)
  refused_held n None is reads held = absurd held
  refused_held n (Some r) is reads held = refused_read n is (inr (r, reads, held))

-- the first cell reads as nothing
pub refused_first : (m : Medium) (bytes copy : List ℕ) (cell n : ℕ) → copy ≡ bytes → cell ≡ 1 → Told m (λ image. bytes ≡ body image cell) → 1 ≡ n → ((slot : Option Role) → ReadsPlace 0 copy slot → ⊥)
    → Told m (λ image. IsFirstDamaged image n)
refused_first m bytes copy cell n same is_cell read is none =
    told_map m (λ image. bytes ≡ body image cell) (λ image. IsFirstDamaged image n) read
    (λ image here. subst (IsFirstDamaged image) is (first_damaged image (subst (λ (b : List ℕ). ReadsNothing 0 b) (same ∙ here ∙ ap (body image) is_cell) none)))

-- ---- what opening answers

pub ok_not_err : (fault : RoleFault) → ◌≡◌ {A = Result (Unit {0}) RoleFault} (Ok tt) (Err fault) → ⊥
ok_not_err fault is = cc is

pub disk_not_damaged : (cell : ℕ) → ◌≡◌ {A = Result (Unit {0}) RoleFault} (Err DiskFault) (Err (Damaged cell)) → ⊥
disk_not_damaged cell is = cc is

pub damaged_not_disk : (cell : ℕ) → ◌≡◌ {A = Result (Unit {0}) RoleFault} (Err (Damaged cell)) (Err DiskFault) → ⊥
damaged_not_disk cell is = cc is

pub one_cell : (cell n : ℕ) → ◌≡◌ {A = Result (Unit {0}) RoleFault} (Err (Damaged cell)) (Err (Damaged n)) → cell ≡ n
one_cell cell n is = cc is

-- a fault that is handed on
module _ (r : Result (Unit {0}) RoleFault) (fault : RoleFault) (same : r ≡ Err fault) where
  pub handed_ok : (P : Type 0) → OnOk r P
  handed_ok P = subst (λ (o : Result (Unit {0}) RoleFault). OnOk o P) (sym same) tt

  pub handed_err : (P : Type 0) → P → OnErr r P
  handed_err P holds = subst (λ (o : Result (Unit {0}) RoleFault). OnErr o P) (sym same) holds

  pub handed_cause : (start before now : ℕ) → before ≡ start → (from : Result (Unit {0}) RoleFault) → from ≡ Err fault
      → HasRoleCause before now from → HasRoleCause start now r
  handed_cause start before now as_before from was cause =
      subst (λ (n : ℕ). HasRoleCause n now r) as_before (subst (HasRoleCause before now) (was ∙ sym same) cause)

pub opened_cause : (before now : ℕ) → now ≡ before → HasRoleCause before now (Ok tt)
opened_cause before now same = record { later = omega (arith, same); failed = λ is. absurd (ok_not_err DiskFault is); quiet = λ _. same }

pub rest_then : (a b c : Lease) → KeepsAllButBody a b → KeepsAllButBody b c → KeepsAllButBody a c
rest_then a b c first second = second ∙ ap (λ (l : Lease). holding l (record (bench_of l) { body = (bench_of c).body })) first

-- one cell more was read
pub told_more : (m0 m1 : Medium) (place : ℕ) (old new : List (Option Role)) → Keeps m0 m1 → place < 32 → AreRoles old
    → Told m0 (λ image. OpenedTo image place old)
    → Told m1 (λ image. Opens (body image (place + 1)) place old new) → Told m0 (λ image. OpenedTo image (place + 1) new)
told_more m0 m1 place old new kept within are opened opens =
    told_next m0 m1 (λ image. OpenedTo image place old) (λ image. Opens (body image (place + 1)) place old new)
    (λ image. OpenedTo image (place + 1) new) kept opened opens
    (λ image before here. opened_more image place old before new (omega (arith, within, are.size)) here)
