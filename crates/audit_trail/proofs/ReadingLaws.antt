-- What reading a record leaves of a trail, over plain values.
use Rattle.std.proofs.Common.{◌≡◌, ◌≤◌, ◌%◌, Bool, true, false, ℕ, List, IsSome, IsOk, Result, Ok, Err, ap, refl, subst, sym, ◌∙◌, arith}
use Rattle.device_cells.specs.Cells.{body}
use Rattle.device_cells.specs.Faults.{Rose}
use Rattle.device_cells.specs.Medium.{Medium, IsSettled, Keeps, Told}
use Rattle.device_cells.proofs.Media.{settled_kept, told_joined, told_map}
use Rattle.audit_trail.specs.Changes.{TrailLeft}
use Rattle.audit_trail.specs.Entries.{entry_at}
use Rattle.audit_trail.specs.RecordBody.{Spells}
use Rattle.audit_trail.specs.TrailStands.{IsHeld, StandsForTrail}
use Rattle.audit_trail.specs.declared.entries.Entry.{Entry}
use Rattle.audit_trail.specs.declared.faults.TrailFault.{TrailFault}
use Rattle.audit_trail.specs.declared.faults.TrailFault.TheVariants.{DiskFault, Damaged, Full}

-- ---- answers

pub ok_not_err : {T : Type 0} (x : T) (fault : TrailFault) → ◌≡◌ {A = Result T TrailFault} (Ok x) (Err fault) → ⊥
ok_not_err x fault is = cc is

pub false_not_true : ◌≡◌ {A = Result Bool TrailFault} (Ok false) (Ok true) → ⊥
false_not_true is = cc is

pub err_as : {T U : Type 0} (a b : TrailFault) → ◌≡◌ {A = Result T TrailFault} (Err a) (Err b) → ◌≡◌ {A = Result U TrailFault} (Err a) (Err b)
err_as a b is = let same : a ≡ b = cc is in ap Err same

pub damaged_not_of_disk : {T : Type 0} (cell : ℕ) → ◌≡◌ {A = Result T TrailFault} (Err (Damaged cell)) (Err DiskFault) → ⊥
damaged_not_of_disk cell is = cc is

pub err_undone : (T : Type 0) (fault : TrailFault) → IsOk {T = T} (Err fault) → ⊥
err_undone T fault done = cc done

pub full_not_of_disk : {T : Type 0} → ◌≡◌ {A = Result T TrailFault} (Err Full) (Err DiskFault) → ⊥
full_not_of_disk is = cc is

pub disk_not_of_damaged : {T : Type 0} (cell : ℕ) → ◌≡◌ {A = Result T TrailFault} (Err DiskFault) (Err (Damaged cell)) → ⊥
disk_not_of_damaged cell is = cc is

pub one_cell : {T : Type 0} (cell n : ℕ) → ◌≡◌ {A = Result T TrailFault} (Err (Damaged cell)) (Err (Damaged n)) → n ≡ cell
one_cell cell n is = cc is

-- ---- what is left of the trail

pub left_uncalled : (t : Medium) (count : ℕ) (failed : Type 0) → (failed → ⊥) → TrailLeft t t count count (IsSettled t) failed
left_uncalled t count failed never = record {
  size = refl;
  still = λ some. some;
  settled = λ settled. settled;
  later = omega arith;
  fault = λ h. absurd (never h);
  quiet = λ unfailed. refl;
}

pub left_refused : (t : Medium) (count : ℕ) (done failed : Type 0) → (done → ⊥) → (failed → ⊥) → TrailLeft t t count count done failed
left_refused t count done failed undone never = record {
  size = refl;
  still = λ some. some;
  settled = λ h. absurd (undone h);
  later = omega arith;
  fault = λ h. absurd (never h);
  quiet = λ unfailed. refl;
}

-- what a call leaves that ends as one before it did
pub left_as : (t0 t1 : Medium) (before now : ℕ) (done failed same : Type 0) → (same → failed) → (failed → same) → TrailLeft t0 t1 before now done failed → TrailLeft t0 t1 before now done same
left_as t0 t1 before now done failed same on back left = record {
  size = left.size;
  still = left.still;
  settled = left.settled;
  later = left.later;
  fault = λ h. left.fault (on h);
  quiet = λ unfailed. left.quiet (λ h. unfailed (back h));
}

-- what reading leaves
pub left_kept : (t0 t1 : Medium) (before now : ℕ) (failed : Type 0) → Keeps t0 t1 → before ≤ now → (failed → Rose before now) → ((failed → ⊥) → now ≡ before) → TrailLeft t0 t1 before now (IsSettled t0) failed
left_kept t0 t1 before now failed kept later fault quiet = record {
  size = kept.moments.size;
  still = λ some. subst IsSome (sym kept.content) some;
  settled = λ settled. settled_kept t0 t1 kept settled;
  later = later;
  fault = fault;
  quiet = quiet;
}

-- ---- the record that was read

pub told_cell : (t : Medium) (number cell place : ℕ) (bytes : List ℕ) → cell ≡ number % 4096 → place ≡ cell → Told t (λ image. bytes ≡ body image place) → Told t (λ image. bytes ≡ body image (number % 4096))
told_cell t number cell place bytes is at told = subst (λ (k : ℕ). Told t (λ image. bytes ≡ body image k)) (at ∙ is) told

module _ (t : Medium) (number : ℕ) (bytes : List ℕ) (told : Told t (λ image. bytes ≡ body image (number % 4096))) where
  pub spelled_there : (e : Entry) → Spells bytes number e → Told t (λ image. Spells (body image (number % 4096)) number e)
  spelled_there e spells = told_map t _ _ told (λ image is. subst (λ (b : List ℕ). Spells b number e) is spells)

  -- a trail that tells its bytes spells each record that it holds
  pub spells_held : (next : ℕ) → IsHeld number next → Told t (λ image. StandsForTrail image next) → ((e : Entry) → Spells bytes number e → ⊥) → Told t (λ c. ⊥)
  spells_held next held stands none =
      told_joined t _ _ (λ c. ⊥) stands told
      (λ image trail is.
      none (entry_at trail.0 number)
      (subst (λ (b : List ℕ). Spells b number (entry_at trail.0 number)) (sym is) (trail.2.held number (omega (arith, trail.1, held.0)) (omega (arith, trail.1, held.1)))))
