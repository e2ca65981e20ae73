-- What a module stands for, and what a change of one cell makes of it.
use Rattle.std.proofs.Common.{◌≡◌, ◌≢◌, ◌≤◌, ◌<◌, ◌+◌, inl, inr, ⊎_elim, ℕ, List, length, set, Option, None, Some, Result, Ok, Err, refl, sym, ap, subst, ◌∙◌, arith}
use Rattle.std.specs.Prelude.{◌⊎◌, IfErr, IsErrAnd}
use Rattle.std.proofs.lemmas.Bool.{cases_eq, cases_lt}
use Rattle.std.proofs.lemmas.List.{get_or-set_same, get_or-set_other, length-set, ext_get_or}
use Rattle.std.proofs.lemmas.List.FromFn.{length-map-range_with_len, get_or-map-range_with_len}
use Rattle.device_cells.specs.Cells.{body, IsReplaced, IsReplacing}
use Rattle.device_cells.specs.Medium.{Medium, Told, IsSettled, From, Becomes, EachImage}
use Rattle.device_cells.specs.SpareBytes.{HasTurned}
use Rattle.device_cells.proofs.Media.{told_at, becomes_told, becomes_weaker, each_still, each_weaker}
use Rattle.cca_roles.specs.Changes.{ChangesRoles, HasRoleCause, HoldsEither}
use Rattle.cca_roles.specs.Directory.{name_at, AreApart}
use Rattle.cca_roles.specs.RoleBody.{ReadsPlace, slot_in}
use Rattle.cca_roles.specs.Roles.{names, name_of, role_at}
use Rattle.cca_roles.specs.RolesStand.{StandsForRoles, roles_in, IsDamagedPlace, IsFirstDamaged}
use Rattle.cca_roles.specs.declared.faults.RoleFault.{RoleFault}
use Rattle.cca_roles.specs.declared.faults.RoleFault.TheVariants.{DiskFault}
use Rattle.cca_roles.specs.declared.roles.Role.{Role}
use Rattle.cca_roles.proofs.BodyLaws.{reads_one}
use Rattle.cca_roles.proofs.TableLaws.{name_of_place}

-- ---- the one table of a module

module _ (image : List ℕ) where
  pub length-roles_in : length (roles_in image) ≡ 32
  unfolding roles_in
  length-roles_in = length-map-range_with_len (λ n. slot_in n (body image (n + 1))) 0 32

  pub role_at_in : (n : ℕ) → n < 32 → role_at (roles_in image) n ≡ slot_in n (body image (n + 1))
  unfolding roles_in
  role_at_in n below = get_or-map-range_with_len (λ k. slot_in k (body image (k + 1))) 0 32 n n None below (omega arith)

  pub stands_one : (s : List (Option Role)) → StandsForRoles image s → s ≡ roles_in image
  stands_one s stands = ext_get_or None s (roles_in image) (stands.size ∙ sym length-roles_in)
      (λ n within. let below : n < 32 = omega (arith, stands.size) in sym (reads_one n (body image (n + 1)) (role_at s n) (stands.reads n below)) ∙ sym (role_at_in n below))

  -- a damaged module stands for none
  pub stands_undamaged : (s : List (Option Role)) (n : ℕ) → StandsForRoles image s → n < 32 → IsDamagedPlace image n → ⊥
  stands_undamaged s n stands within (inl nothing) = nothing (role_at s n) (stands.reads n within)
  stands_undamaged s n stands within (inr repeats) =
      let first : name_at (names s) repeats.lower ≡ Some repeats.again.name =
      held repeats.lower repeats.first (omega (arith, repeats.below)) repeats.reads_first ∙ ap (λ l. Some l) repeats.same in
      omega (arith, stands.apart repeats.lower n repeats.again.name first (held n repeats.again within repeats.reads_again), repeats.below)
    where
      held : (k : ℕ) (r : Role) → k < 32 → ReadsPlace k (body image (k + 1)) (Some r) → name_at (names s) k ≡ Some r.name
      held k r below reads = name_of_place s k ∙ ap name_of (sym (reads_one k (body image (k + 1)) (role_at s k) (stands.reads k below)) ∙ reads_one k (body image (k + 1)) (Some r) reads)

  pub first_one : (a b : ℕ) → IsFirstDamaged image a → IsFirstDamaged image b → a ≡ b
  first_one a b first second =
      ⊎_elim (λ (below : first.place < second.place). absurd (second.first first.place below first.damaged))
      (λ (above : second.place ≤ first.place). ⊎_elim (λ (same : second.place ≡ first.place). omega (arith, first.cell_is, second.cell_is, same)) (λ (other : second.place ≡ first.place → ⊥). absurd (first.first second.place (omega arith) second.damaged)) (cases_eq second.place first.place))
      (cases_lt first.place second.place)

-- ---- one cell changes

module _ (n : ℕ) (bytes : List ℕ) (slot : Option Role) (s : List (Option Role)) (within : n < 32) (reads : ReadsPlace n bytes slot) (apart : AreApart (names (set s n slot))) where
  other_cell : (m : ℕ) → (m ≡ n → ⊥) → m + 1 ≢ n + 1
  other_cell m other same = other (omega (arith, same))

  -- one cell was replaced
  pub stands_set : (old new : List ℕ) → StandsForRoles old s → body new (n + 1) ≡ bytes → ((m : ℕ) → m ≢ n + 1 → body new m ≡ body old m) → StandsForRoles new (set s n slot)
  stands_set old new stands here others = record {
    size = length-set s n slot ∙ stands.size;
    reads = λ m below. ⊎_elim
        (λ (is : m ≡ n). subst (λ (k : ℕ). ReadsPlace k (body new (k + 1)) (role_at (set s n slot) k)) (sym is)
        (subst (λ (r : Option Role). ReadsPlace n (body new (n + 1)) r) (sym (get_or-set_same s n slot None (omega (arith, stands.size))))
        (subst (λ (b : List ℕ). ReadsPlace n b slot) (sym here) reads)))
        (λ (other : m ≡ n → ⊥). subst (λ (r : Option Role). ReadsPlace m (body new (m + 1)) r) (sym (get_or-set_other s n m slot None other))
        (subst (λ (b : List ℕ). ReadsPlace m b (role_at s m)) (sym (others (m + 1) (other_cell m other))) (stands.reads m below)))
        (cases_eq m n);
    apart = apart;
  }

  -- the cell still selects what it did
  stands_still : (old new : List ℕ) → StandsForRoles old s → body new (n + 1) ≡ body old (n + 1) → ((m : ℕ) → m ≢ n + 1 → body new m ≡ body old m) → StandsForRoles new s
  stands_still old new stands here others = record {
    size = stands.size;
    reads = λ m below. subst (λ (b : List ℕ). ReadsPlace m b (role_at s m))
        (sym (⊎_elim (λ (is : m ≡ n). ap (λ (k : ℕ). body new (k + 1)) is ∙ here ∙ ap (λ (k : ℕ). body old (k + 1)) (sym is)) (λ (other : m ≡ n → ⊥). others (m + 1) (other_cell m other)) (cases_eq m n))) (stands.reads m below);
    apart = stands.apart;
  }

  pub holds_either : (old new : List ℕ) → StandsForRoles old s → IsReplacing (n + 1) bytes old new → HoldsEither (n + 1) s (set s n slot) old new
  holds_either old new stands replacing = record {
    outside = replacing.outside;
    others = replacing.others;
    untouched = replacing.untouched;
    stands = ⊎_elim (λ was. inl (stands_still old new stands was replacing.others)) (λ here. inr (stands_set old new stands here replacing.others)) replacing.here;
  }

  -- over a disk
  module _ (m0 m1 : Medium) (start : Told m0 (λ image. StandsForRoles image s)) where
    pub told_set : Becomes (IsReplaced (n + 1) bytes) m0 m1 → Told m1 (λ image. StandsForRoles image (set s n slot))
    told_set becomes = becomes_told m0 m1 (IsReplaced (n + 1) bytes) (λ image. StandsForRoles image s) (λ image. StandsForRoles image (set s n slot)) becomes start (λ old new stands replaced. stands_set old new stands replaced.here replaced.others)

    pub told_turned : Becomes (IsReplaced (n + 1) bytes) m0 m1 → Becomes (HasTurned (n + 1)) m0 m1
    told_turned becomes = becomes_weaker m0 m1 (IsReplaced (n + 1) bytes) (HasTurned (n + 1)) becomes (λ b c by. (by.selector, by.other))

    either_from : (c : List ℕ) → From (IsReplacing (n + 1) bytes) m0 c → From (HoldsEither (n + 1) s (set s n slot)) m0 c
    either_from c from = (from.0, from.1, holds_either from.0 c (told_at m0.content (λ image. StandsForRoles image s) from.0 from.1 start) from.2)

    pub either_becomes : Becomes (IsReplacing (n + 1) bytes) m0 m1 → Becomes (HoldsEither (n + 1) s (set s n slot)) m0 m1
    either_becomes becomes = record { size = becomes.size; told = λ c is. either_from c (becomes.told c is); still = becomes.still }

    pub either_moments : EachImage m0 m1 (From (IsReplacing (n + 1) bytes) m0) → EachImage m0 m1 (From (HoldsEither (n + 1) s (set s n slot)) m0)
    either_moments moments = each_weaker m0 m1 (From (IsReplacing (n + 1) bytes) m0) (From (HoldsEither (n + 1) s (set s n slot)) m0) moments either_from

-- ---- what a disk tells

-- an error that is handed on
pub handed_on : {T E : Type 0} (r : Result T E) (fault : E) → IsErrAnd r (λ e. e ≡ fault) → r ≡ Err fault
handed_on (Ok x) fault is = absurd is
handed_on (Err e) fault is = ap (λ f. Err f) is

-- ---- a change that is refused calls no device

pub refused_changes : (place : ℕ) (s next : List (Option Role)) (m : Medium) (fault : RoleFault) → IsSettled m → Told m (λ image. StandsForRoles image s) → ChangesRoles place s next m m (Err fault)
refused_changes place s next m fault settled start = record {
  settled = tt;
  stands = tt;
  turned = tt;
  either = record { size = refl; told = λ c is. (c, is, either_none c (told_at m.content (λ image. StandsForRoles image s) c is start)); still = λ some. some };
  moments = each_weaker m m m.images (From (HoldsEither (place + 1) s next) m) (each_still m)
      (λ c image. (c, settled.only c image, either_none c (told_at m.content (λ image. StandsForRoles image s) c (settled.only c image) start)));
}
  where
    either_none : (c : List ℕ) → StandsForRoles c s → HoldsEither (place + 1) s next c c
    either_none c stands = record { outside = record { size = refl; before = λ k below. refl; after = λ k above. refl }; others = λ n other. refl; untouched = λ k is. refl; stands = inl stands }

pub refused_cause : (count : ℕ) (fault : RoleFault) → (fault ≡ DiskFault → ⊥) → HasRoleCause count count (Err fault)
refused_cause count fault other = record { later = omega arith; failed = λ is. absurd (other (cc is)); quiet = λ _. refl }

-- a change that isn't refused fails by the disk alone
module _ (result : Result (Unit {0}) RoleFault) (faults : IfErr result (λ fault. fault ≡ DiskFault)) (refusal : RoleFault) (other : refusal ≡ DiskFault → ⊥) where
  pub never_refused : result ≡ Err refusal → ⊥
  never_refused is = by_result result faults is
    where
      by_result : (r : Result (Unit {0}) RoleFault) → IfErr r (λ fault. fault ≡ DiskFault) → r ≡ Err refusal → ⊥
      by_result (Ok x) faults is = cc is
      by_result (Err e) faults is = let same : e ≡ refusal = cc is in other (sym same ∙ faults)

  pub disk_or : IfErr result (λ fault. (fault ≡ DiskFault) ⊎ (fault ≡ refusal))
  disk_or = by_result result faults
    where
      by_result : (r : Result (Unit {0}) RoleFault) → IfErr r (λ fault. fault ≡ DiskFault) → IfErr r (λ fault. (fault ≡ DiskFault) ⊎ (fault ≡ refusal))
      by_result (Ok x) faults = tt
      by_result (Err e) faults = inl faults
