-- The body of a role, and what it reads as.
use Rattle.std.proofs.Common.{◌≡◌, ◌≢◌, ◌≤◌, ◌<◌, ◌-◌, ◌^◌, ◌⊎◌, inl, inr, ⊎_elim, ℕ, zero, suc, List, ◌++◌, length, take, drop, replicate, Option, None, Some, refl, sym, ap, subst, ◌∙◌, arith}
use Rattle.std.specs.Int.{to_be_bytes, from_be_bytes, w32}
use Rattle.std.specs.Prelude.{slice_index, bytes_eq, if◌then◌else◌}
use Rattle.std.proofs.lemmas.Bool.{false_from_ne_true}
use Rattle.std.proofs.lemmas.List.{append_assoc, take_at, drop_at, length-append, length-replicate}
use Rattle.std.proofs.lemmas.Nat.{from_be_bytes-to_be_bytes_4}
use Rattle.std.proofs.lemmas.Slice.Eq.{bytes_eq-Decides}
use Rattle.cca_roles.specs.NameLaws.{role_short}
use Rattle.cca_roles.specs.Points.{ArePoints, every_point, are_points}
use Rattle.cca_roles.specs.RoleNames.{is_role_name, IsRoleName, default_name}
use Rattle.cca_roles.specs.Roles.{role}
use Rattle.cca_roles.specs.RoleBody.{role_body, blank_body, ReadsRole, ReadsSlot, ReadsDefault, ReadsPlace, name_in, points_in, role_in, blank_slot, slot_in}
use Rattle.cca_roles.specs.declared.roles.Role.{Role}
use Rattle.cca_roles.proofs.PointLaws.{points_below}
use Rattle.cca_roles.proofs.DecidableLaws.{by_bool, same_bytes}

-- ---- the body of a role

module _ (name : List ℕ) (points : ℕ) where
  first_again : slice_index (role_body name points) 0 ≡ 1
  unfolding role_body
  first_again = refl

  name_again : name_in (role_body name points) ≡ name
  unfolding role_body
  name_again = take_at name (replicate (8 - length name) 0 ++ (to_be_bytes w32 points ++ replicate 178 0)) (length name) refl

  points_again : length name ≤ 8 → points < 2 ^ 32 → points_in (role_body name points) ≡ points
  unfolding role_body
  points_again short low =
      ap (from_be_bytes w32)
      (ap (λ (l : List ℕ). take 4 (drop 8 l)) (sym (append_assoc name (replicate (8 - length name) 0) (to_be_bytes w32 points ++ replicate 178 0)))
      ∙ ap (take 4) (drop_at (name ++ replicate (8 - length name) 0) (to_be_bytes w32 points ++ replicate 178 0) 8 (length-append name (replicate (8 - length name) 0) ∙ omega (arith, length-replicate {A = ℕ} (8 - length name) 0)))
      ∙ take_at (to_be_bytes w32 points) (replicate 178 0) 4 refl)
      ∙ from_be_bytes-to_be_bytes_4 points low

one_not_zero : ◌≢◌ {A = ℕ} 1 0
one_not_zero is = omega (arith, is)

blank_first : slice_index blank_body 0 ≡ 0
unfolding blank_body
blank_first = refl

pub blank_is : (bytes : List ℕ) → bytes ≡ replicate 192 0 → bytes ≡ blank_body
unfolding blank_body
blank_is bytes is = is

module _ (bytes : List ℕ) (r : Role) (reads : ReadsRole bytes r) where
  pub role_not_blank : bytes ≢ blank_body
  role_not_blank blank = one_not_zero (sym (first_again r.name r.points) ∙ ap (λ (l : List ℕ). slice_index l 0) (sym reads.body ∙ blank) ∙ blank_first)

  pub name_of_body : name_in bytes ≡ r.name
  name_of_body = ap name_in reads.body ∙ name_again r.name r.points

  pub points_of_body : points_in bytes ≡ r.points
  points_of_body = ap points_in reads.body ∙ points_again r.name r.points (role_short r.name reads.name) (points_below r.points reads.points)

  -- a body reads as one role alone
  pub role_of_body : role_in bytes ≡ r
  role_of_body = ap (λ (n : List ℕ). role n (points_in bytes)) name_of_body ∙ ap (role r.name) points_of_body

-- ---- what a body reads as

pub slot_there : (n : ℕ) (bytes : List ℕ) → bytes ≢ blank_body → slot_in n bytes ≡ Some (role_in bytes)
unfolding slot_in
slot_there n bytes some =
    ap (λ t. if t then blank_slot n else Some (role_in bytes)) (false_from_ne_true (bytes_eq bytes blank_body) (λ same. some ((bytes_eq-Decides bytes blank_body).0 same)))

pub slot_blank : (n : ℕ) (bytes : List ℕ) → bytes ≡ blank_body → slot_in n bytes ≡ blank_slot n
unfolding slot_in
slot_blank n bytes is = ap (λ t. if t then blank_slot n else Some (role_in bytes)) ((bytes_eq-Decides bytes blank_body).1 is)

pub slot_of_role : (n : ℕ) (bytes : List ℕ) (r : Role) → ReadsRole bytes r → slot_in n bytes ≡ Some r
slot_of_role n bytes r reads = slot_there n bytes (role_not_blank bytes r reads) ∙ ap (λ q. Some q) (role_of_body bytes r reads)

pub reads_one : (n : ℕ) (bytes : List ℕ) (slot : Option Role) → ReadsPlace n bytes slot → slot_in n bytes ≡ slot
reads_one zero bytes None reads = absurd reads
reads_one zero bytes (Some r) reads = ⊎_elim
    (λ (blank : (bytes ≡ blank_body) × (r.points ≡ every_point)).
    slot_blank 0 bytes blank.0 ∙ ap (λ (n : List ℕ). Some (role n every_point)) (sym reads.0) ∙ ap (λ (p : ℕ). Some (role r.name p)) (sym blank.1))
    (λ (there : ReadsRole bytes r). slot_of_role 0 bytes r there)
    reads.1
reads_one (suc n) bytes None reads = slot_blank (suc n) bytes reads
reads_one (suc n) bytes (Some r) reads = slot_of_role (suc n) bytes r reads

-- ---- whether a body reads as anything

-- a body that reads as some role reads as the one that stands in it
pub reads_again : (bytes : List ℕ) (r : Role) → ReadsRole bytes r → ReadsRole bytes (role_in bytes)
reads_again bytes r reads = subst (ReadsRole bytes) (sym (role_of_body bytes r reads)) reads

abbrev ReadsNoRole : List ℕ → Type 0
ReadsNoRole bytes = (r : Role) → ReadsRole bytes r → ⊥

decided_role : (bytes : List ℕ) → ReadsRole bytes (role_in bytes) ⊎ ReadsNoRole bytes
decided_role bytes = ⊎_elim
    (λ (name : IsRoleName (name_in bytes)). ⊎_elim
    (λ (points : ArePoints (points_in bytes)). ⊎_elim
    (λ (is : bytes ≡ role_body (name_in bytes) (points_in bytes)). inl (record { name = name; points = points; body = is }))
    (λ (isnt : bytes ≡ role_body (name_in bytes) (points_in bytes) → ⊥). inr (λ r reads. isnt (reads_again bytes r reads).body))
    (same_bytes bytes (role_body (name_in bytes) (points_in bytes))))
    (λ (isnt : ArePoints (points_in bytes) → ⊥). inr (λ r reads. isnt (reads_again bytes r reads).points))
    (by_bool (are_points (points_in bytes))))
    (λ (isnt : IsRoleName (name_in bytes) → ⊥). inr (λ r reads. isnt (reads_again bytes r reads).name))
    (by_bool (is_role_name (name_in bytes)))

abbrev pub ReadsNothing : ℕ → List ℕ → Type 0
ReadsNothing n bytes = (slot : Option Role) → ReadsPlace n bytes slot → ⊥

-- ---- a body that is blank, one that is a role's, and one that is neither

pub reads_blank : (n : ℕ) (bytes : List ℕ) → bytes ≡ blank_body → ReadsPlace n bytes (slot_in n bytes)
reads_blank zero bytes is = subst (ReadsDefault bytes) (sym (slot_blank 0 bytes is)) (refl, inl (is, refl))
reads_blank (suc n) bytes is = subst (ReadsSlot bytes) (sym (slot_blank (suc n) bytes is)) is

-- a place after the first may be blank
pub reads_none : (n : ℕ) (bytes : List ℕ) → n ≢ 0 → bytes ≡ blank_body → ReadsPlace n bytes None
reads_none zero bytes later is = absurd (later refl)
reads_none (suc n) bytes later is = is

-- a body that isn't blank and is no role's
pub reads_nothing : (n : ℕ) (bytes : List ℕ) → bytes ≢ blank_body → ReadsNoRole bytes → ReadsNothing n bytes
reads_nothing zero bytes some none None reads = reads
reads_nothing zero bytes some none (Some r) reads = ⊎_elim (λ (blank : (bytes ≡ blank_body) × (r.points ≡ every_point)). some blank.0) (none r) reads.1
reads_nothing (suc n) bytes some none None reads = some reads
reads_nothing (suc n) bytes some none (Some r) reads = none r reads

-- the first place holds no other role than DEFAULT
pub reads_no_default : (bytes : List ℕ) (r : Role) → bytes ≢ blank_body → ReadsRole bytes r → r.name ≢ default_name → ReadsNothing 0 bytes
reads_no_default bytes r some there other None reads = reads
reads_no_default bytes r some there other (Some q) reads = ⊎_elim
    (λ (blank : (bytes ≡ blank_body) × (q.points ≡ every_point)). some blank.0)
    (λ (again : ReadsRole bytes q). other (sym (name_of_body bytes r there) ∙ name_of_body bytes q again ∙ reads.0))
    reads.1

pub decided_place : (n : ℕ) (bytes : List ℕ) → ReadsPlace n bytes (slot_in n bytes) ⊎ ReadsNothing n bytes
decided_place n bytes = ⊎_elim
    (λ (blank : bytes ≡ blank_body). inl (reads_blank n bytes blank))
    (λ (some : bytes ≡ blank_body → ⊥). ⊎_elim
    (λ (there : ReadsRole bytes (role_in bytes)). by_place n some there)
    (λ (none : ReadsNoRole bytes). inr (reads_nothing n bytes some none))
    (decided_role bytes))
    (same_bytes bytes blank_body)
  where
    by_place : (n : ℕ) → bytes ≢ blank_body → ReadsRole bytes (role_in bytes) → ReadsPlace n bytes (slot_in n bytes) ⊎ ReadsNothing n bytes
    by_place zero some there = ⊎_elim
        (λ (is : name_in bytes ≡ default_name). inl (subst (ReadsDefault bytes) (sym (slot_there 0 bytes some)) (is, inr there)))
        (λ (isnt : name_in bytes ≡ default_name → ⊥). inr (reads_no_default bytes (role_in bytes) some there isnt))
        (same_bytes (name_in bytes) default_name)
    by_place (suc n) some there = inl (subst (ReadsSlot bytes) (sym (slot_there (suc n) bytes some)) there)

pub blank_later : (n : ℕ) → n ≢ 0 → blank_slot n ≡ None
blank_later zero later = absurd (later refl)
blank_later (suc n) later = refl
