use Rattle.std.proofs.Common.{◌≡◌, ◌+◌, ℕ, Result, Err, ◌⊎◌, inl, inr, ⊎_elim, refl, sym, ap, subst, ◌∙◌, arith}
use Rattle.std.specs.Prelude.{IfErr}
use Rattle.device_cells.proofs.Media.{keeps_then, told_map, told_next, told_still}
use Rattle.device_cells.specs.Cells.{body}
use Rattle.device_cells.specs.Medium.{Told}
use Rattle.device_cells.proofs.WhereToldLemmas.{rose_wider}
use Rattle.cca_roles.specs.declared.faults.RoleFault.{RoleFault}
use Rattle.cca_roles.specs.declared.faults.RoleFault.TheVariants.{DiskFault, Damaged}
use Rattle.cca_roles.specs.Opening.{OpenedTo, IsRefused}
use Rattle.cca_roles.specs.RolesStand.{StandsForRoles, IsFirstDamaged, IsRoleCell}
use Rattle.cca_roles.proofs.OpeningLaws.{opened_all, refused_damaged, ok_not_err, handed_ok}
use Rattle.cca_roles.proofs.OpeningLaws.{handed_err, handed_cause, opened_cause, rest_then, told_more}
use Rattle.cca_roles.proofs.StandLaws.{handed_on, first_one, stands_undamaged}
use Rattle.cca_roles.proofs.opening.open_roles.Goals as goal

-- a fault of one cell that is handed on
role_faults : (r : Result (Unit {0}) RoleFault) (fault : RoleFault) (cell : ℕ) → IsRoleCell cell → r ≡ Err fault → (fault ≡ DiskFault) ⊎ (fault ≡ Damaged cell)
    → IfErr r (λ e. (e ≡ DiskFault) ⊎ ((n : ℕ) × IsRoleCell n × (e ≡ Damaged n)))
role_faults r fault cell is_role same faults =
    subst (λ (o : Result (Unit {0}) RoleFault). IfErr o (λ e. (e ≡ DiskFault) ⊎ ((n : ℕ) × IsRoleCell n × (e ≡ Damaged n)))) (sym same)
    (⊎_elim (λ (failed : fault ≡ DiskFault). inl failed) (λ (damaged : fault ≡ Damaged cell). inr (cell, is_role, damaged)) faults)

pub returns-in_err-open_default-clause-exact : goal.returns-in_err-open_default-clause-exact
returns-in_err-open_default-clause-exact g c fell =
    let fault = c.in_err-open_default.field-0.0 in
    let same : c.from_residual.result ≡ Err fault = handed_on c.from_residual.result fault c.from_residual.ensures.1 in
    ⊎_elim
    (λ (failed : fault ≡ DiskFault). absurd (fell (c.open_default.ensures.cause.failed (c.in_err-open_default.was ∙ ap (λ f. Err f) failed))))
    (λ (damaged : fault ≡ Damaged 1).
    told_map (g.M.Disk.medium c.args.«module».now) (λ image. IsFirstDamaged image 1) _ (c.in_err-open_default.ensures.damaged 1 (ap (λ f. Err f) damaged))
    (λ image first cell other. same ∙ ap (λ f. Err f) (damaged ∙ ap (λ k. Damaged k) (first_one image 1 cell first other))))
    c.in_err-open_default.ensures.faults

pub returns-in_err-open_place-clause-damaged : goal.returns-in_err-open_place-clause-damaged
returns-in_err-open_place-clause-damaged g c cell is =
    let place : ℕ = c.loop-place.place in
    let fault = c.in_err-open_place.field-0.0 in
    let same : c.from_residual-in_err-open_place.result ≡ Err fault =
    handed_on c.from_residual-in_err-open_place.result fault c.from_residual-in_err-open_place.ensures.1 in
    let refused = c.open_place.ensures.damaged cell (c.in_err-open_place.was ∙ sym same ∙ is) in
    subst (λ (k : ℕ). Told (g.M.Disk.medium c.args.«module».now) (λ image. IsFirstDamaged image k)) (sym refused.0)
    (told_next (g.M.Disk.medium c.args.«module».now) (g.M.Disk.medium c.loop-place.«module») (λ image. OpenedTo image place c.loop-place.opened) (λ image. IsRefused (body image (place + 1)) place c.loop-place.opened)
    (λ image. IsFirstDamaged image (place + 1)) c.loop-place.invariant.keeps c.loop-place.invariant.opened refused.1
    (λ image opened refuses. refused_damaged image place c.loop-place.opened opened c.loop-place.invariant.roles c.loop-place-test.true refuses))

pub returns-in_err-open_place-clause-exact : goal.returns-in_err-open_place-clause-exact
returns-in_err-open_place-clause-exact g c fell =
    let fault = c.in_err-open_place.field-0.0 in
    let same : c.from_residual-in_err-open_place.result ≡ Err fault =
    handed_on c.from_residual-in_err-open_place.result fault c.from_residual-in_err-open_place.ensures.1 in
    ⊎_elim
    (λ (failed : fault ≡ DiskFault). absurd (fell (rose_wider (g.M.Disk.faults c.args.«module».now) (g.M.Disk.faults c.loop-place.«module») (g.M.Disk.faults c.open_place.new.«module») (g.M.Disk.faults c.open_place.new.«module») (omega (arith, c.loop-place.invariant.quiet))
    c.open_place.ensures.cause.later (omega arith) (c.open_place.ensures.cause.failed (c.in_err-open_place.was ∙ ap (λ f. Err f) failed)))))
    (λ (damaged : fault ≡ Damaged (c.loop-place.place + 1)).
    told_map (g.M.Disk.medium c.args.«module».now) (λ image. IsFirstDamaged image (c.loop-place.place + 1)) _ (returns-in_err-open_place-clause-damaged g c (c.loop-place.place + 1) (same ∙ ap (λ f. Err f) damaged))
    (λ image first cell other. same ∙ ap (λ f. Err f) (damaged ∙ ap (λ k. Damaged k) (first_one image (c.loop-place.place + 1) cell first other))))
    c.in_err-open_place.ensures.faults

pub returns-clause-stands : goal.returns-clause-stands
returns-clause-stands g c =
    let all : c.loop-place.place ≡ 32 = omega (arith, c.loop-place-test.false, c.loop-place.auto.place-end) in
    told_still (g.M.Disk.medium c.args.«module».now) (g.M.Disk.medium c.loop-place.«module») (λ image. StandsForRoles image c.loop-place.opened) c.loop-place.invariant.keeps
    (told_map (g.M.Disk.medium c.args.«module».now) (λ image. OpenedTo image c.loop-place.place c.loop-place.opened) (λ image. StandsForRoles image c.loop-place.opened) c.loop-place.invariant.opened
    (λ image opened. opened_all image c.loop-place.opened (subst (λ (n : ℕ). OpenedTo image n c.loop-place.opened) all opened) c.loop-place.invariant.roles))

pub returns-clause-exact : goal.returns-clause-exact
returns-clause-exact g c _ =
    told_map (g.M.Disk.medium c.args.«module».now) (λ image. OpenedTo image c.loop-place.place c.loop-place.opened) _ c.loop-place.invariant.opened
    (λ image opened cell first.
    let all : c.loop-place.place ≡ 32 = omega (arith, c.loop-place-test.false, c.loop-place.auto.place-end) in
    let stands : StandsForRoles image c.loop-place.opened = opened_all image c.loop-place.opened (subst (λ (n : ℕ). OpenedTo image n c.loop-place.opened) all opened) c.loop-place.invariant.roles in
    absurd (stands_undamaged image c.loop-place.opened first.place stands first.within first.damaged))

pub returns-in_err-open_default-clause-faults : goal.returns-in_err-open_default-clause-faults
returns-in_err-open_default-clause-faults g c =
    let fault = c.in_err-open_default.field-0.0 in
    let same : c.from_residual.result ≡ Err fault = handed_on c.from_residual.result fault c.from_residual.ensures.1 in
    role_faults c.from_residual.result fault 1 (omega arith, omega arith) same c.in_err-open_default.ensures.faults

pub returns-in_err-open_place-clause-faults : goal.returns-in_err-open_place-clause-faults
returns-in_err-open_place-clause-faults g c =
    let fault = c.in_err-open_place.field-0.0 in
    let same : c.from_residual-in_err-open_place.result ≡ Err fault =
    handed_on c.from_residual-in_err-open_place.result fault c.from_residual-in_err-open_place.ensures.1 in
    role_faults c.from_residual-in_err-open_place.result fault (c.loop-place.place + 1) (omega arith, omega (arith, c.loop-place-test.true)) same c.in_err-open_place.ensures.faults

pub open_default-requires-clause-size : goal.open_default-requires-clause-size
open_default-requires-clause-size g c = c.requires.size

pub open_default-requires-clause-blank : goal.open_default-requires-clause-blank
open_default-requires-clause-blank g c = c.new-opened.ensures

pub returns-in_err-open_default-clause-stands : goal.returns-in_err-open_default-clause-stands
returns-in_err-open_default-clause-stands g c =
    let fault = c.in_err-open_default.field-0.0 in
    let same : c.from_residual.result ≡ Err fault = handed_on c.from_residual.result fault c.from_residual.ensures.1 in
    handed_ok c.from_residual.result fault same _

pub returns-in_err-open_default-clause-unopened : goal.returns-in_err-open_default-clause-unopened
returns-in_err-open_default-clause-unopened g c =
    let fault = c.in_err-open_default.field-0.0 in
    let same : c.from_residual.result ≡ Err fault = handed_on c.from_residual.result fault c.from_residual.ensures.1 in
    handed_err c.from_residual.result fault same _ refl

pub returns-in_err-open_default-clause-damaged : goal.returns-in_err-open_default-clause-damaged
returns-in_err-open_default-clause-damaged g c cell is =
    let fault = c.in_err-open_default.field-0.0 in
    let same : c.from_residual.result ≡ Err fault = handed_on c.from_residual.result fault c.from_residual.ensures.1 in
    c.in_err-open_default.ensures.damaged cell (sym same ∙ is)

pub returns-in_err-open_default-clause-keeps : goal.returns-in_err-open_default-clause-keeps
returns-in_err-open_default-clause-keeps g c = c.open_default.ensures.keeps

pub returns-in_err-open_default-clause-cause : goal.returns-in_err-open_default-clause-cause
returns-in_err-open_default-clause-cause g c =
    let fault = c.in_err-open_default.field-0.0 in
    let same : c.from_residual.result ≡ Err fault = handed_on c.from_residual.result fault c.from_residual.ensures.1 in
    handed_cause c.from_residual.result fault same (g.M.Disk.faults c.args.«module».now) (g.M.Disk.faults c.args.«module».now)
    (g.M.Disk.faults c.open_default.new.«module») refl c.open_default.result c.in_err-open_default.was c.open_default.ensures.cause

pub returns-in_err-open_default-clause-rest : goal.returns-in_err-open_default-clause-rest
returns-in_err-open_default-clause-rest g c = c.open_default.ensures.rest

pub loop-place-init : goal.loop-place-init
loop-place-init g c = record {
  opened = c.in_ok-open_default.ensures.opened;
  roles = c.open_default.ensures.roles;
  keeps = c.open_default.ensures.keeps;
  quiet = c.in_ok-open_default.ensures.cause.quiet (ok_not_err DiskFault);
  rest = c.open_default.ensures.rest;
}

pub open_place-requires-clause-size : goal.open_place-requires-clause-size
open_place-requires-clause-size g c = c.loop-place.invariant.keeps.moments.size ∙ c.requires.size

pub open_place-requires-clause-within : goal.open_place-requires-clause-within
open_place-requires-clause-within g c = c.loop-place-test.true

pub open_place-requires-clause-not_first : goal.open_place-requires-clause-not_first
open_place-requires-clause-not_first g c is = omega (arith, is, c.loop-place.auto.place)

pub open_place-requires-clause-roles : goal.open_place-requires-clause-roles
open_place-requires-clause-roles g c = c.loop-place.invariant.roles

pub returns-in_err-open_place-clause-stands : goal.returns-in_err-open_place-clause-stands
returns-in_err-open_place-clause-stands g c =
    let fault = c.in_err-open_place.field-0.0 in
    let same : c.from_residual-in_err-open_place.result ≡ Err fault =
    handed_on c.from_residual-in_err-open_place.result fault c.from_residual-in_err-open_place.ensures.1 in
    handed_ok c.from_residual-in_err-open_place.result fault same _

pub returns-in_err-open_place-clause-unopened : goal.returns-in_err-open_place-clause-unopened
returns-in_err-open_place-clause-unopened g c =
    let fault = c.in_err-open_place.field-0.0 in
    let same : c.from_residual-in_err-open_place.result ≡ Err fault =
    handed_on c.from_residual-in_err-open_place.result fault c.from_residual-in_err-open_place.ensures.1 in
    handed_err c.from_residual-in_err-open_place.result fault same _ refl

pub returns-in_err-open_place-clause-keeps : goal.returns-in_err-open_place-clause-keeps
returns-in_err-open_place-clause-keeps g c =
    keeps_then (g.M.Disk.medium c.args.«module».now) (g.M.Disk.medium c.loop-place.«module») (g.M.Disk.medium c.open_place.new.«module»)
    c.loop-place.invariant.keeps c.open_place.ensures.keeps

pub returns-in_err-open_place-clause-cause : goal.returns-in_err-open_place-clause-cause
returns-in_err-open_place-clause-cause g c =
    let fault = c.in_err-open_place.field-0.0 in
    let same : c.from_residual-in_err-open_place.result ≡ Err fault =
    handed_on c.from_residual-in_err-open_place.result fault c.from_residual-in_err-open_place.ensures.1 in
    handed_cause c.from_residual-in_err-open_place.result fault same (g.M.Disk.faults c.args.«module».now) (g.M.Disk.faults c.loop-place.«module»)
    (g.M.Disk.faults c.open_place.new.«module») c.loop-place.invariant.quiet c.open_place.result
    c.in_err-open_place.was c.open_place.ensures.cause

pub returns-in_err-open_place-clause-rest : goal.returns-in_err-open_place-clause-rest
returns-in_err-open_place-clause-rest g c =
    rest_then c.args.lease.now c.loop-place.lease c.open_place.new.lease c.loop-place.invariant.rest c.open_place.ensures.rest

pub loop-place-smaller : goal.loop-place-smaller
loop-place-smaller g c = omega (arith, c.loop-place-test.true)

pub loop-place-preserved : goal.loop-place-preserved
loop-place-preserved g c = record {
  opened = told_more (g.M.Disk.medium c.args.«module».now) (g.M.Disk.medium c.loop-place.«module») c.loop-place.place c.loop-place.opened
      c.open_place.new.roles
      c.loop-place.invariant.keeps c.loop-place-test.true c.loop-place.invariant.roles c.loop-place.invariant.opened
      c.in_ok-open_place.ensures.opened;
  roles = c.open_place.ensures.roles;
  keeps = keeps_then (g.M.Disk.medium c.args.«module».now) (g.M.Disk.medium c.loop-place.«module») (g.M.Disk.medium c.open_place.new.«module»)
      c.loop-place.invariant.keeps c.open_place.ensures.keeps;
  quiet = c.in_ok-open_place.ensures.cause.quiet (ok_not_err DiskFault) ∙ c.loop-place.invariant.quiet;
  rest = rest_then c.args.lease.now c.loop-place.lease c.open_place.new.lease c.loop-place.invariant.rest c.open_place.ensures.rest;
}

pub returns-clause-unopened : goal.returns-clause-unopened
returns-clause-unopened g c = tt

pub returns-clause-damaged : goal.returns-clause-damaged
returns-clause-damaged g c cell is = absurd (ok_not_err (Damaged cell) is)

pub returns-clause-faults : goal.returns-clause-faults
returns-clause-faults g c = tt

pub returns-clause-keeps : goal.returns-clause-keeps
returns-clause-keeps g c = c.loop-place.invariant.keeps

pub returns-clause-cause : goal.returns-clause-cause
returns-clause-cause g c = opened_cause (g.M.Disk.faults c.args.«module».now) (g.M.Disk.faults c.loop-place.«module») c.loop-place.invariant.quiet

pub returns-clause-rest : goal.returns-clause-rest
returns-clause-rest g c = c.loop-place.invariant.rest
