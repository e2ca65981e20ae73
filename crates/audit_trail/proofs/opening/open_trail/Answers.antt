use Rattle.std.proofs.Common.{ℕ, ◌^◌, ◌<◌, Option, None, Some, IfSome, Err, inl, inr, refl, sym, ap, subst, ◌∙◌, arith}
use Rattle.std.proofs.lemmas.Bool.{false≢true}
use Rattle.device_cells.proofs.Media.{keeps_then, told_after, told_earlier, told_joined, told_map, settled_keeps}
use Rattle.device_cells.specs.Medium.{Told}
use Rattle.device_cells.proofs.WhereToldLemmas.{rose_wider}
use Rattle.audit_trail.specs.Opening.{Scanned, Checked}
use Rattle.audit_trail.specs.TrailStands.{StandsForTrail, IsFirstStray, IsFirstStale, IsFirstDamaged}
use Rattle.audit_trail.specs.declared.faults.TrailFault.TheVariants.{DiskFault, Damaged}
use Rattle.audit_trail.proofs.MediumLaws.{same_fault, exact_by}
use Rattle.audit_trail.proofs.OpenedLaws.{opened_kept, opened_left, failed_then, unsettled_rose, unsettled_left}
use Rattle.audit_trail.proofs.ReadingLaws.{ok_not_err, err_as, disk_not_of_damaged}
use Rattle.audit_trail.proofs.OpeningLaws.{stands_blank, blank_undamaged, stands_checked, checked_undamaged}
use Rattle.audit_trail.proofs.opening.open_trail.Goals as goal

pub returns-in-Ok-None-clause-stands : goal.returns-in-Ok-None-clause-stands
returns-in-Ok-None-clause-stands g c =
    let m1 = g.T.Disk.medium c.settle.new.disk in
    let scanned = subst (λ (o : Option ℕ). Told m1 (λ image. Scanned image 4096 o)) c.in-Ok-None.field-0-is c.in-Ok-None.ensures.scanned in
    told_after m1 (g.T.Disk.medium c.scan_cells.new.trail) (λ image. StandsForTrail image c.new.result) c.scan_cells.ensures.keeps.content
    (told_map m1 (λ image. Scanned image 4096 None) (λ image. StandsForTrail image c.new.result) scanned (λ image s. subst (StandsForTrail image) (sym c.new.ensures) (stands_blank image s)))

pub returns-in-Ok-None-clause-exact : goal.returns-in-Ok-None-clause-exact
returns-in-Ok-None-clause-exact g c fell =
    let m1 = g.T.Disk.medium c.settle.new.disk in
    let scanned = subst (λ (o : Option ℕ). Told m1 (λ image. Scanned image 4096 o)) c.in-Ok-None.field-0-is c.in-Ok-None.ensures.scanned in
    told_earlier (g.T.Disk.medium c.args.trail.now) m1 _ c.settle.ensures.content
    (told_map m1 (λ image. Scanned image 4096 None) _ scanned (λ image s cell damaged. absurd (blank_undamaged image s cell damaged)))

pub returns-in-Ok-clause-stands : goal.returns-in-Ok-clause-stands
returns-in-Ok-clause-stands g c =
    let m2 = g.T.Disk.medium c.scan_cells.new.trail in
    told_after m2 (g.T.Disk.medium c.check_cells.new.trail) (λ image. StandsForTrail image c.after.result) c.check_cells.ensures.keeps.content
    (told_map m2 (λ image. Checked image c.in-Ok-Some.last 4096) (λ image. StandsForTrail image c.after.result) c.in-Ok.ensures.checked
    (λ image checked. subst (StandsForTrail image) (sym c.after.ensures) (stands_checked image c.in-Ok-Some.last checked)))

pub returns-in-Ok-clause-exact : goal.returns-in-Ok-clause-exact
returns-in-Ok-clause-exact g c fell =
    let m1 = g.T.Disk.medium c.settle.new.disk in
    let m2 = g.T.Disk.medium c.scan_cells.new.trail in
    let last : ℕ = c.in-Ok-Some.last in
    let scanned = subst (λ (o : Option ℕ). Told m1 (λ image. Scanned image 4096 o)) c.in-Ok-Some.field-0-is c.in-Ok-Some.ensures.scanned in
    told_earlier (g.T.Disk.medium c.args.trail.now) m1 _ c.settle.ensures.content
    (told_earlier m1 m2 _ c.scan_cells.ensures.keeps.content
    (told_joined m2 (λ image. Scanned image 4096 (Some last)) (λ image. Checked image last 4096) _
    (told_after m1 m2 (λ image. Scanned image 4096 (Some last)) c.scan_cells.ensures.keeps.content scanned) c.in-Ok.ensures.checked
    (λ image s checked cell damaged. absurd (checked_undamaged image last s checked cell damaged))))

pub returns-in-Err-check_cells-clause-damaged : goal.returns-in-Err-check_cells-clause-damaged
returns-in-Err-check_cells-clause-damaged g c n is =
    let last : ℕ = c.in-Ok-Some.last in
    told_earlier (g.T.Disk.medium c.args.trail.now) (g.T.Disk.medium c.settle.new.disk) (λ image. IsFirstDamaged image n) c.settle.ensures.content
    (told_earlier (g.T.Disk.medium c.settle.new.disk) (g.T.Disk.medium c.scan_cells.new.trail) (λ image. IsFirstDamaged image n) c.scan_cells.ensures.keeps.content
    (told_map (g.T.Disk.medium c.scan_cells.new.trail) (λ image. IsFirstStale image last n) (λ image. IsFirstDamaged image n) (c.check_cells.ensures.damaged n (c.in-Err-check_cells.is ∙ is)) (λ image stale. inr (last, stale))))

pub returns-in-Err-check_cells-clause-exact : goal.returns-in-Err-check_cells-clause-exact
returns-in-Err-check_cells-clause-exact g c fell =
    exact_by (g.T.Disk.medium c.args.trail.now) c.in-Err-check_cells.fault
    (λ failed. fell (rose_wider _ _ _ _ (omega (arith, c.settle.ensures.cause.later, c.scan_cells.ensures.later)) c.check_cells.ensures.later (omega arith) (c.check_cells.ensures.failed (c.in-Err-check_cells.is ∙ ap Err failed))))
    c.in-Err-check_cells.ensures.faults
    (λ n is. returns-in-Err-check_cells-clause-damaged g c n (ap Err is))

pub returns-in-Err-clause-damaged : goal.returns-in-Err-clause-damaged
returns-in-Err-clause-damaged g c n is =
    told_earlier (g.T.Disk.medium c.args.trail.now) (g.T.Disk.medium c.settle.new.disk) (λ image. IsFirstDamaged image n) c.settle.ensures.content
    (told_map (g.T.Disk.medium c.settle.new.disk) (λ image. IsFirstStray image n) (λ image. IsFirstDamaged image n)
    (c.scan_cells.ensures.damaged n (c.in-Err.is ∙ ap Err (same_fault c.in-Err.fault (Damaged n) is))) (λ image stray. inl stray))

pub returns-in-Err-clause-exact : goal.returns-in-Err-clause-exact
returns-in-Err-clause-exact g c fell =
    exact_by (g.T.Disk.medium c.args.trail.now) c.in-Err.fault
    (λ failed. fell (rose_wider _ _ _ _ (omega (arith, c.settle.ensures.cause.later)) c.scan_cells.ensures.later (omega arith) (c.scan_cells.ensures.failed (c.in-Err.is ∙ ap Err failed))))
    c.in-Err.ensures.faults
    (λ n is. returns-in-Err-clause-damaged g c n (ap Err is))

pub returns-in-Ok-None-clause-keeps : goal.returns-in-Ok-None-clause-keeps
returns-in-Ok-None-clause-keeps g c =
    opened_kept (g.T.Disk.medium c.args.trail.now) (g.T.Disk.medium c.settle.new.disk) (g.T.Disk.medium c.scan_cells.new.trail) (g.T.Disk.faults c.args.trail.now) (g.T.Disk.faults c.settle.new.disk) (g.T.Disk.faults c.scan_cells.new.trail)
    c.settle.result c.if-is_err.ensures.value c.settle.ensures.settled c.settle.ensures.content c.settle.ensures.moments c.settle.ensures.cause
    c.scan_cells.ensures.keeps

pub returns-in-Ok-None-clause-left : goal.returns-in-Ok-None-clause-left
returns-in-Ok-None-clause-left g c =
    opened_left (g.T.Disk.medium c.args.trail.now) (g.T.Disk.medium c.settle.new.disk) (g.T.Disk.medium c.scan_cells.new.trail) (g.T.Disk.faults c.args.trail.now) (g.T.Disk.faults c.settle.new.disk) (g.T.Disk.faults c.scan_cells.new.trail)
    c.settle.result c.if-is_err.ensures.value c.settle.ensures.settled c.settle.ensures.content c.settle.ensures.moments c.settle.ensures.cause
    c.scan_cells.ensures.keeps _ _
    c.scan_cells.ensures.later (λ h. absurd (ok_not_err tt DiskFault h)) (λ none. c.in-Ok-None.ensures.quiet (ok_not_err c.in-Ok-None.field-0 DiskFault))

pub returns-in-Ok-clause-keeps : goal.returns-in-Ok-clause-keeps
returns-in-Ok-clause-keeps g c =
    opened_kept (g.T.Disk.medium c.args.trail.now) (g.T.Disk.medium c.settle.new.disk) (g.T.Disk.medium c.check_cells.new.trail) (g.T.Disk.faults c.args.trail.now) (g.T.Disk.faults c.settle.new.disk) (g.T.Disk.faults c.check_cells.new.trail)
    c.settle.result c.if-is_err.ensures.value c.settle.ensures.settled c.settle.ensures.content c.settle.ensures.moments c.settle.ensures.cause
    (keeps_then (g.T.Disk.medium c.settle.new.disk) (g.T.Disk.medium c.scan_cells.new.trail) (g.T.Disk.medium c.check_cells.new.trail) c.scan_cells.ensures.keeps c.check_cells.ensures.keeps)

pub returns-in-Ok-clause-left : goal.returns-in-Ok-clause-left
returns-in-Ok-clause-left g c =
    opened_left (g.T.Disk.medium c.args.trail.now) (g.T.Disk.medium c.settle.new.disk) (g.T.Disk.medium c.check_cells.new.trail) (g.T.Disk.faults c.args.trail.now) (g.T.Disk.faults c.settle.new.disk) (g.T.Disk.faults c.check_cells.new.trail)
    c.settle.result c.if-is_err.ensures.value c.settle.ensures.settled c.settle.ensures.content c.settle.ensures.moments c.settle.ensures.cause
    (keeps_then (g.T.Disk.medium c.settle.new.disk) (g.T.Disk.medium c.scan_cells.new.trail) (g.T.Disk.medium c.check_cells.new.trail) c.scan_cells.ensures.keeps c.check_cells.ensures.keeps) _ _
    (omega (arith, c.scan_cells.ensures.later, c.check_cells.ensures.later)) (λ h. absurd (ok_not_err tt DiskFault h)) (λ none. c.in-Ok.ensures.quiet (ok_not_err tt DiskFault) ∙ (c.in-Ok-Some.ensures.quiet (ok_not_err c.in-Ok-Some.field-0 DiskFault)))

pub returns-in-Err-check_cells-clause-keeps : goal.returns-in-Err-check_cells-clause-keeps
returns-in-Err-check_cells-clause-keeps g c =
    opened_kept (g.T.Disk.medium c.args.trail.now) (g.T.Disk.medium c.settle.new.disk) (g.T.Disk.medium c.check_cells.new.trail) (g.T.Disk.faults c.args.trail.now) (g.T.Disk.faults c.settle.new.disk) (g.T.Disk.faults c.check_cells.new.trail)
    c.settle.result c.if-is_err.ensures.value c.settle.ensures.settled c.settle.ensures.content c.settle.ensures.moments c.settle.ensures.cause
    (keeps_then (g.T.Disk.medium c.settle.new.disk) (g.T.Disk.medium c.scan_cells.new.trail) (g.T.Disk.medium c.check_cells.new.trail) c.scan_cells.ensures.keeps c.check_cells.ensures.keeps)

pub returns-in-Err-check_cells-clause-left : goal.returns-in-Err-check_cells-clause-left
returns-in-Err-check_cells-clause-left g c =
    opened_left (g.T.Disk.medium c.args.trail.now) (g.T.Disk.medium c.settle.new.disk) (g.T.Disk.medium c.check_cells.new.trail) (g.T.Disk.faults c.args.trail.now) (g.T.Disk.faults c.settle.new.disk) (g.T.Disk.faults c.check_cells.new.trail)
    c.settle.result c.if-is_err.ensures.value c.settle.ensures.settled c.settle.ensures.content c.settle.ensures.moments c.settle.ensures.cause
    (keeps_then (g.T.Disk.medium c.settle.new.disk) (g.T.Disk.medium c.scan_cells.new.trail) (g.T.Disk.medium c.check_cells.new.trail) c.scan_cells.ensures.keeps c.check_cells.ensures.keeps) _ _
    (omega (arith, c.scan_cells.ensures.later, c.check_cells.ensures.later)) (failed_then (g.T.Disk.faults c.settle.new.disk) (g.T.Disk.faults c.scan_cells.new.trail) (g.T.Disk.faults c.check_cells.new.trail) _ (c.in-Ok-Some.ensures.quiet (ok_not_err c.in-Ok-Some.field-0 DiskFault)) c.in-Err-check_cells.ensures.failed) (λ none. c.in-Err-check_cells.ensures.quiet none ∙ (c.in-Ok-Some.ensures.quiet (ok_not_err c.in-Ok-Some.field-0 DiskFault)))

pub returns-in-Err-clause-keeps : goal.returns-in-Err-clause-keeps
returns-in-Err-clause-keeps g c =
    opened_kept (g.T.Disk.medium c.args.trail.now) (g.T.Disk.medium c.settle.new.disk) (g.T.Disk.medium c.scan_cells.new.trail) (g.T.Disk.faults c.args.trail.now) (g.T.Disk.faults c.settle.new.disk) (g.T.Disk.faults c.scan_cells.new.trail)
    c.settle.result c.if-is_err.ensures.value c.settle.ensures.settled c.settle.ensures.content c.settle.ensures.moments c.settle.ensures.cause
    c.scan_cells.ensures.keeps

pub returns-in-Err-clause-left : goal.returns-in-Err-clause-left
returns-in-Err-clause-left g c =
    opened_left (g.T.Disk.medium c.args.trail.now) (g.T.Disk.medium c.settle.new.disk) (g.T.Disk.medium c.scan_cells.new.trail) (g.T.Disk.faults c.args.trail.now) (g.T.Disk.faults c.settle.new.disk) (g.T.Disk.faults c.scan_cells.new.trail)
    c.settle.result c.if-is_err.ensures.value c.settle.ensures.settled c.settle.ensures.content c.settle.ensures.moments c.settle.ensures.cause
    c.scan_cells.ensures.keeps _ _
    c.scan_cells.ensures.later (λ h. c.in-Err.ensures.failed (err_as c.in-Err.fault DiskFault h)) (λ none. c.in-Err.ensures.quiet (λ h. none (err_as c.in-Err.fault DiskFault h)))

pub returns-then-is_err-clause-stands : goal.returns-then-is_err-clause-stands
returns-then-is_err-clause-stands g c = tt

pub returns-then-is_err-clause-unopened : goal.returns-then-is_err-clause-unopened
returns-then-is_err-clause-unopened g c = refl

pub returns-then-is_err-clause-damaged : goal.returns-then-is_err-clause-damaged
returns-then-is_err-clause-damaged g c n is = absurd (disk_not_of_damaged n is)

pub returns-then-is_err-clause-exact : goal.returns-then-is_err-clause-exact
returns-then-is_err-clause-exact g c fell =
    absurd (fell (unsettled_rose (g.T.Disk.medium c.args.trail.now) (g.T.Disk.medium c.settle.new.disk) (g.T.Disk.faults c.args.trail.now)
    (g.T.Disk.faults c.settle.new.disk)
    c.settle.result c.if-is_err.ensures.value c.settle.ensures.cause))

pub returns-then-is_err-clause-faults : goal.returns-then-is_err-clause-faults
returns-then-is_err-clause-faults g c = inl refl

pub returns-then-is_err-clause-keeps : goal.returns-then-is_err-clause-keeps
returns-then-is_err-clause-keeps g c =
    settled_keeps (g.T.Disk.medium c.args.trail.now) (g.T.Disk.medium c.settle.new.disk) c.settle.ensures.content c.settle.ensures.moments

pub returns-then-is_err-clause-left : goal.returns-then-is_err-clause-left
returns-then-is_err-clause-left g c =
    unsettled_left (g.T.Disk.medium c.args.trail.now) (g.T.Disk.medium c.settle.new.disk) (g.T.Disk.faults c.args.trail.now)
    (g.T.Disk.faults c.settle.new.disk)
    c.settle.result c.if-is_err.ensures.value c.settle.ensures.cause _ _ false≢true refl c.settle.ensures.content c.settle.ensures.moments

pub scan_cells-requires : goal.scan_cells-requires
scan_cells-requires g c = c.settle.ensures.moments.size ∙ c.requires

pub check_cells-requires-clause-size : goal.check_cells-requires-clause-size
check_cells-requires-clause-size g c = c.scan_cells.ensures.keeps.moments.size ∙ (c.settle.ensures.moments.size ∙ c.requires)

pub check_cells-requires-clause-scanned : goal.check_cells-requires-clause-scanned
check_cells-requires-clause-scanned g c =
    let m1 = g.T.Disk.medium c.settle.new.disk in
    told_after m1 (g.T.Disk.medium c.scan_cells.new.trail) (λ image. Scanned image 4096 (Some c.in-Ok-Some.last)) c.scan_cells.ensures.keeps.content
    (subst (λ (o : Option ℕ). Told m1 (λ image. Scanned image 4096 o)) c.in-Ok-Some.field-0-is c.in-Ok-Some.ensures.scanned)

pub after-requires : goal.after-requires
after-requires g c = subst (λ (o : Option ℕ). IfSome o (λ (n : ℕ). n < 2 ^ 63)) c.in-Ok-Some.field-0-is c.in-Ok-Some.ensures.low

pub returns-in-Ok-None-clause-unopened : goal.returns-in-Ok-None-clause-unopened
returns-in-Ok-None-clause-unopened g c = tt

pub returns-in-Ok-None-clause-damaged : goal.returns-in-Ok-None-clause-damaged
returns-in-Ok-None-clause-damaged g c n is = absurd (ok_not_err tt (Damaged n) is)

pub returns-in-Ok-None-clause-faults : goal.returns-in-Ok-None-clause-faults
returns-in-Ok-None-clause-faults g c = tt

pub returns-in-Ok-clause-unopened : goal.returns-in-Ok-clause-unopened
returns-in-Ok-clause-unopened g c = tt

pub returns-in-Ok-clause-damaged : goal.returns-in-Ok-clause-damaged
returns-in-Ok-clause-damaged g c n is = absurd (ok_not_err tt (Damaged n) is)

pub returns-in-Ok-clause-faults : goal.returns-in-Ok-clause-faults
returns-in-Ok-clause-faults g c = tt

pub returns-in-Err-check_cells-clause-stands : goal.returns-in-Err-check_cells-clause-stands
returns-in-Err-check_cells-clause-stands g c = tt

pub returns-in-Err-check_cells-clause-unopened : goal.returns-in-Err-check_cells-clause-unopened
returns-in-Err-check_cells-clause-unopened g c = refl

pub returns-in-Err-check_cells-clause-faults : goal.returns-in-Err-check_cells-clause-faults
returns-in-Err-check_cells-clause-faults g c = c.in-Err-check_cells.ensures.faults

pub returns-in-Err-clause-stands : goal.returns-in-Err-clause-stands
returns-in-Err-clause-stands g c = tt

pub returns-in-Err-clause-unopened : goal.returns-in-Err-clause-unopened
returns-in-Err-clause-unopened g c = refl

pub returns-in-Err-clause-faults : goal.returns-in-Err-clause-faults
returns-in-Err-clause-faults g c = c.in-Err.ensures.faults
