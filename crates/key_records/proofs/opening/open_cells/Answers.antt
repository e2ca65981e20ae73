use Rattle.std.proofs.Common.{◌≡◌, ◌+◌, ℕ, Err, inl, inr, ⊎_elim, refl, sym, ap, subst, ◌∙◌, arith}
use Rattle.device_cells.specs.Cells.{body}
use Rattle.device_cells.specs.Medium.{Told}
use Rattle.device_cells.proofs.WhereToldLemmas.{rose_wider}
use Rattle.verb_rules.specs.Keys.{keys_of}
use Rattle.key_records.specs.declared.faults.RecordFault.TheVariants.{DiskFault, Damaged}
use Rattle.device_cells.proofs.Media.{keeps_still, keeps_then, told_map, told_next}
use Rattle.record_bodies.specs.Opening.{OpenedTo, IsRefused, Opens}
use Rattle.record_bodies.specs.StoreStands.{KeepsLabels, labels_in, IsFirstDamaged}
use Rattle.record_bodies.proofs.OpeningLaws.{opened_none, opened_more, opened_all, refused_damaged, stands_undamaged, first_one}
use Rattle.key_records.proofs.StoreLaws.{told_all}
use Rattle.key_records.proofs.ReadLaws.{cause_from, cause_none, changed_then}
use Rattle.key_records.proofs.opening.open_cells.Goals as goal
use Rattle.key_cells.proofs.AnswerLemmas.{no_err}

pub loop-cell-init : goal.loop-cell-init
loop-cell-init g c = record {
  opened = told_all (g.D.Disk.medium c.args.store.now) (λ image. OpenedTo (keys_of g.m) image 0 c.clear.new.self) (λ image. opened_none (keys_of g.m) image c.clear.new.self c.clear.ensures.cleared);
  rows = c.clear.ensures.rows;
  keeps = keeps_still (g.D.Disk.medium c.args.store.now);
  quiet = refl;
  rest = refl;
}

pub returns-in-Err-clause-damaged : goal.returns-in-Err-clause-damaged
returns-in-Err-clause-damaged g c n is =
    let cell : ℕ = c.loop-cell.cell in
    let refused = c.open_cell.ensures.damaged n (c.in-Err.is ∙ is) in
    subst (λ (k : ℕ). Told (g.D.Disk.medium c.args.store.now) (λ image. IsFirstDamaged (keys_of g.m) image k)) (sym refused.0)
    (told_next (g.D.Disk.medium c.args.store.now) (g.D.Disk.medium c.loop-cell.store) (λ image. OpenedTo (keys_of g.m) image cell c.loop-cell.records) (λ image. IsRefused (keys_of g.m) (body image cell) c.loop-cell.records)
    (λ image. IsFirstDamaged (keys_of g.m) image cell) c.loop-cell.invariant.keeps c.loop-cell.invariant.opened refused.1
    (λ image opened refuses. refused_damaged (keys_of g.m) image cell c.loop-cell.records opened c.loop-cell.invariant.rows c.loop-cell-test.true refuses))

pub returns-in-Err-clause-faults : goal.returns-in-Err-clause-faults
returns-in-Err-clause-faults g c =
    ⊎_elim
    (λ (failed : c.in-Err.fault ≡ DiskFault). inl failed)
    (λ (damaged : c.in-Err.fault ≡ Damaged c.loop-cell.cell). inr (c.loop-cell.cell, c.loop-cell-test.true, damaged))
    c.in-Err.ensures.faults

pub returns-in-Err-clause-keeps : goal.returns-in-Err-clause-keeps
returns-in-Err-clause-keeps g c =
    keeps_then (g.D.Disk.medium c.args.store.now) (g.D.Disk.medium c.loop-cell.store) (g.D.Disk.medium c.open_cell.new.store)
    c.loop-cell.invariant.keeps c.open_cell.ensures.keeps

pub returns-in-Err-clause-cause : goal.returns-in-Err-clause-cause
returns-in-Err-clause-cause g c =
    cause_from (g.D.Disk.faults c.args.store.now) (g.D.Disk.faults c.loop-cell.store) (g.D.Disk.faults c.open_cell.new.store) (Err c.in-Err.fault)
    c.loop-cell.invariant.quiet c.in-Err.ensures.cause

pub returns-in-Err-clause-rest : goal.returns-in-Err-clause-rest
returns-in-Err-clause-rest g c =
    changed_then c.args.lease.now c.loop-cell.lease c.open_cell.new.lease c.loop-cell.invariant.rest c.open_cell.ensures.rest

pub returns-clause-keeps : goal.returns-clause-keeps
returns-clause-keeps g c = c.loop-cell.invariant.keeps

pub returns-clause-cause : goal.returns-clause-cause
returns-clause-cause g c = cause_none (g.D.Disk.faults c.args.store.now) (g.D.Disk.faults c.loop-cell.store) c.loop-cell.invariant.quiet

pub returns-clause-rest : goal.returns-clause-rest
returns-clause-rest g c = c.loop-cell.invariant.rest

pub loop-cell-preserved : goal.loop-cell-preserved
loop-cell-preserved g c =
    let cell : ℕ = c.loop-cell.cell in
    record {
      opened = told_next (g.D.Disk.medium c.args.store.now) (g.D.Disk.medium c.loop-cell.store) (λ image. OpenedTo (keys_of g.m) image cell c.loop-cell.records) (λ image. Opens (keys_of g.m) (body image cell) cell c.loop-cell.records c.open_cell.new.records)
          (λ image. OpenedTo (keys_of g.m) image (cell + 1) c.open_cell.new.records) c.loop-cell.invariant.keeps c.loop-cell.invariant.opened c.in-Ok.ensures.opened
          (λ image opened opens. opened_more (keys_of g.m) image cell c.loop-cell.records opened c.open_cell.new.records (omega (arith, c.loop-cell.invariant.rows.size, c.loop-cell-test.true)) opens);
      rows = c.open_cell.ensures.rows;
      keeps = keeps_then (g.D.Disk.medium c.args.store.now) (g.D.Disk.medium c.loop-cell.store) (g.D.Disk.medium c.open_cell.new.store) c.loop-cell.invariant.keeps c.open_cell.ensures.keeps;
      quiet = c.in-Ok.ensures.cause.quiet (λ is. no_err is) ∙ c.loop-cell.invariant.quiet;
      rest = changed_then c.args.lease.now c.loop-cell.lease c.open_cell.new.lease c.loop-cell.invariant.rest c.open_cell.ensures.rest;
    }

pub returns-clause-stands : goal.returns-clause-stands
returns-clause-stands g c =
    let all : c.loop-cell.cell ≡ 1024 = omega (arith, c.loop-cell-test.false, c.loop-cell.auto.cell-end) in
    told_map (g.D.Disk.medium c.args.store.now) (λ image. OpenedTo (keys_of g.m) image c.loop-cell.cell c.loop-cell.records) (λ image. KeepsLabels (keys_of g.m) c.loop-cell.records (labels_in (keys_of g.m) image) image) c.loop-cell.invariant.opened
    (λ image opened. opened_all (keys_of g.m) image c.loop-cell.records (subst (λ (n : ℕ). OpenedTo (keys_of g.m) image n c.loop-cell.records) all opened) c.loop-cell.invariant.rows)

pub returns-clause-exact : goal.returns-clause-exact
returns-clause-exact g c _ =
    told_map (g.D.Disk.medium c.args.store.now) (λ image. KeepsLabels (keys_of g.m) c.loop-cell.records (labels_in (keys_of g.m) image) image) _ (returns-clause-stands g c)
    (λ image keeps n first. absurd (stands_undamaged (keys_of g.m) image (labels_in (keys_of g.m) image) n keeps.stands first.within first.damaged))

pub returns-in-Err-clause-exact : goal.returns-in-Err-clause-exact
returns-in-Err-clause-exact g c fell =
    ⊎_elim
    (λ (failed : c.in-Err.fault ≡ DiskFault). absurd (fell (rose_wider (g.D.Disk.faults c.args.store.now) (g.D.Disk.faults c.loop-cell.store) (g.D.Disk.faults c.open_cell.new.store) (g.D.Disk.faults c.open_cell.new.store) (omega (arith, c.loop-cell.invariant.quiet))
    c.open_cell.ensures.cause.later (omega arith) (c.open_cell.ensures.cause.failed (c.in-Err.is ∙ ap (λ f. Err f) failed)))))
    (λ (damaged : c.in-Err.fault ≡ Damaged c.loop-cell.cell).
    told_map (g.D.Disk.medium c.args.store.now) (λ image. IsFirstDamaged (keys_of g.m) image c.loop-cell.cell) _ (returns-in-Err-clause-damaged g c c.loop-cell.cell (ap (λ f. Err f) damaged))
    (λ image first n other. ap (λ f. Err f) (damaged ∙ ap (λ k. Damaged k) (first_one (keys_of g.m) image c.loop-cell.cell n first other))))
    c.in-Err.ensures.faults
