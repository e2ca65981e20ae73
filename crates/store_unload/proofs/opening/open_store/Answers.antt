-- A damaged cell is the one that is named, and a store that stands for labels has none.
use Rattle.std.proofs.Common.{◌≡◌, ◌∙◌, ℕ, Result, Err, ap, arith, refl, subst, sym}
use Rattle.device_cells.specs.Medium.{Told}
use Rattle.device_cells.proofs.Media.{keeps_then, settled_kept, settled_keeps}
use Rattle.device_cells.proofs.WhereToldLemmas.{rose_wider}
use Rattle.key_cells.specs.Lease.{bench_of}
use Rattle.master_registers.specs.Loaded.{masters_in}
use Rattle.verb_rules.specs.Keys.{keys_of}
use Rattle.record_bodies.specs.StoreStands.{IsFirstDamaged}
use Rattle.key_records.specs.declared.faults.RecordFault.TheVariants as record_fault
use Rattle.line_service.specs.declared.stops.Device.TheVariants.{Store}
use Rattle.line_service.specs.declared.stops.Stop.{Stop}
use Rattle.line_service.specs.declared.stops.Stop.TheVariants.{Damaged, StoreFault}
use Rattle.request_rules.specs.Judging.{IsStoreStop}
use Rattle.request_rules.specs.Stored.{read_stop}
use Rattle.store_unload.proofs.DiskLemmas.{Left, at_record, cell_named, err_told, left_open, left_shut, no_fault, of_record, record_cell, record_kind}
use Rattle.store_unload.proofs.DiskLemmas.{same_fault}
use Rattle.store_unload.proofs.OpeningLemmas.{told_earlier_as, kept_undamaged}
use Rattle.store_unload.proofs.opening.open_store.Goals as goal

-- ---- the store was opened

pub returns-in-Ok-open_records-clause-judged : goal.returns-in-Ok-open_records-clause-judged
returns-in-Ok-open_records-clause-judged g c = λ still.
    kept_undamaged (g.D.Disk.medium c.args.store.now) (g.D.Disk.medium c.open_records.new.store) (masters_in c.args.held.now (bench_of c.args.lease.now))
    c.open_records.new.records _ (c.open_records.ensures.keeps.content ∙ c.settle.ensures.content) c.in-Ok-open_records.ensures.stands

pub returns-in-Ok-open_records-clause-kept : goal.returns-in-Ok-open_records-clause-kept
returns-in-Ok-open_records-clause-kept g c =
    let d0 = g.D.Disk.medium c.args.store.now in
    let d1 = g.D.Disk.medium c.settle.new.disk in
    keeps_then d0 d1 (g.D.Disk.medium c.open_records.new.store) (settled_keeps d0 d1 c.settle.ensures.content c.settle.ensures.moments) c.open_records.ensures.keeps

pub returns-in-Ok-open_records-clause-left : goal.returns-in-Ok-open_records-clause-left
returns-in-Ok-open_records-clause-left g c =
    let d0 = g.D.Disk.medium c.args.store.now in
    let d1 = g.D.Disk.medium c.settle.new.disk in
    let d2 = g.D.Disk.medium c.open_records.new.store in
    left_open (Unit {0}) d0 d2 _ _
    (keeps_then d0 d1 d2 (settled_keeps d0 d1 c.settle.ensures.content c.settle.ensures.moments) c.open_records.ensures.keeps)
    (omega (arith, c.settle.ensures.cause.later, c.open_records.ensures.cause.later)) tt StoreFault
    (settled_kept d1 d2 c.open_records.ensures.keeps c.in-Ok.ensures.settled)
    (c.open_records.ensures.cause.quiet (λ h. no_fault c.in-Ok-open_records.is h) ∙ c.in-Ok.ensures.cause.quiet)

-- ---- its records weren't read

pub stop_of-requires : goal.stop_of-requires
stop_of-requires g c = of_record c.in-Err-open_records.fault c.in-Err-open_records.ensures.faults

pub returns-in-Err-open_records-clause-damaged : goal.returns-in-Err-open_records-clause-damaged
returns-in-Err-open_records-clause-damaged g c = λ cell h.
    let here = c.in-Err-open_records in
    let keys = keys_of (masters_in c.args.held.now (bench_of c.args.lease.now)) in
    told_earlier_as (g.D.Disk.medium c.args.store.now) (g.D.Disk.medium c.settle.new.disk) (λ image. IsFirstDamaged keys image cell) (λ image. IsFirstDamaged keys image cell)
    c.settle.ensures.content (λ image first. first)
    (c.open_records.ensures.damaged cell (here.is ∙ ap Err (record_cell here.fault cell (err_told {T = Unit {0}} c.stop_of.result (read_stop here.fault) _ c.stop_of.ensures h))))

pub returns-in-Err-open_records-clause-judged : goal.returns-in-Err-open_records-clause-judged
returns-in-Err-open_records-clause-judged g c = λ still.
    let d0 = g.D.Disk.medium c.args.store.now in
    let d1 = g.D.Disk.medium c.settle.new.disk in
    let keys = keys_of (masters_in c.args.held.now (bench_of c.args.lease.now)) in
    let here = c.in-Err-open_records in
    subst (λ (s : Stop). Told d0 (λ image. (cell : ℕ) → IsFirstDamaged keys image cell → ◌≡◌ {A = Result (Unit {0}) Stop} (Err s) (Err (Damaged Store cell)))) (sym c.stop_of.ensures)
    (told_earlier_as d0 d1 _ _ c.settle.ensures.content (λ image each. each)
    (cell_named read_stop record_fault.Damaged (λ n. Damaged Store n) (λ n. refl) (Unit {0}) (λ image n. IsFirstDamaged keys image n) c.open_records.result here.fault here.is d1
    (c.open_records.ensures.exact (λ rose. still (rose_wider _ _ _ _ c.settle.ensures.cause.later c.open_records.ensures.cause.later (omega arith) rose)))))

pub returns-in-Err-open_records-clause-kept : goal.returns-in-Err-open_records-clause-kept
returns-in-Err-open_records-clause-kept g c =
    let d0 = g.D.Disk.medium c.args.store.now in
    let d1 = g.D.Disk.medium c.settle.new.disk in
    keeps_then d0 d1 (g.D.Disk.medium c.open_records.new.store) (settled_keeps d0 d1 c.settle.ensures.content c.settle.ensures.moments) c.open_records.ensures.keeps

pub returns-in-Err-open_records-clause-left : goal.returns-in-Err-open_records-clause-left
returns-in-Err-open_records-clause-left g c =
    let d0 = g.D.Disk.medium c.args.store.now in
    let d1 = g.D.Disk.medium c.settle.new.disk in
    let d2 = g.D.Disk.medium c.open_records.new.store in
    let f0 = g.D.Disk.faults c.args.store.now in
    let f2 = g.D.Disk.faults c.open_records.new.store in
    let here = c.in-Err-open_records in
    subst (λ (s : Stop). Left (Unit {0}) d0 d2 f0 f2 (Err s) StoreFault) (sym c.stop_of.ensures)
    (left_shut (Unit {0}) d0 d2 f0 f2
    (keeps_then d0 d1 d2 (settled_keeps d0 d1 c.settle.ensures.content c.settle.ensures.moments) c.open_records.ensures.keeps)
    (omega (arith, c.settle.ensures.cause.later, c.open_records.ensures.cause.later))
    (read_stop here.fault) StoreFault
    (λ h. rose_wider _ _ _ _ c.settle.ensures.cause.later c.open_records.ensures.cause.later (omega arith)
    (c.open_records.ensures.cause.failed (here.is ∙ ap Err (at_record here.fault here.ensures.faults h))))
    (λ never. c.open_records.ensures.cause.quiet (λ h. never (ap read_stop (same_fault c.open_records.result here.fault record_fault.DiskFault here.is h))) ∙ c.in-Ok.ensures.cause.quiet))

pub returns-in-Err-open_records-clause-stops : goal.returns-in-Err-open_records-clause-stops
returns-in-Err-open_records-clause-stops g c =
    subst IsStoreStop (sym c.stop_of.ensures) (record_kind c.in-Err-open_records.fault c.in-Err-open_records.ensures.faults)

-- ---- its images weren't settled

pub returns-in-Err-clause-kept : goal.returns-in-Err-clause-kept
returns-in-Err-clause-kept g c =
    settled_keeps (g.D.Disk.medium c.args.store.now) (g.D.Disk.medium c.settle.new.disk) c.settle.ensures.content c.settle.ensures.moments

pub returns-in-Err-clause-left : goal.returns-in-Err-clause-left
returns-in-Err-clause-left g c =
    let d0 = g.D.Disk.medium c.args.store.now in
    let d1 = g.D.Disk.medium c.settle.new.disk in
    left_shut (Unit {0}) d0 d1 _ _ (settled_keeps d0 d1 c.settle.ensures.content c.settle.ensures.moments) c.settle.ensures.cause.later
    StoreFault StoreFault (λ h. c.in-Err.ensures.cause.failed) (λ never. absurd (never refl))
