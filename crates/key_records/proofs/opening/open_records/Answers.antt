use Rattle.std.proofs.Common.{◌∙◌, sym}
use Rattle.device_cells.proofs.Media.{told_map, told_still}
use Rattle.key_cells.specs.Lease.{bench_of}
use Rattle.master_registers.specs.Loaded.{masters_in}
use Rattle.record_bodies.specs.StoreStands.{KeepsLabels, HoldsRows, labels_in}
use Rattle.verb_rules.specs.Keys.{keys_of}
use Rattle.key_records.proofs.ReadLaws.{keeps_holds}
use Rattle.key_records.proofs.opening.open_records.Goals as goal

pub open_cells-requires : goal.open_cells-requires
open_cells-requires g c κs within = (within, (c.requires.size, (c.requires.loaded, c.coming_pattern-coming.ensures)))

pub returns-in-Ok-clause-stands : goal.returns-in-Ok-clause-stands
returns-in-Ok-clause-stands g c =
    let masters = keys_of (masters_in c.args.held.now (bench_of c.args.lease.now)) in
    told_still (g.D.Disk.medium c.args.store.now) (g.D.Disk.medium c.open_cells.new.store) (λ image. KeepsLabels masters c.open_cells.new.records (labels_in masters image) image) c.open_cells.ensures.keeps c.in-Ok.ensures.stands

pub returns-in-Ok-clause-holds : goal.returns-in-Ok-clause-holds
returns-in-Ok-clause-holds g c =
    let masters = keys_of (masters_in c.args.held.now (bench_of c.args.lease.now)) in
    told_map (g.D.Disk.medium c.open_cells.new.store) (λ image. KeepsLabels masters c.open_cells.new.records (labels_in masters image) image) (HoldsRows c.open_cells.new.records) (returns-in-Ok-clause-stands g c)
    (λ image keeps. keeps_holds masters c.open_cells.new.records (labels_in masters image) image keeps)

pub returns-in-Ok-clause-exact : goal.returns-in-Ok-clause-exact
returns-in-Ok-clause-exact g c fell =
    let masters = keys_of (masters_in c.args.held.now (bench_of c.args.lease.now)) in
    told_map (g.D.Disk.medium c.args.store.now) _ _ (c.open_cells.ensures.exact fell) (λ image first cell damaged. sym c.in-Ok.is ∙ first cell damaged)

pub returns-in-Err-clause-damaged : goal.returns-in-Err-clause-damaged
returns-in-Err-clause-damaged g c cell is = c.open_cells.ensures.damaged cell (c.in-Err.is ∙ is)

pub returns-in-Err-clause-exact : goal.returns-in-Err-clause-exact
returns-in-Err-clause-exact g c fell =
    told_map (g.D.Disk.medium c.args.store.now) _ _ (c.open_cells.ensures.exact fell) (λ image first cell damaged. sym c.in-Err.is ∙ first cell damaged)
