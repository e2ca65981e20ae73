-- The disks that were opened stand for a state.
use Rattle.std.proofs.Common.{◌∙◌}
use Rattle.key_cells.specs.Lease.{bench_of}
use Rattle.request_rules.specs.Standing.{tables}
use Rattle.store_unload.proofs.CalledLemmas.{labels_opens}
use Rattle.store_unload.proofs.LeftLemmas.{left_opened, left_unopened}
use Rattle.store_unload.proofs.MoveLemmas.{stop_opens}
use Rattle.store_unload.proofs.unloading.move_store.Goals as goal

pub returns-in-Ok-clause-ends : goal.returns-in-Ok-clause-ends
returns-in-Ok-clause-ends g c =
    left_opened c.args.how.now c.args.sink.now c.move_labels.new.sink c.args.report.now c.move_labels.new.report
    (g.M.Disk.medium c.args.module.now) (g.M.Disk.faults c.args.module.now)
    (g.M.Disk.medium c.open_disks.new.module) (g.M.Disk.faults c.open_disks.new.module)
    (g.D.Disk.medium c.args.store.now) (g.D.Disk.faults c.args.store.now)
    (g.D.Disk.medium c.open_disks.new.store) (g.D.Disk.faults c.open_disks.new.store)
    (g.K.Sink.held c.args.sink.now) (g.K.Sink.held c.move_labels.new.sink)
    (g.K.Sink.faults c.args.sink.now) (g.K.Sink.faults c.move_labels.new.sink)
    (g.P.Sink.held c.args.report.now) (g.P.Sink.held c.move_labels.new.report)
    (g.P.Sink.faults c.args.report.now) (g.P.Sink.faults c.move_labels.new.report)
    c.open_disks.result c.in-Ok.held c.in-Ok.is (bench_of c.open_disks.new.lease)
    (tables c.open_disks.new.roles c.open_disks.new.records) c.move_labels.result
    (g.D.Disk.medium c.move_labels.new.store) (g.D.Disk.faults c.move_labels.new.store)
    c.in-Ok.ensures.known c.in-Ok.ensures.opened c.in-Ok.ensures.loaded c.in-Ok.ensures.registers
    c.open_disks.ensures.left c.move_labels.ensures.statuses c.move_labels.ensures.told c.move_labels.ensures.own
    c.move_labels.ensures.refusal c.move_labels.ensures.untold c.move_labels.ensures.keeps c.move_labels.ensures.store_left
    c.move_labels.ensures.outputs

pub returns-in-Err-clause-ends : goal.returns-in-Err-clause-ends
returns-in-Err-clause-ends g c =
    left_unopened c.args.how.now c.args.sink.now c.args.sink.now c.args.report.now c.args.report.now
    (g.M.Disk.medium c.args.module.now) (g.M.Disk.faults c.args.module.now)
    (g.M.Disk.medium c.open_disks.new.module) (g.M.Disk.faults c.open_disks.new.module)
    (g.D.Disk.medium c.args.store.now) (g.D.Disk.faults c.args.store.now)
    (g.D.Disk.medium c.open_disks.new.store) (g.D.Disk.faults c.open_disks.new.store)
    (g.K.Sink.held c.args.sink.now) (g.K.Sink.held c.args.sink.now)
    (g.K.Sink.faults c.args.sink.now) (g.K.Sink.faults c.args.sink.now)
    (g.P.Sink.held c.args.report.now) (g.P.Sink.held c.args.report.now)
    (g.P.Sink.faults c.args.report.now) (g.P.Sink.faults c.args.report.now)
    c.open_disks.result c.in-Err.stop c.status_of.result c.in-Err.is c.in-Err.ensures.stops c.status_of.ensures
    c.open_disks.ensures.damage c.open_disks.ensures.left

pub returns-in-Ok-clause-statuses : goal.returns-in-Ok-clause-statuses
returns-in-Ok-clause-statuses g c = labels_opens c.move_labels.result c.move_labels.ensures.statuses

pub returns-in-Err-clause-statuses : goal.returns-in-Err-clause-statuses
returns-in-Err-clause-statuses g c =
    stop_opens c.open_disks.result c.in-Err.stop c.status_of.result c.in-Err.is c.status_of.ensures c.in-Err.ensures.stops
    c.open_disks.ensures.damage.cells

-- ---- the bench is lent as before

pub returns-in-Ok-clause-loan : goal.returns-in-Ok-clause-loan
returns-in-Ok-clause-loan g c = c.move_labels.ensures.loan ∙ c.open_disks.ensures.loan

pub returns-in-Err-clause-loan : goal.returns-in-Err-clause-loan
returns-in-Err-clause-loan g c = c.open_disks.ensures.loan

-- ---- the disks are called

pub open_disks-requires : goal.open_disks-requires
open_disks-requires g c = c.requires

pub move_labels-requires-clause-holds : goal.move_labels-requires-clause-holds
move_labels-requires-clause-holds g c = c.in-Ok.ensures.known.in_store
