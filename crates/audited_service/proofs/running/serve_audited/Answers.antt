-- A run serves from the state of its disks and the entries of its trail.
use Rattle.std.proofs.Common.{refl, ◌∙◌}
use Rattle.device_cells.proofs.Media.{keeps_still}
use Rattle.line_service.specs.Devices.{devices, outside}
use Rattle.audited_service.proofs.FullLemmas.{stood_before, stood_for_some}
use Rattle.audited_service.proofs.GrowingLemmas.{grows_kept, grows_then}
use Rattle.audited_service.proofs.LeftLemmas.{left_audited, left_unopened, left_untrailed}
use Rattle.audited_service.proofs.running.serve_audited.Goals as goal

pub returns-in-Ok-open_trail-clause-ends : goal.returns-in-Ok-open_trail-clause-ends
returns-in-Ok-open_trail-clause-ends g c =
    left_audited g.A.Desk.machine g.W.Scribe.entry_of (g.M.Disk.medium c.args.module.now) (g.M.Disk.medium c.open.new.module) (g.D.Disk.medium c.args.store.now) (g.D.Disk.medium c.open.new.store)
    (g.T.Disk.medium c.args.trail.now) (g.M.Disk.faults c.args.module.now) (g.M.Disk.faults c.open.new.module) (g.D.Disk.faults c.args.store.now) (g.D.Disk.faults c.open.new.store)
    (g.E.Entropy.left c.args.entropy.now) (g.E.Entropy.faults c.args.entropy.now) (g.S.Source.left c.args.source.now) (g.K.Sink.held c.args.sink.now) (g.S.Source.faults c.args.source.now) (g.K.Sink.faults c.args.sink.now)
    (g.T.Disk.medium c.open_trail.new.trail) (g.T.Disk.faults c.args.trail.now) (g.T.Disk.faults c.open_trail.new.trail) c.in-Ok.ensures.left c.in-Ok.ensures.sound c.open_trail.ensures.keeps
    (g.A.Desk.knows c.open.new.self) c.in-Ok.ensures.knows c.open_trail.new.held c.in-Ok-open_trail.ensures.stands c.in-Ok-open_trail.ensures.left c.in-Ok-open_trail.ensures.exact
    (outside (g.S.Source.left c.audit_all.new.source) (g.S.Source.faults c.audit_all.new.source) (g.K.Sink.held c.audit_all.new.sink) (g.K.Sink.faults c.audit_all.new.sink)
    (devices (g.M.Disk.medium c.audit_all.new.module) (g.M.Disk.faults c.audit_all.new.module) (g.D.Disk.medium c.audit_all.new.store) (g.D.Disk.faults c.audit_all.new.store) (g.E.Entropy.left c.audit_all.new.entropy) (g.E.Entropy.faults c.audit_all.new.entropy)))
    (g.T.Disk.medium c.audit_all.new.trail) (g.T.Disk.faults c.audit_all.new.trail) c.audit_all.result c.audit_all.ensures.ends

pub returns-in-Err-open_trail-clause-ends : goal.returns-in-Err-open_trail-clause-ends
returns-in-Err-open_trail-clause-ends g c =
    left_untrailed g.A.Desk.machine g.W.Scribe.entry_of (g.M.Disk.medium c.args.module.now) (g.M.Disk.medium c.open.new.module) (g.D.Disk.medium c.args.store.now) (g.D.Disk.medium c.open.new.store)
    (g.T.Disk.medium c.args.trail.now) (g.M.Disk.faults c.args.module.now) (g.M.Disk.faults c.open.new.module) (g.D.Disk.faults c.args.store.now) (g.D.Disk.faults c.open.new.store)
    (g.E.Entropy.left c.args.entropy.now) (g.E.Entropy.faults c.args.entropy.now) (g.S.Source.left c.args.source.now) (g.K.Sink.held c.args.sink.now) (g.S.Source.faults c.args.source.now) (g.K.Sink.faults c.args.sink.now)
    (g.T.Disk.medium c.open_trail.new.trail) (g.T.Disk.faults c.args.trail.now) (g.T.Disk.faults c.open_trail.new.trail) c.in-Ok.ensures.left c.in-Ok.ensures.sound c.open_trail.ensures.keeps
    c.in-Err-open_trail.fault c.in-Err-open_trail.ensures.faults c.in-Err-open_trail.ensures.left c.in-Err-open_trail.ensures.damaged c.in-Err-open_trail.ensures.exact

pub returns-in-Err-clause-ends : goal.returns-in-Err-clause-ends
returns-in-Err-clause-ends g c =
    left_unopened g.A.Desk.machine g.W.Scribe.entry_of (g.M.Disk.medium c.args.module.now) (g.M.Disk.medium c.open.new.module) (g.D.Disk.medium c.args.store.now) (g.D.Disk.medium c.open.new.store)
    (g.T.Disk.medium c.args.trail.now) (g.M.Disk.faults c.args.module.now) (g.M.Disk.faults c.open.new.module) (g.D.Disk.faults c.args.store.now) (g.D.Disk.faults c.open.new.store)
    (g.E.Entropy.left c.args.entropy.now) (g.E.Entropy.faults c.args.entropy.now) (g.S.Source.left c.args.source.now) (g.K.Sink.held c.args.sink.now) (g.S.Source.faults c.args.source.now) (g.K.Sink.faults c.args.sink.now)
    c.in-Err.stop c.in-Err.ensures.stops c.in-Err.ensures.left c.in-Err.ensures.damage (g.T.Disk.faults c.args.trail.now)

pub returns-in-Ok-open_trail-clause-unsound_trail : goal.returns-in-Ok-open_trail-clause-unsound_trail
returns-in-Ok-open_trail-clause-unsound_trail g c = λ unsound.
    absurd (stood_for_some (g.T.Disk.medium c.args.trail.now) unsound
    (stood_before (g.T.Disk.medium c.args.trail.now) (g.T.Disk.medium c.open_trail.new.trail) c.open_trail.new.held c.open_trail.ensures.keeps c.in-Ok-open_trail.ensures.stands))

pub returns-in-Err-clause-unsound_trail : goal.returns-in-Err-clause-unsound_trail
returns-in-Err-clause-unsound_trail g c = λ unsound. (
  record {
    unsound_source = refl;
    unsound_sink = refl;
    unsound_entropy = refl;
    unsound_module = c.open.ensures.left.module_kept;
    unsound_store = c.open.ensures.left.store_kept;
  },
  keeps_still (g.T.Disk.medium c.args.trail.now),
)

pub returns-in-Ok-open_trail-clause-trail_grows : goal.returns-in-Ok-open_trail-clause-trail_grows
returns-in-Ok-open_trail-clause-trail_grows g c =
    let t0 = g.T.Disk.medium c.args.trail.now in
    let t1 = g.T.Disk.medium c.open_trail.new.trail in
    grows_then t0 t1 (g.T.Disk.medium c.audit_all.new.trail) (grows_kept t0 t1 c.open_trail.ensures.keeps) c.audit_all.ensures.ends.trail.grows

pub returns-in-Err-open_trail-clause-trail_grows : goal.returns-in-Err-open_trail-clause-trail_grows
returns-in-Err-open_trail-clause-trail_grows g c = grows_kept (g.T.Disk.medium c.args.trail.now) (g.T.Disk.medium c.open_trail.new.trail) c.open_trail.ensures.keeps

pub returns-in-Err-clause-trail_grows : goal.returns-in-Err-clause-trail_grows
returns-in-Err-clause-trail_grows g c = grows_kept (g.T.Disk.medium c.args.trail.now) (g.T.Disk.medium c.args.trail.now) (keeps_still (g.T.Disk.medium c.args.trail.now))

pub clear-requires : goal.clear-requires
clear-requires g c = tt

pub open-requires-clause-disks : goal.open-requires-clause-disks
open-requires-clause-disks g c = c.requires.disks

pub open-requires-clause-bench : goal.open-requires-clause-bench
open-requires-clause-bench g c = c.requires.bench

pub open_trail-requires : goal.open_trail-requires
open_trail-requires g c = c.requires.trail

pub audit_all-requires-clause-fresh : goal.audit_all-requires-clause-fresh
audit_all-requires-clause-fresh g c = c.clear.ensures

pub audit_all-requires-clause-disks : goal.audit_all-requires-clause-disks
audit_all-requires-clause-disks g c =
    record {
      module_size = c.open.ensures.left.module_kept.moments.size ∙ c.requires.disks.module_size;
      store_size = c.open.ensures.left.store_kept.moments.size ∙ c.requires.disks.store_size;
      module_settled = c.in-Ok.ensures.left.module_left.settled refl;
      store_settled = c.in-Ok.ensures.left.store_left.settled refl;
    }

pub audit_all-requires-clause-trail : goal.audit_all-requires-clause-trail
audit_all-requires-clause-trail g c = record { size_is = c.open_trail.ensures.keeps.moments.size ∙ c.requires.trail; settled = c.in-Ok-open_trail.ensures.left.settled refl }

pub audit_all-requires-clause-ready : goal.audit_all-requires-clause-ready
audit_all-requires-clause-ready g c = c.in-Ok.ensures.ready

pub audit_all-requires-clause-held : goal.audit_all-requires-clause-held
audit_all-requires-clause-held g c = c.in-Ok-open_trail.ensures.stands

pub audit_all-requires-clause-bench : goal.audit_all-requires-clause-bench
audit_all-requires-clause-bench g c = c.open.ensures.bench

pub returns-in-Ok-open_trail-clause-unsound : goal.returns-in-Ok-open_trail-clause-unsound
returns-in-Ok-open_trail-clause-unsound g c = λ unsound. absurd (unsound c.in-Ok.ensures.sound)

pub returns-in-Ok-open_trail-clause-bench : goal.returns-in-Ok-open_trail-clause-bench
returns-in-Ok-open_trail-clause-bench g c = c.audit_all.ensures.bench

pub returns-in-Err-open_trail-clause-unsound : goal.returns-in-Err-open_trail-clause-unsound
returns-in-Err-open_trail-clause-unsound g c = λ unsound. absurd (unsound c.in-Ok.ensures.sound)

pub returns-in-Err-open_trail-clause-bench : goal.returns-in-Err-open_trail-clause-bench
returns-in-Err-open_trail-clause-bench g c = c.open.ensures.bench

pub returns-in-Err-open_trail-clause-unsound_trail : goal.returns-in-Err-open_trail-clause-unsound_trail
returns-in-Err-open_trail-clause-unsound_trail g c = λ unsound. (
  record {
    unsound_source = refl;
    unsound_sink = refl;
    unsound_entropy = refl;
    unsound_module = c.open.ensures.left.module_kept;
    unsound_store = c.open.ensures.left.store_kept;
  },
  c.open_trail.ensures.keeps,
)

pub returns-in-Err-clause-unsound : goal.returns-in-Err-clause-unsound
returns-in-Err-clause-unsound g c = λ unsound. (
  record {
    unsound_source = refl;
    unsound_sink = refl;
    unsound_entropy = refl;
    unsound_module = c.open.ensures.left.module_kept;
    unsound_store = c.open.ensures.left.store_kept;
  },
  refl,
)

pub returns-in-Err-clause-bench : goal.returns-in-Err-clause-bench
returns-in-Err-clause-bench g c = c.open.ensures.bench
