-- The run goes on from line to line, and each exit follows from how far it has come.
use Rattle.std.proofs.Common.{Ok, Err, ap, ◌∙◌}
use Rattle.device_cells.specs.Medium.{Told}
use Rattle.audit_trail.specs.TrailStands.{StandsForTrail}
use Rattle.line_service.specs.Devices.{outside, devices}
use Rattle.audited_service.proofs.ProgressLemmas.{line_still, records_none, records_more, records_done, records_stopped, records_failed}
use Rattle.audited_service.proofs.running.audit_all.Goals as goal

pub each_line-init : goal.each_line-init
each_line-init g c = record {
  lines = records_none g.A.Desk.machine g.W.Scribe.entry_of (g.A.Desk.knows c.args.desk.now)
      (outside (g.S.Source.left c.args.source.now) (g.S.Source.faults c.args.source.now) (g.K.Sink.held c.args.sink.now) (g.K.Sink.faults c.args.sink.now)
      (devices (g.M.Disk.medium c.args.module.now) (g.M.Disk.faults c.args.module.now) (g.D.Disk.medium c.args.store.now) (g.D.Disk.faults c.args.store.now) (g.E.Entropy.left c.args.entropy.now) (g.E.Entropy.faults c.args.entropy.now)))
      (g.T.Disk.medium c.args.trail.now) (g.T.Disk.faults c.args.trail.now) c.args.lines.now c.requires.fresh c.requires.disks.module_settled c.requires.disks.store_settled c.requires.trail.settled;
  ready = c.requires.ready;
  blank = c.requires.bench;
  held = c.requires.held;
}

pub each_line-preserved : goal.each_line-preserved
each_line-preserved g c =
    let replied = c.in-Ok-served.is ∙ ap Ok c.in-Replied.is in
    record {
      lines = records_more g.A.Desk.machine g.W.Scribe.entry_of (g.A.Desk.knows c.args.desk.now) (g.A.Desk.knows c.each_line.desk) (g.A.Desk.knows c.audit_one.new.desk)
          (outside (g.S.Source.left c.args.source.now) (g.S.Source.faults c.args.source.now) (g.K.Sink.held c.args.sink.now) (g.K.Sink.faults c.args.sink.now)
          (devices (g.M.Disk.medium c.args.module.now) (g.M.Disk.faults c.args.module.now) (g.D.Disk.medium c.args.store.now) (g.D.Disk.faults c.args.store.now) (g.E.Entropy.left c.args.entropy.now) (g.E.Entropy.faults c.args.entropy.now)))
          (record {
            old = outside (g.S.Source.left c.each_line.source) (g.S.Source.faults c.each_line.source) (g.K.Sink.held c.each_line.sink) (g.K.Sink.faults c.each_line.sink)
                (devices (g.M.Disk.medium c.each_line.module) (g.M.Disk.faults c.each_line.module) (g.D.Disk.medium c.each_line.store) (g.D.Disk.faults c.each_line.store) (g.E.Entropy.left c.each_line.entropy) (g.E.Entropy.faults c.each_line.entropy));
            new = outside (g.S.Source.left c.audit_one.new.source) (g.S.Source.faults c.audit_one.new.source) (g.K.Sink.held c.audit_one.new.sink) (g.K.Sink.faults c.audit_one.new.sink)
                (devices (g.M.Disk.medium c.audit_one.new.module) (g.M.Disk.faults c.audit_one.new.module) (g.D.Disk.medium c.audit_one.new.store) (g.D.Disk.faults c.audit_one.new.store) (g.E.Entropy.left c.audit_one.new.entropy) (g.E.Entropy.faults c.audit_one.new.entropy));
          })
          (g.T.Disk.medium c.args.trail.now) (g.T.Disk.medium c.each_line.trail) (g.T.Disk.medium c.audit_one.new.trail) (g.T.Disk.faults c.args.trail.now) (g.T.Disk.faults c.each_line.trail) (g.T.Disk.faults c.audit_one.new.trail)
          c.each_line.lines c.audit_one.new.lines c.each_line.invariant.lines
          c.in-Ok.served replied c.in-Ok.ensures.serves (g.A.Desk.ready c.audit_one.new.desk (g.M.Disk.medium c.audit_one.new.module) (g.D.Disk.medium c.audit_one.new.store))
          (Told (g.T.Disk.medium c.audit_one.new.trail) (λ image. StandsForTrail image c.audit_one.new.held)) c.in-Ok.ensures.kept;
      ready = c.in-Ok.ensures.kept.ready (ap Ok replied);
      blank = c.audit_one.ensures.bench;
      held = c.in-Ok.ensures.kept.held;
    }

pub returns-in-Ended-clause-ends : goal.returns-in-Ended-clause-ends
returns-in-Ended-clause-ends g c =
    records_done g.A.Desk.machine g.W.Scribe.entry_of (g.A.Desk.knows c.args.desk.now) (g.A.Desk.knows c.each_line.desk) (g.A.Desk.knows c.audit_one.new.desk)
    (outside (g.S.Source.left c.args.source.now) (g.S.Source.faults c.args.source.now) (g.K.Sink.held c.args.sink.now) (g.K.Sink.faults c.args.sink.now)
    (devices (g.M.Disk.medium c.args.module.now) (g.M.Disk.faults c.args.module.now) (g.D.Disk.medium c.args.store.now) (g.D.Disk.faults c.args.store.now) (g.E.Entropy.left c.args.entropy.now) (g.E.Entropy.faults c.args.entropy.now)))
    (record {
      old = outside (g.S.Source.left c.each_line.source) (g.S.Source.faults c.each_line.source) (g.K.Sink.held c.each_line.sink) (g.K.Sink.faults c.each_line.sink)
          (devices (g.M.Disk.medium c.each_line.module) (g.M.Disk.faults c.each_line.module) (g.D.Disk.medium c.each_line.store) (g.D.Disk.faults c.each_line.store) (g.E.Entropy.left c.each_line.entropy) (g.E.Entropy.faults c.each_line.entropy));
      new = outside (g.S.Source.left c.audit_one.new.source) (g.S.Source.faults c.audit_one.new.source) (g.K.Sink.held c.audit_one.new.sink) (g.K.Sink.faults c.audit_one.new.sink)
          (devices (g.M.Disk.medium c.audit_one.new.module) (g.M.Disk.faults c.audit_one.new.module) (g.D.Disk.medium c.audit_one.new.store) (g.D.Disk.faults c.audit_one.new.store) (g.E.Entropy.left c.audit_one.new.entropy) (g.E.Entropy.faults c.audit_one.new.entropy));
    })
    (g.T.Disk.medium c.args.trail.now) (g.T.Disk.medium c.each_line.trail) (g.T.Disk.medium c.audit_one.new.trail) (g.T.Disk.faults c.args.trail.now) (g.T.Disk.faults c.each_line.trail) (g.T.Disk.faults c.audit_one.new.trail)
    c.each_line.lines c.audit_one.new.lines c.each_line.invariant.lines
    c.each_line.held c.each_line.invariant.held c.in-Ok.served c.in-Ok.ensures.serves
    (g.A.Desk.ready c.audit_one.new.desk (g.M.Disk.medium c.audit_one.new.module) (g.D.Disk.medium c.audit_one.new.store))
    (Told (g.T.Disk.medium c.audit_one.new.trail) (λ image. StandsForTrail image c.audit_one.new.held)) c.in-Ok.ensures.kept
    (line_still g.K.Sink.held g.M.Disk.medium g.D.Disk.medium g.E.Entropy.left g.T.Disk.medium (Ok c.in-Ok.served) c.each_line.held c.each_line.sink c.audit_one.new.sink
    c.each_line.module c.audit_one.new.module c.each_line.store c.audit_one.new.store c.each_line.entropy c.audit_one.new.entropy c.each_line.desk c.audit_one.new.desk c.each_line.trail c.audit_one.new.trail
    c.in-Ok.ensures.unmoved c.in-Ok.ensures.untrailed c.in-Ok.ensures.failed)
    (c.in-Ok-served.is ∙ ap Ok c.in-Ended.is)

pub returns-in-Err-served-clause-ends : goal.returns-in-Err-served-clause-ends
returns-in-Err-served-clause-ends g c =
    records_stopped g.A.Desk.machine g.W.Scribe.entry_of (g.A.Desk.knows c.args.desk.now) (g.A.Desk.knows c.each_line.desk) (g.A.Desk.knows c.audit_one.new.desk)
    (outside (g.S.Source.left c.args.source.now) (g.S.Source.faults c.args.source.now) (g.K.Sink.held c.args.sink.now) (g.K.Sink.faults c.args.sink.now)
    (devices (g.M.Disk.medium c.args.module.now) (g.M.Disk.faults c.args.module.now) (g.D.Disk.medium c.args.store.now) (g.D.Disk.faults c.args.store.now) (g.E.Entropy.left c.args.entropy.now) (g.E.Entropy.faults c.args.entropy.now)))
    (record {
      old = outside (g.S.Source.left c.each_line.source) (g.S.Source.faults c.each_line.source) (g.K.Sink.held c.each_line.sink) (g.K.Sink.faults c.each_line.sink)
          (devices (g.M.Disk.medium c.each_line.module) (g.M.Disk.faults c.each_line.module) (g.D.Disk.medium c.each_line.store) (g.D.Disk.faults c.each_line.store) (g.E.Entropy.left c.each_line.entropy) (g.E.Entropy.faults c.each_line.entropy));
      new = outside (g.S.Source.left c.audit_one.new.source) (g.S.Source.faults c.audit_one.new.source) (g.K.Sink.held c.audit_one.new.sink) (g.K.Sink.faults c.audit_one.new.sink)
          (devices (g.M.Disk.medium c.audit_one.new.module) (g.M.Disk.faults c.audit_one.new.module) (g.D.Disk.medium c.audit_one.new.store) (g.D.Disk.faults c.audit_one.new.store) (g.E.Entropy.left c.audit_one.new.entropy) (g.E.Entropy.faults c.audit_one.new.entropy));
    })
    (g.T.Disk.medium c.args.trail.now) (g.T.Disk.medium c.each_line.trail) (g.T.Disk.medium c.audit_one.new.trail) (g.T.Disk.faults c.args.trail.now) (g.T.Disk.faults c.each_line.trail) (g.T.Disk.faults c.audit_one.new.trail)
    c.each_line.lines c.audit_one.new.lines c.each_line.invariant.lines
    c.each_line.held c.each_line.invariant.held c.in-Ok.served c.in-Ok.ensures.serves
    (g.A.Desk.ready c.audit_one.new.desk (g.M.Disk.medium c.audit_one.new.module) (g.D.Disk.medium c.audit_one.new.store))
    (Told (g.T.Disk.medium c.audit_one.new.trail) (λ image. StandsForTrail image c.audit_one.new.held)) c.in-Ok.ensures.kept
    (line_still g.K.Sink.held g.M.Disk.medium g.D.Disk.medium g.E.Entropy.left g.T.Disk.medium (Ok c.in-Ok.served) c.each_line.held c.each_line.sink c.audit_one.new.sink
    c.each_line.module c.audit_one.new.module c.each_line.store c.audit_one.new.store c.each_line.entropy c.audit_one.new.entropy c.each_line.desk c.audit_one.new.desk c.each_line.trail c.audit_one.new.trail
    c.in-Ok.ensures.unmoved c.in-Ok.ensures.untrailed c.in-Ok.ensures.failed)
    c.in-Err-served.stop c.in-Err-served.is

pub returns-in-Err-clause-ends : goal.returns-in-Err-clause-ends
returns-in-Err-clause-ends g c =
    records_failed g.A.Desk.machine g.W.Scribe.entry_of (g.A.Desk.knows c.args.desk.now) (g.A.Desk.knows c.each_line.desk) (g.A.Desk.knows c.audit_one.new.desk)
    (outside (g.S.Source.left c.args.source.now) (g.S.Source.faults c.args.source.now) (g.K.Sink.held c.args.sink.now) (g.K.Sink.faults c.args.sink.now)
    (devices (g.M.Disk.medium c.args.module.now) (g.M.Disk.faults c.args.module.now) (g.D.Disk.medium c.args.store.now) (g.D.Disk.faults c.args.store.now) (g.E.Entropy.left c.args.entropy.now) (g.E.Entropy.faults c.args.entropy.now)))
    (record {
      old = outside (g.S.Source.left c.each_line.source) (g.S.Source.faults c.each_line.source) (g.K.Sink.held c.each_line.sink) (g.K.Sink.faults c.each_line.sink)
          (devices (g.M.Disk.medium c.each_line.module) (g.M.Disk.faults c.each_line.module) (g.D.Disk.medium c.each_line.store) (g.D.Disk.faults c.each_line.store) (g.E.Entropy.left c.each_line.entropy) (g.E.Entropy.faults c.each_line.entropy));
      new = outside (g.S.Source.left c.audit_one.new.source) (g.S.Source.faults c.audit_one.new.source) (g.K.Sink.held c.audit_one.new.sink) (g.K.Sink.faults c.audit_one.new.sink)
          (devices (g.M.Disk.medium c.audit_one.new.module) (g.M.Disk.faults c.audit_one.new.module) (g.D.Disk.medium c.audit_one.new.store) (g.D.Disk.faults c.audit_one.new.store) (g.E.Entropy.left c.audit_one.new.entropy) (g.E.Entropy.faults c.audit_one.new.entropy));
    })
    (g.T.Disk.medium c.args.trail.now) (g.T.Disk.medium c.each_line.trail) (g.T.Disk.medium c.audit_one.new.trail) (g.T.Disk.faults c.args.trail.now) (g.T.Disk.faults c.each_line.trail) (g.T.Disk.faults c.audit_one.new.trail)
    c.each_line.lines c.audit_one.new.lines c.each_line.invariant.lines
    c.each_line.held c.each_line.invariant.held c.in-Err.fault c.in-Err.ensures.serves
    (g.A.Desk.ready c.audit_one.new.desk (g.M.Disk.medium c.audit_one.new.module) (g.D.Disk.medium c.audit_one.new.store))
    (Told (g.T.Disk.medium c.audit_one.new.trail) (λ image. StandsForTrail image c.audit_one.new.held)) c.in-Err.ensures.kept
    (line_still g.K.Sink.held g.M.Disk.medium g.D.Disk.medium g.E.Entropy.left g.T.Disk.medium (Err c.in-Err.fault) c.each_line.held c.each_line.sink c.audit_one.new.sink
    c.each_line.module c.audit_one.new.module c.each_line.store c.audit_one.new.store c.each_line.entropy c.audit_one.new.entropy c.each_line.desk c.audit_one.new.desk c.each_line.trail c.audit_one.new.trail
    c.in-Err.ensures.unmoved c.in-Err.ensures.untrailed c.in-Err.ensures.failed)

pub audit_one-requires-clause-bench : goal.audit_one-requires-clause-bench
audit_one-requires-clause-bench g c = c.each_line.invariant.blank

pub audit_one-requires-clause-ready : goal.audit_one-requires-clause-ready
audit_one-requires-clause-ready g c = c.each_line.invariant.ready

pub audit_one-requires-clause-held : goal.audit_one-requires-clause-held
audit_one-requires-clause-held g c = c.each_line.invariant.held

pub returns-in-Ended-clause-bench : goal.returns-in-Ended-clause-bench
returns-in-Ended-clause-bench g c = c.audit_one.ensures.bench

pub returns-in-Err-served-clause-bench : goal.returns-in-Err-served-clause-bench
returns-in-Err-served-clause-bench g c = c.audit_one.ensures.bench

pub returns-in-Err-clause-bench : goal.returns-in-Err-clause-bench
returns-in-Err-clause-bench g c = c.audit_one.ensures.bench
