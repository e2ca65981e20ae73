-- The run goes on from line to line, and each exit follows from how far it has come.
use Rattle.std.proofs.Common.{Ok, ap, ◌∙◌}
use Rattle.line_service.specs.Devices.{outside, devices}
use Rattle.line_service.proofs.CourseLemmas.{unmoved_world}
use Rattle.line_service.proofs.ProgressLemmas.{lines_none, lines_more, lines_ended, lines_stopped}
use Rattle.line_service.proofs.running.serve_all.Goals as goal

pub each_line-init : goal.each_line-init
each_line-init g c = record {
  lines = lines_none g.A.Desk.machine (g.A.Desk.knows c.args.desk.now)
      (outside (g.S.Source.left c.args.source.now) (g.S.Source.faults c.args.source.now) (g.K.Sink.held c.args.sink.now) (g.K.Sink.faults c.args.sink.now)
      (devices (g.M.Disk.medium c.args.module.now) (g.M.Disk.faults c.args.module.now) (g.D.Disk.medium c.args.store.now) (g.D.Disk.faults c.args.store.now) (g.E.Entropy.left c.args.entropy.now) (g.E.Entropy.faults c.args.entropy.now)))
      c.args.lines.now c.requires.fresh c.requires.disks.module_settled c.requires.disks.store_settled;
  ready = c.requires.ready;
  blank = c.requires.bench;
}

pub each_line-preserved : goal.each_line-preserved
each_line-preserved g c =
    let replied = c.in-Ok-Replied.is ∙ ap Ok c.in-Ok-Replied.field-0-is in
    record {
      lines = lines_more g.A.Desk.machine (g.A.Desk.knows c.args.desk.now) (g.A.Desk.knows c.each_line.desk) (g.A.Desk.knows c.serve_one.new.desk)
          (outside (g.S.Source.left c.args.source.now) (g.S.Source.faults c.args.source.now) (g.K.Sink.held c.args.sink.now) (g.K.Sink.faults c.args.sink.now)
          (devices (g.M.Disk.medium c.args.module.now) (g.M.Disk.faults c.args.module.now) (g.D.Disk.medium c.args.store.now) (g.D.Disk.faults c.args.store.now) (g.E.Entropy.left c.args.entropy.now) (g.E.Entropy.faults c.args.entropy.now)))
          (record {
            old = outside (g.S.Source.left c.each_line.source) (g.S.Source.faults c.each_line.source) (g.K.Sink.held c.each_line.sink) (g.K.Sink.faults c.each_line.sink)
                (devices (g.M.Disk.medium c.each_line.module) (g.M.Disk.faults c.each_line.module) (g.D.Disk.medium c.each_line.store) (g.D.Disk.faults c.each_line.store) (g.E.Entropy.left c.each_line.entropy) (g.E.Entropy.faults c.each_line.entropy));
            new = outside (g.S.Source.left c.serve_one.new.source) (g.S.Source.faults c.serve_one.new.source) (g.K.Sink.held c.serve_one.new.sink) (g.K.Sink.faults c.serve_one.new.sink)
                (devices (g.M.Disk.medium c.serve_one.new.module) (g.M.Disk.faults c.serve_one.new.module) (g.D.Disk.medium c.serve_one.new.store) (g.D.Disk.faults c.serve_one.new.store) (g.E.Entropy.left c.serve_one.new.entropy) (g.E.Entropy.faults c.serve_one.new.entropy));
          })
          c.each_line.lines c.serve_one.new.lines c.serve_one.result c.each_line.invariant.lines
          c.serve_one.ensures.serves c.serve_one.ensures.taken c.serve_one.ensures.left replied (c.serve_one.ensures.replied replied);
      ready = c.in-Ok-Replied.ensures.ready;
      blank = c.serve_one.ensures.bench;
    }

pub returns-in-Err-clause-ends : goal.returns-in-Err-clause-ends
returns-in-Err-clause-ends g c =
    lines_stopped g.A.Desk.machine (g.A.Desk.knows c.args.desk.now) (g.A.Desk.knows c.each_line.desk) (g.A.Desk.knows c.serve_one.new.desk)
    (outside (g.S.Source.left c.args.source.now) (g.S.Source.faults c.args.source.now) (g.K.Sink.held c.args.sink.now) (g.K.Sink.faults c.args.sink.now)
    (devices (g.M.Disk.medium c.args.module.now) (g.M.Disk.faults c.args.module.now) (g.D.Disk.medium c.args.store.now) (g.D.Disk.faults c.args.store.now) (g.E.Entropy.left c.args.entropy.now) (g.E.Entropy.faults c.args.entropy.now)))
    (record {
      old = outside (g.S.Source.left c.each_line.source) (g.S.Source.faults c.each_line.source) (g.K.Sink.held c.each_line.sink) (g.K.Sink.faults c.each_line.sink)
          (devices (g.M.Disk.medium c.each_line.module) (g.M.Disk.faults c.each_line.module) (g.D.Disk.medium c.each_line.store) (g.D.Disk.faults c.each_line.store) (g.E.Entropy.left c.each_line.entropy) (g.E.Entropy.faults c.each_line.entropy));
      new = outside (g.S.Source.left c.serve_one.new.source) (g.S.Source.faults c.serve_one.new.source) (g.K.Sink.held c.serve_one.new.sink) (g.K.Sink.faults c.serve_one.new.sink)
          (devices (g.M.Disk.medium c.serve_one.new.module) (g.M.Disk.faults c.serve_one.new.module) (g.D.Disk.medium c.serve_one.new.store) (g.D.Disk.faults c.serve_one.new.store) (g.E.Entropy.left c.serve_one.new.entropy) (g.E.Entropy.faults c.serve_one.new.entropy));
    })
    c.each_line.lines c.serve_one.new.lines c.serve_one.result c.each_line.invariant.lines
    c.serve_one.ensures.serves c.serve_one.ensures.taken c.serve_one.ensures.left
    (unmoved_world g.M.Disk.medium g.D.Disk.medium g.E.Entropy.left c.serve_one.result c.each_line.sink c.serve_one.new.sink c.each_line.module c.serve_one.new.module
    c.each_line.store c.serve_one.new.store c.each_line.entropy c.serve_one.new.entropy c.each_line.desk c.serve_one.new.desk c.serve_one.ensures.unmoved)
    (λ unreplied uncut. ap g.K.Sink.held (c.serve_one.ensures.unmoved.sink_unmoved unreplied uncut)) c.serve_one.ensures.cut c.serve_one.ensures.undamaged c.in-Err.stop c.in-Err.is

pub returns-in-Ok-Ended-clause-ends : goal.returns-in-Ok-Ended-clause-ends
returns-in-Ok-Ended-clause-ends g c =
    lines_ended g.A.Desk.machine (g.A.Desk.knows c.args.desk.now) (g.A.Desk.knows c.each_line.desk) (g.A.Desk.knows c.serve_one.new.desk)
    (outside (g.S.Source.left c.args.source.now) (g.S.Source.faults c.args.source.now) (g.K.Sink.held c.args.sink.now) (g.K.Sink.faults c.args.sink.now)
    (devices (g.M.Disk.medium c.args.module.now) (g.M.Disk.faults c.args.module.now) (g.D.Disk.medium c.args.store.now) (g.D.Disk.faults c.args.store.now) (g.E.Entropy.left c.args.entropy.now) (g.E.Entropy.faults c.args.entropy.now)))
    (record {
      old = outside (g.S.Source.left c.each_line.source) (g.S.Source.faults c.each_line.source) (g.K.Sink.held c.each_line.sink) (g.K.Sink.faults c.each_line.sink)
          (devices (g.M.Disk.medium c.each_line.module) (g.M.Disk.faults c.each_line.module) (g.D.Disk.medium c.each_line.store) (g.D.Disk.faults c.each_line.store) (g.E.Entropy.left c.each_line.entropy) (g.E.Entropy.faults c.each_line.entropy));
      new = outside (g.S.Source.left c.serve_one.new.source) (g.S.Source.faults c.serve_one.new.source) (g.K.Sink.held c.serve_one.new.sink) (g.K.Sink.faults c.serve_one.new.sink)
          (devices (g.M.Disk.medium c.serve_one.new.module) (g.M.Disk.faults c.serve_one.new.module) (g.D.Disk.medium c.serve_one.new.store) (g.D.Disk.faults c.serve_one.new.store) (g.E.Entropy.left c.serve_one.new.entropy) (g.E.Entropy.faults c.serve_one.new.entropy));
    })
    c.each_line.lines c.serve_one.new.lines c.serve_one.result c.each_line.invariant.lines
    c.serve_one.ensures.serves c.serve_one.ensures.taken c.serve_one.ensures.left
    (unmoved_world g.M.Disk.medium g.D.Disk.medium g.E.Entropy.left c.serve_one.result c.each_line.sink c.serve_one.new.sink c.each_line.module c.serve_one.new.module
    c.each_line.store c.serve_one.new.store c.each_line.entropy c.serve_one.new.entropy c.each_line.desk c.serve_one.new.desk c.serve_one.ensures.unmoved)
    (λ unreplied uncut. ap g.K.Sink.held (c.serve_one.ensures.unmoved.sink_unmoved unreplied uncut)) c.serve_one.ensures.cut c.serve_one.ensures.undamaged (c.in-Ok-Ended.is ∙ ap Ok c.in-Ok-Ended.field-0-is)
