-- A run serves from the state of its disks.
use Rattle.line_service.specs.Devices.{devices, outside}
use Rattle.line_service.proofs.LeftLemmas.{session_served, session_unopened}
use Rattle.line_service.proofs.running.serve.Goals as goal

pub returns-in-Ok-clause-ends : goal.returns-in-Ok-clause-ends
returns-in-Ok-clause-ends g c =
    session_served g.A.Desk.machine (g.M.Disk.medium c.args.module.now) (g.M.Disk.medium c.open.new.module) (g.D.Disk.medium c.args.store.now) (g.D.Disk.medium c.open.new.store)
    (g.M.Disk.faults c.args.module.now) (g.M.Disk.faults c.open.new.module) (g.D.Disk.faults c.args.store.now) (g.D.Disk.faults c.open.new.store)
    (g.E.Entropy.left c.args.entropy.now) (g.E.Entropy.faults c.args.entropy.now) (g.S.Source.left c.args.source.now) (g.K.Sink.held c.args.sink.now) (g.S.Source.faults c.args.source.now) (g.K.Sink.faults c.args.sink.now)
    c.in-Ok.ensures.left (g.A.Desk.knows c.open.new.self) c.in-Ok.ensures.knows
    (outside (g.S.Source.left c.serve_all.new.source) (g.S.Source.faults c.serve_all.new.source) (g.K.Sink.held c.serve_all.new.sink) (g.K.Sink.faults c.serve_all.new.sink)
    (devices (g.M.Disk.medium c.serve_all.new.module) (g.M.Disk.faults c.serve_all.new.module) (g.D.Disk.medium c.serve_all.new.store) (g.D.Disk.faults c.serve_all.new.store) (g.E.Entropy.left c.serve_all.new.entropy) (g.E.Entropy.faults c.serve_all.new.entropy)))
    c.serve_all.result c.serve_all.ensures.ends c.in-Ok.ensures.sound

pub returns-in-Err-clause-ends : goal.returns-in-Err-clause-ends
returns-in-Err-clause-ends g c =
    session_unopened g.A.Desk.machine (g.M.Disk.medium c.args.module.now) (g.M.Disk.medium c.open.new.module) (g.D.Disk.medium c.args.store.now) (g.D.Disk.medium c.open.new.store)
    (g.M.Disk.faults c.args.module.now) (g.M.Disk.faults c.open.new.module) (g.D.Disk.faults c.args.store.now) (g.D.Disk.faults c.open.new.store)
    (g.E.Entropy.left c.args.entropy.now) (g.E.Entropy.faults c.args.entropy.now) (g.S.Source.left c.args.source.now) (g.K.Sink.held c.args.sink.now) (g.S.Source.faults c.args.source.now) (g.K.Sink.faults c.args.sink.now)
    c.in-Err.stop c.in-Err.ensures.stops c.in-Err.ensures.left c.in-Err.ensures.damage
