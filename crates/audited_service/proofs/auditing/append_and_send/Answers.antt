-- What is left at each exit, as the trail and the sink left it.
use Rattle.std.proofs.Common.{ap, ◌∙◌}
use Rattle.audited_service.proofs.SentLemmas.{entry_sent, entry_cut, entry_unsent}
use Rattle.audited_service.proofs.auditing.append_and_send.Goals as goal

pub returns-in-Ok-send-clause-sent : goal.returns-in-Ok-send-clause-sent
returns-in-Ok-send-clause-sent g c =
    entry_sent c.args.held.now c.args.entry.now c.args.reply.now (g.T.Disk.medium c.args.trail.now) (g.T.Disk.medium c.append.new.trail) (g.T.Disk.faults c.args.trail.now) (g.T.Disk.faults c.append.new.trail)
    c.requires.trail.settled (g.K.Sink.held c.args.sink.now) (g.K.Sink.faults c.args.sink.now)
    (g.K.Sink.held c.send.new.sink) (g.K.Sink.faults c.send.new.sink) c.in-Ok.ensures.appended c.in-Ok.ensures.left c.send.ensures.cause.later
    c.in-Ok-send.ensures.all c.in-Ok-send.ensures.cause.quiet

pub returns-in-Err-send-clause-sent : goal.returns-in-Err-send-clause-sent
returns-in-Err-send-clause-sent g c =
    entry_cut c.args.held.now c.args.entry.now c.args.reply.now (g.T.Disk.medium c.args.trail.now) (g.T.Disk.medium c.append.new.trail) (g.T.Disk.faults c.args.trail.now) (g.T.Disk.faults c.append.new.trail)
    c.requires.trail.settled (g.K.Sink.held c.args.sink.now) (g.K.Sink.faults c.args.sink.now)
    (g.K.Sink.held c.send.new.sink) (g.K.Sink.faults c.send.new.sink) c.in-Ok.ensures.appended c.in-Ok.ensures.left c.send.ensures.cause.later
    c.in-Err-send.ensures.part c.in-Err-send.ensures.cause.failed

pub returns-in-Err-clause-sent : goal.returns-in-Err-clause-sent
returns-in-Err-clause-sent g c =
    entry_unsent c.args.held.now c.args.entry.now c.args.reply.now (g.T.Disk.medium c.args.trail.now) (g.T.Disk.medium c.append.new.trail) (g.T.Disk.faults c.args.trail.now) (g.T.Disk.faults c.append.new.trail)
    c.requires.trail.settled (g.K.Sink.held c.args.sink.now) (g.K.Sink.faults c.args.sink.now)
    c.in-Err.fault c.in-Err.ensures.appended c.in-Err.ensures.left c.in-Err.ensures.faults (λ h. ap g.T.Disk.medium (c.append.ensures.untouched (c.in-Err.is ∙ h)))
