-- The lines are served as any others are, and then the summary is sent.
use Rattle.std.proofs.Common.{◌∙◌, refl}
use Rattle.cca_tool.proofs.DemoEndLemmas.{cut_ran, sent_ran, stopped_ran}
use Rattle.cca_tool.proofs.demo.serve_text.Goals as goal

-- ---- the summary was sent

pub returns-in-Ok-send-clause-ran : goal.returns-in-Ok-send-clause-ran
returns-in-Ok-send-clause-ran g c =
    sent_ran c.args.number c.args.room.now.text c.requires.text c.requires.number.1
    (g.M.Disk.medium c.args.module.now) (g.M.Disk.medium c.serve.new.module) (g.D.Disk.medium c.args.store.now) (g.D.Disk.medium c.serve.new.store)
    (g.M.Disk.faults c.args.module.now) (g.M.Disk.faults c.serve.new.module) (g.D.Disk.faults c.args.store.now) (g.D.Disk.faults c.serve.new.store)
    c.serve.new.source c.new-tally.result c.serve.new.sink c.serve.result c.serve.ensures.ends
    c.in-Ok.field-0 c.in-Ok.is c.new-tally.ensures c.args.sink.now c.send.new.sink c.bytes.result.now (c.bytes.ensures.bytes ∙ c.put_summary.ensures)
    (g.K.Sink.held c.args.sink.now) (g.K.Sink.held c.send.new.sink) (g.K.Sink.faults c.args.sink.now) (g.K.Sink.faults c.send.new.sink)
    c.send.ensures.cause.later c.in-Ok-send.ensures.cause.quiet c.in-Ok-send.ensures.all

-- ---- the summary was cut

pub returns-in-Err-send-clause-ran : goal.returns-in-Err-send-clause-ran
returns-in-Err-send-clause-ran g c =
    cut_ran c.args.number c.args.room.now.text c.requires.text c.requires.number.1
    (g.M.Disk.medium c.args.module.now) (g.M.Disk.medium c.serve.new.module) (g.D.Disk.medium c.args.store.now) (g.D.Disk.medium c.serve.new.store)
    (g.M.Disk.faults c.args.module.now) (g.M.Disk.faults c.serve.new.module) (g.D.Disk.faults c.args.store.now) (g.D.Disk.faults c.serve.new.store)
    c.serve.new.source c.new-tally.result c.serve.new.sink c.serve.result c.serve.ensures.ends
    c.in-Ok.field-0 c.in-Ok.is c.new-tally.ensures c.args.sink.now c.send.new.sink c.bytes.result.now (c.bytes.ensures.bytes ∙ c.put_summary.ensures)
    (g.K.Sink.held c.args.sink.now) (g.K.Sink.held c.send.new.sink) (g.K.Sink.faults c.args.sink.now) (g.K.Sink.faults c.send.new.sink)
    c.send.ensures.cause.later c.in-Err-send.ensures.cause.failed c.in-Err-send.ensures.part

-- ---- the lines were not all answered

pub returns-in-Err-clause-ran : goal.returns-in-Err-clause-ran
returns-in-Err-clause-ran g c =
    stopped_ran c.args.number c.args.room.now.text c.requires.text c.requires.number.1
    (g.M.Disk.medium c.args.module.now) (g.M.Disk.medium c.serve.new.module) (g.D.Disk.medium c.args.store.now) (g.D.Disk.medium c.serve.new.store)
    (g.M.Disk.faults c.args.module.now) (g.M.Disk.faults c.serve.new.module) (g.D.Disk.faults c.args.store.now) (g.D.Disk.faults c.serve.new.store)
    c.serve.new.source c.new-tally.result c.serve.new.sink c.serve.result c.serve.ensures.ends
    c.in-Err.stop c.in-Err.is c.args.sink.now (g.K.Sink.held c.args.sink.now) (g.K.Sink.faults c.args.sink.now)

pub returns-in-Err-clause-unsound : goal.returns-in-Err-clause-unsound
returns-in-Err-clause-unsound g c = λ none.
    let all = c.serve.ensures.unsound none in
    record { unsound_sink = refl; unsound_module = all.unsound_module; unsound_store = all.unsound_store }

-- ---- the calls, and the bench that they leave

pub serve-requires : goal.serve-requires
serve-requires g c = c.requires.disks

pub put_summary-requires-clause-empty : goal.put_summary-requires-clause-empty
put_summary-requires-clause-empty g c = c.requires.line

pub put_summary-requires-clause-number : goal.put_summary-requires-clause-number
put_summary-requires-clause-number g c = c.requires.number.1

pub returns-in-Ok-send-clause-bench : goal.returns-in-Ok-send-clause-bench
returns-in-Ok-send-clause-bench g c = c.serve.ensures.bench

pub returns-in-Err-send-clause-bench : goal.returns-in-Err-send-clause-bench
returns-in-Err-send-clause-bench g c = c.serve.ensures.bench

pub returns-in-Err-clause-bench : goal.returns-in-Err-clause-bench
returns-in-Err-clause-bench g c = c.serve.ensures.bench
