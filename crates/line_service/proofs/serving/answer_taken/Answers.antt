-- A line that is too long is refused from any state.
use Rattle.std.proofs.Common.{None, Ok, subst}
use Rattle.line_service.specs.Devices.{devices}
use Rattle.line_service.specs.Machine.{world}
use Rattle.line_service.specs.Serving.{IsTheLine}
use Rattle.line_service.proofs.AnsweredLemmas.{devices_done, done_undamaged, spares_else, undamaged_done}
use Rattle.line_service.proofs.LineLemmas.{line_serves, refused_serves, short_line}
use Rattle.line_service.specs.declared.lines.Taken.{Taken}
use Rattle.line_service.proofs.serving.answer_taken.Goals as goal

pub returns-in-TooLong-clause-serves : goal.returns-in-TooLong-clause-serves
returns-in-TooLong-clause-serves g c = λ s stands line is.
    refused_serves g.A.Desk.machine s (g.A.Desk.knows c.args.desk.now) line c.too_long.new.reply
    (world (g.M.Disk.medium c.args.module.now) (g.D.Disk.medium c.args.store.now) (g.E.Entropy.left c.args.entropy.now))
    (c.too_long.ensures.steps s line (subst (λ (t : Taken). IsTheLine t c.args.lines.now line) c.in-TooLong.is is)) stands c.requires.disks.module_settled c.requires.disks.store_settled

pub line-requires : goal.line-requires
line-requires g c = tt

pub answer-requires-clause-short : goal.answer-requires-clause-short
answer-requires-clause-short g c = short_line c.args.taken c.args.lines.now c.line.result.now c.in-Line.is c.requires.shown c.line.ensures

pub answer-requires-clause-disks : goal.answer-requires-clause-disks
answer-requires-clause-disks g c = c.requires.disks

pub answer-requires-clause-ready : goal.answer-requires-clause-ready
answer-requires-clause-ready g c = c.requires.ready

pub answer-requires-clause-bench : goal.answer-requires-clause-bench
answer-requires-clause-bench g c = c.requires.bench

pub returns-in-Line-clause-serves : goal.returns-in-Line-clause-serves
returns-in-Line-clause-serves g c = λ s stands line is.
    line_serves g.A.Desk.machine s (g.A.Desk.knows c.answer.new.self) c.args.taken c.args.lines.now c.line.result.now line c.in-Line.is c.line.ensures is c.answer.result c.answer.new.reply
    (world (g.M.Disk.medium c.args.module.now) (g.D.Disk.medium c.args.store.now) (g.E.Entropy.left c.args.entropy.now))
    (world (g.M.Disk.medium c.answer.new.module) (g.D.Disk.medium c.answer.new.store) (g.E.Entropy.left c.answer.new.entropy))
    (c.answer.ensures.serves s stands)

pub returns-in-Line-clause-ready : goal.returns-in-Line-clause-ready
returns-in-Line-clause-ready g c = c.answer.ensures.ready

pub returns-in-Line-clause-undamaged : goal.returns-in-Line-clause-undamaged
returns-in-Line-clause-undamaged g c = c.answer.ensures.undamaged

pub returns-in-Line-clause-left : goal.returns-in-Line-clause-left
returns-in-Line-clause-left g c = c.answer.ensures.left

pub returns-in-Line-clause-stops : goal.returns-in-Line-clause-stops
returns-in-Line-clause-stops g c = c.answer.ensures.stops

pub returns-in-Line-clause-bench : goal.returns-in-Line-clause-bench
returns-in-Line-clause-bench g c = c.answer.ensures.bench

pub returns-in-TooLong-clause-ready : goal.returns-in-TooLong-clause-ready
returns-in-TooLong-clause-ready g c = c.requires.ready

pub returns-in-TooLong-clause-undamaged : goal.returns-in-TooLong-clause-undamaged
returns-in-TooLong-clause-undamaged g c = undamaged_done g.A.Desk.machine (devices (g.M.Disk.medium c.args.module.now) (g.M.Disk.faults c.args.module.now) (g.D.Disk.medium c.args.store.now) (g.D.Disk.faults c.args.store.now) None 0)

pub returns-in-TooLong-clause-left : goal.returns-in-TooLong-clause-left
returns-in-TooLong-clause-left g c = devices_done (devices (g.M.Disk.medium c.args.module.now) (g.M.Disk.faults c.args.module.now) (g.D.Disk.medium c.args.store.now) (g.D.Disk.faults c.args.store.now) (g.E.Entropy.left c.args.entropy.now) (g.E.Entropy.faults c.args.entropy.now)) c.requires.disks.module_settled c.requires.disks.store_settled

pub returns-in-TooLong-clause-stops : goal.returns-in-TooLong-clause-stops
returns-in-TooLong-clause-stops g c = tt

pub returns-in-TooLong-clause-bench : goal.returns-in-TooLong-clause-bench
returns-in-TooLong-clause-bench g c = c.requires.bench

pub returns-in-End-clause-ready : goal.returns-in-End-clause-ready
returns-in-End-clause-ready g c = c.requires.ready

pub returns-in-End-clause-undamaged : goal.returns-in-End-clause-undamaged
returns-in-End-clause-undamaged g c = undamaged_done g.A.Desk.machine (devices (g.M.Disk.medium c.args.module.now) (g.M.Disk.faults c.args.module.now) (g.D.Disk.medium c.args.store.now) (g.D.Disk.faults c.args.store.now) None 0)

pub returns-in-End-clause-left : goal.returns-in-End-clause-left
returns-in-End-clause-left g c = devices_done (devices (g.M.Disk.medium c.args.module.now) (g.M.Disk.faults c.args.module.now) (g.D.Disk.medium c.args.store.now) (g.D.Disk.faults c.args.store.now) (g.E.Entropy.left c.args.entropy.now) (g.E.Entropy.faults c.args.entropy.now)) c.requires.disks.module_settled c.requires.disks.store_settled

pub returns-in-End-clause-stops : goal.returns-in-End-clause-stops
returns-in-End-clause-stops g c = tt

pub returns-in-End-clause-bench : goal.returns-in-End-clause-bench
returns-in-End-clause-bench g c = c.requires.bench

pub returns-in-End-clause-serves : goal.returns-in-End-clause-serves
returns-in-End-clause-serves g c = λ s stands line is. absurd (subst (λ (t : Taken). IsTheLine t c.args.lines.now line) c.in-End.is is)

pub returns-in-Line-clause-line : goal.returns-in-Line-clause-line
returns-in-Line-clause-line g c = λ some. c.answer.ensures.line

pub returns-in-TooLong-clause-line : goal.returns-in-TooLong-clause-line
returns-in-TooLong-clause-line g c = λ some. c.too_long.ensures.line

pub returns-in-End-clause-line : goal.returns-in-End-clause-line
returns-in-End-clause-line g c = λ some. absurd (some c.in-End.is)

pub returns-in-Line-clause-damaged : goal.returns-in-Line-clause-damaged
returns-in-Line-clause-damaged g c = c.answer.ensures.damaged

pub returns-in-TooLong-clause-damaged : goal.returns-in-TooLong-clause-damaged
returns-in-TooLong-clause-damaged g c = spares_else (Ok tt) (done_undamaged tt)

pub returns-in-End-clause-damaged : goal.returns-in-End-clause-damaged
returns-in-End-clause-damaged g c = spares_else (Ok tt) (done_undamaged tt)
