-- The line that waits, answered over disks that are known.
use Rattle.std.proofs.Common.{ap, sym, ◌∙◌}
use Rattle.line_service.specs.Machine.{world}
use Rattle.cca_tool.specs.Sessions.{Memory}
use Rattle.cca_tool.proofs.KnownLemmas.{known_inside, stands_inside, line_inside}
use Rattle.cca_tool.proofs.LineLemmas.{silent_serves}
use Rattle.cca_tool.proofs.SessionLemmas.{waits_at_no_end}
use Rattle.cca_tool.proofs.session.Session.answer.Goals as goal

pub returns-in-Ok-clause-serves : goal.returns-in-Ok-clause-serves
returns-in-Ok-clause-serves g c = λ s disks line is.
    c.in-Ok.ensures.serves s (stands_inside _ c.args.self.now c.self.view_is s _ _ c.requires.known disks)
    line (line_inside _ c.args.self.now c.self.view_is c.in-Some.taken line (sym c.take.ensures.value ∙ c.in-Some.is) is)

pub returns-in-Err-clause-serves : goal.returns-in-Err-clause-serves
returns-in-Err-clause-serves g c = λ s disks line is.
    silent_serves s _ line c.in-Err.stop c.answer_taken.new.reply c.clear.new.self
    (world (g.M.Disk.medium c.args.module.now) (g.D.Disk.medium c.args.store.now) (g.E.Entropy.left c.args.entropy.now))
    (world (g.M.Disk.medium c.answer_taken.new.module) (g.D.Disk.medium c.answer_taken.new.store) (g.E.Entropy.left c.answer_taken.new.entropy))
    (c.in-Err.ensures.serves s (stands_inside _ c.args.self.now c.self.view_is s _ _ c.requires.known disks)
    line (line_inside _ c.args.self.now c.self.view_is c.in-Some.taken line (sym c.take.ensures.value ∙ c.in-Some.is) is))

pub returns-in-Ok-clause-known : goal.returns-in-Ok-clause-known
returns-in-Ok-clause-known g c = c.in-Ok.ensures.ready

pub returns-in-Ok-clause-left : goal.returns-in-Ok-clause-left
returns-in-Ok-clause-left g c = c.in-Ok.ensures.left

pub returns-in-Ok-clause-undamaged : goal.returns-in-Ok-clause-undamaged
returns-in-Ok-clause-undamaged g c = c.in-Ok.ensures.undamaged

pub returns-in-Err-clause-left : goal.returns-in-Err-clause-left
returns-in-Err-clause-left g c = c.in-Err.ensures.left

pub returns-in-Err-clause-undamaged : goal.returns-in-Err-clause-undamaged
returns-in-Err-clause-undamaged g c = c.in-Err.ensures.undamaged

pub returns-in-Err-clause-stops : goal.returns-in-Err-clause-stops
returns-in-Err-clause-stops g c = c.in-Err.ensures.stops

-- ---- what else the memory shows, and the bench

pub answer_taken-requires-clause-disks : goal.answer_taken-requires-clause-disks
answer_taken-requires-clause-disks g c = c.requires.disks

pub answer_taken-requires-clause-ready : goal.answer_taken-requires-clause-ready
answer_taken-requires-clause-ready g c = known_inside _ c.args.self.now c.self.view_is (g.M.Disk.medium c.args.module.now) (g.D.Disk.medium c.args.store.now) c.requires.known

pub answer_taken-requires-clause-bench : goal.answer_taken-requires-clause-bench
answer_taken-requires-clause-bench g c = c.wipe.ensures

pub returns-in-Ok-clause-reading : goal.returns-in-Ok-clause-reading
returns-in-Ok-clause-reading g c = ap (λ (memory : Memory). memory.reading) c.self.view_is

pub returns-in-Ok-clause-unanswered : goal.returns-in-Ok-clause-unanswered
returns-in-Ok-clause-unanswered g c = tt

pub returns-in-Ok-clause-stops : goal.returns-in-Ok-clause-stops
returns-in-Ok-clause-stops g c = tt

pub returns-in-Ok-clause-bench : goal.returns-in-Ok-clause-bench
returns-in-Ok-clause-bench g c = c.answer_taken.ensures.bench

pub returns-in-Err-clause-known : goal.returns-in-Err-clause-known
returns-in-Err-clause-known g c = tt

pub returns-in-Err-clause-reading : goal.returns-in-Err-clause-reading
returns-in-Err-clause-reading g c = ap (λ (memory : Memory). memory.reading) c.self.view_is

pub returns-in-Err-clause-unanswered : goal.returns-in-Err-clause-unanswered
returns-in-Err-clause-unanswered g c = c.clear.ensures

pub returns-in-Err-clause-bench : goal.returns-in-Err-clause-bench
returns-in-Err-clause-bench g c = c.answer_taken.ensures.bench

pub returns-in-Ok-clause-answered : goal.returns-in-Ok-clause-answered
returns-in-Ok-clause-answered g c =
    c.in-Ok.ensures.line (waits_at_no_end c.self.inside.waiting c.in-Some.taken c.self.inside.lines c.self.invariant (sym c.take.ensures.value ∙ c.in-Some.is))

pub returns-in-Err-clause-answered : goal.returns-in-Err-clause-answered
returns-in-Err-clause-answered g c = tt

pub returns-in-Ok-clause-damaged : goal.returns-in-Ok-clause-damaged
returns-in-Ok-clause-damaged g c = c.in-Ok.ensures.damaged

pub returns-in-Err-clause-damaged : goal.returns-in-Err-clause-damaged
returns-in-Err-clause-damaged g c = c.in-Err.ensures.damaged
