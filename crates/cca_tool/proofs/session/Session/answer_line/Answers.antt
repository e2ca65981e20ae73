-- A line that is handed in, answered over disks that are known.
use Rattle.std.proofs.Common.{ap}
use Rattle.line_service.specs.Machine.{world}
use Rattle.cca_tool.specs.Sessions.{Memory}
use Rattle.cca_tool.proofs.KnownLemmas.{known_inside, stands_inside}
use Rattle.cca_tool.proofs.LineLemmas.{silent_serves}
use Rattle.cca_tool.proofs.session.Session.answer_line.Goals as goal

pub returns-in-Ok-clause-serves : goal.returns-in-Ok-clause-serves
returns-in-Ok-clause-serves g c = λ s disks. c.in-Ok.ensures.serves s (stands_inside _ c.args.self.now c.self.view_is s _ _ c.requires.known disks)

pub returns-in-Err-clause-serves : goal.returns-in-Err-clause-serves
returns-in-Err-clause-serves g c = λ s disks.
    silent_serves s _ c.args.line.now c.in-Err.stop c.answer_handed.new.reply c.clear.new.self
    (world (g.M.Disk.medium c.args.module.now) (g.D.Disk.medium c.args.store.now) (g.E.Entropy.left c.args.entropy.now))
    (world (g.M.Disk.medium c.answer_handed.new.module) (g.D.Disk.medium c.answer_handed.new.store) (g.E.Entropy.left c.answer_handed.new.entropy))
    (c.in-Err.ensures.serves s (stands_inside _ c.args.self.now c.self.view_is s _ _ c.requires.known disks))

pub returns-in-Ok-clause-known : goal.returns-in-Ok-clause-known
returns-in-Ok-clause-known g c = c.in-Ok.ensures.ready

pub returns-in-Ok-clause-left : goal.returns-in-Ok-clause-left
returns-in-Ok-clause-left g c = c.in-Ok.ensures.left

pub returns-in-Ok-clause-undamaged : goal.returns-in-Ok-clause-undamaged
returns-in-Ok-clause-undamaged g c = c.in-Ok.ensures.undamaged

pub returns-in-Ok-clause-damaged : goal.returns-in-Ok-clause-damaged
returns-in-Ok-clause-damaged g c = c.in-Ok.ensures.damaged

pub returns-in-Ok-clause-answered : goal.returns-in-Ok-clause-answered
returns-in-Ok-clause-answered g c = c.in-Ok.ensures.line

pub returns-in-Err-clause-left : goal.returns-in-Err-clause-left
returns-in-Err-clause-left g c = c.in-Err.ensures.left

pub returns-in-Err-clause-undamaged : goal.returns-in-Err-clause-undamaged
returns-in-Err-clause-undamaged g c = c.in-Err.ensures.undamaged

pub returns-in-Err-clause-damaged : goal.returns-in-Err-clause-damaged
returns-in-Err-clause-damaged g c = c.in-Err.ensures.damaged

pub returns-in-Err-clause-stops : goal.returns-in-Err-clause-stops
returns-in-Err-clause-stops g c = c.in-Err.ensures.stops

pub answer_handed-requires-clause-disks : goal.answer_handed-requires-clause-disks
answer_handed-requires-clause-disks g c = c.requires.disks

pub answer_handed-requires-clause-ready : goal.answer_handed-requires-clause-ready
answer_handed-requires-clause-ready g c = known_inside _ c.args.self.now c.self.view_is (g.M.Disk.medium c.args.module.now) (g.D.Disk.medium c.args.store.now) c.requires.known
