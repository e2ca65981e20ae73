-- A line that is too long is refused from any state.
use Rattle.std.proofs.Common.{◌<◌, length, arith}
use Rattle.line_service.specs.Machine.{world}
use Rattle.line_service.specs.Reading.{line_limit}
use Rattle.line_service.proofs.LineLemmas.{refused_serves}
use Rattle.cca_tool.proofs.session.answer_handed.Goals as goal

pub returns-then-line-gt-LINE_LIMIT-clause-serves : goal.returns-then-line-gt-LINE_LIMIT-clause-serves
returns-then-line-gt-LINE_LIMIT-clause-serves g c = λ s stands.
    let over : line_limit < length c.args.line.now = omega arith in
    refused_serves g.A.Desk.machine s (g.A.Desk.knows c.args.desk.now) c.args.line.now c.too_long.new.reply
    (world (g.M.Disk.medium c.args.module.now) (g.D.Disk.medium c.args.store.now) (g.E.Entropy.left c.args.entropy.now))
    (c.too_long.ensures.steps s c.args.line.now over) stands c.requires.disks.module_settled c.requires.disks.store_settled
