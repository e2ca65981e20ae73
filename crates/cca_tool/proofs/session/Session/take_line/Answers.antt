-- A line is read, and told as taken.
use Rattle.std.proofs.Common.{Ok, Err, ap, subst, ◌∙◌}
use Rattle.line_service.specs.Reading.{Reading}
use Rattle.line_service.specs.declared.lines.Taken.{Taken}
use Rattle.line_service.specs.declared.lines.Taken.TheVariants.{End}
use Rattle.line_service.specs.declared.stops.Stop.TheVariants.{InputLimit, ReadFault}
use Rattle.cca_tool.specs.Sessions.{InputRead, Memory}
use Rattle.cca_tool.proofs.ReadingLemmas.{fault_left, fault_told, input_read, limit_left, limit_told, line_left, line_told}
use Rattle.cca_tool.proofs.SessionLemmas.{idle_inside, idle_shows}
use Rattle.cca_tool.proofs.session.Session.take_line.Goals as goal

pub returns-in-Ok-End-clause-read : goal.returns-in-Ok-End-clause-read
returns-in-Ok-End-clause-read g c =
    let here = c.read_line.ensures in
    let ok = c.in-Ok-End.ensures in
    subst (λ (t : Taken). InputRead (Ok t) (g.S.Source.left c.args.source.now) (g.S.Source.left c.read_line.new.source) c.args.self.now.reading c.read_line.new.buffer)
    c.in-Ok-End.field-0-is
    (subst (λ (r : Reading). InputRead (Ok c.in-Ok-End.field-0) (g.S.Source.left c.args.source.now) (g.S.Source.left c.read_line.new.source) r c.read_line.new.buffer)
    (ap (λ (memory : Memory). memory.reading) c.self.view_is)
    (input_read c.read_line.result (Ok c.in-Ok-End.field-0) (line_told c.read_line.result c.in-Ok-End.field-0 c.in-Ok-End.is)
    (g.S.Source.left c.args.source.now) (g.S.Source.left c.read_line.new.source) c.self.inside.lines c.read_line.new.buffer
    ok.answer ok.shown ok.advances here.end here.ends here.limit tt here.ended here.at_end here.counted here.within here.full here.short here.early tt))

pub returns-in-Err-ReadFault-clause-read : goal.returns-in-Err-ReadFault-clause-read
returns-in-Err-ReadFault-clause-read g c =
    let here = c.read_line.ensures in
    subst (λ (r : Reading). InputRead (Err ReadFault) (g.S.Source.left c.args.source.now) (g.S.Source.left c.read_line.new.source) r c.read_line.new.buffer)
    (ap (λ (memory : Memory). memory.reading) c.self.view_is)
    (input_read c.read_line.result (Err ReadFault) (fault_told c.read_line.result (c.in-Err-ReadFault.is ∙ ap Err c.in-Err-ReadFault.field-0-is))
    (g.S.Source.left c.args.source.now) (g.S.Source.left c.read_line.new.source) c.self.inside.lines c.read_line.new.buffer
    tt tt tt here.end here.ends here.limit c.in-Err-ReadFault.ensures.kept here.ended here.at_end here.counted here.within here.full here.short here.early c.in-Err-ReadFault.ensures.emptied)

pub returns-in-Err-InputLimit-clause-read : goal.returns-in-Err-InputLimit-clause-read
returns-in-Err-InputLimit-clause-read g c =
    let here = c.read_line.ensures in
    subst (λ (r : Reading). InputRead (Err InputLimit) (g.S.Source.left c.args.source.now) (g.S.Source.left c.read_line.new.source) r c.read_line.new.buffer)
    (ap (λ (memory : Memory). memory.reading) c.self.view_is)
    (input_read c.read_line.result (Err InputLimit) (limit_told c.read_line.result (c.in-Err-InputLimit.is ∙ ap Err c.in-Err-InputLimit.field-0-is))
    (g.S.Source.left c.args.source.now) (g.S.Source.left c.read_line.new.source) c.self.inside.lines c.read_line.new.buffer
    tt tt tt here.end here.ends here.limit c.in-Err-InputLimit.ensures.kept here.ended here.at_end here.counted here.within here.full here.short here.early c.in-Err-InputLimit.ensures.emptied)

pub returns-in-Ok-clause-read : goal.returns-in-Ok-clause-read
returns-in-Ok-clause-read g c =
    let here = c.read_line.ensures in
    let ok = c.in-Ok.ensures in
    subst (λ (r : Reading). InputRead (Ok c.in-Ok.taken) (g.S.Source.left c.args.source.now) (g.S.Source.left c.read_line.new.source) r c.read_line.new.buffer)
    (ap (λ (memory : Memory). memory.reading) c.self.view_is)
    (input_read c.read_line.result (Ok c.in-Ok.taken) (line_told c.read_line.result c.in-Ok.taken c.in-Ok.is)
    (g.S.Source.left c.args.source.now) (g.S.Source.left c.read_line.new.source) c.self.inside.lines c.read_line.new.buffer
    ok.answer ok.shown ok.advances here.end here.ends here.limit tt here.ended here.at_end here.counted here.within here.full here.short here.early tt)

-- ---- the faults of the source

pub returns-in-Ok-End-clause-left : goal.returns-in-Ok-End-clause-left
returns-in-Ok-End-clause-left g c =
    line_left c.read_line.result (g.S.Source.faults c.args.source.now) (g.S.Source.faults c.read_line.new.source) c.read_line.ensures.later c.read_line.ensures.quiet
    End (c.in-Ok-End.is ∙ ap Ok c.in-Ok-End.field-0-is)

pub returns-in-Ok-clause-left : goal.returns-in-Ok-clause-left
returns-in-Ok-clause-left g c =
    line_left c.read_line.result (g.S.Source.faults c.args.source.now) (g.S.Source.faults c.read_line.new.source) c.read_line.ensures.later c.read_line.ensures.quiet
    c.in-Ok.taken c.in-Ok.is

pub returns-in-Err-ReadFault-clause-left : goal.returns-in-Err-ReadFault-clause-left
returns-in-Err-ReadFault-clause-left g c =
    fault_left c.read_line.result (g.S.Source.faults c.args.source.now) (g.S.Source.faults c.read_line.new.source) c.read_line.ensures.later c.read_line.ensures.quiet
    (c.read_line.ensures.fault (c.in-Err-ReadFault.is ∙ ap Err c.in-Err-ReadFault.field-0-is))

pub returns-in-Err-InputLimit-clause-left : goal.returns-in-Err-InputLimit-clause-left
returns-in-Err-InputLimit-clause-left g c =
    limit_left c.read_line.result (g.S.Source.faults c.args.source.now) (g.S.Source.faults c.read_line.new.source) c.read_line.ensures.later c.read_line.ensures.quiet
    (c.in-Err-InputLimit.is ∙ ap Err c.in-Err-InputLimit.field-0-is)

-- ---- what else the memory shows

pub returns-in-Ok-End-clause-waits : goal.returns-in-Ok-End-clause-waits
returns-in-Ok-End-clause-waits g c = idle_inside _ c.args.self.now c.self.view_is c.requires.idle

pub returns-in-Ok-End-clause-tables : goal.returns-in-Ok-End-clause-tables
returns-in-Ok-End-clause-tables g c = ap (λ (memory : Memory). memory.tables) c.self.view_is

pub returns-in-Ok-End-clause-reply : goal.returns-in-Ok-End-clause-reply
returns-in-Ok-End-clause-reply g c = ap (λ (memory : Memory). memory.reply) c.self.view_is

pub returns-in-Ok-End-clause-stops : goal.returns-in-Ok-End-clause-stops
returns-in-Ok-End-clause-stops g c = tt

pub returns-in-Err-ReadFault-clause-waits : goal.returns-in-Err-ReadFault-clause-waits
returns-in-Err-ReadFault-clause-waits g c = idle_inside _ c.args.self.now c.self.view_is c.requires.idle

pub returns-in-Err-ReadFault-clause-tables : goal.returns-in-Err-ReadFault-clause-tables
returns-in-Err-ReadFault-clause-tables g c = ap (λ (memory : Memory). memory.tables) c.self.view_is

pub returns-in-Err-ReadFault-clause-reply : goal.returns-in-Err-ReadFault-clause-reply
returns-in-Err-ReadFault-clause-reply g c = ap (λ (memory : Memory). memory.reply) c.self.view_is

pub returns-in-Err-ReadFault-clause-stops : goal.returns-in-Err-ReadFault-clause-stops
returns-in-Err-ReadFault-clause-stops g c = tt

pub returns-in-Err-InputLimit-clause-waits : goal.returns-in-Err-InputLimit-clause-waits
returns-in-Err-InputLimit-clause-waits g c = idle_inside _ c.args.self.now c.self.view_is c.requires.idle

pub returns-in-Err-InputLimit-clause-tables : goal.returns-in-Err-InputLimit-clause-tables
returns-in-Err-InputLimit-clause-tables g c = ap (λ (memory : Memory). memory.tables) c.self.view_is

pub returns-in-Err-InputLimit-clause-reply : goal.returns-in-Err-InputLimit-clause-reply
returns-in-Err-InputLimit-clause-reply g c = ap (λ (memory : Memory). memory.reply) c.self.view_is

pub returns-in-Err-InputLimit-clause-stops : goal.returns-in-Err-InputLimit-clause-stops
returns-in-Err-InputLimit-clause-stops g c = tt

pub returns-in-Ok-clause-tables : goal.returns-in-Ok-clause-tables
returns-in-Ok-clause-tables g c = ap (λ (memory : Memory). memory.tables) c.self.view_is

pub returns-in-Ok-clause-reply : goal.returns-in-Ok-clause-reply
returns-in-Ok-clause-reply g c = ap (λ (memory : Memory). memory.reply) c.self.view_is

pub returns-in-Ok-clause-stops : goal.returns-in-Ok-clause-stops
returns-in-Ok-clause-stops g c = tt

pub invariant_of-self : goal.invariant_of-self
invariant_of-self g c = idle_shows _ c.read_line.new.buffer (idle_inside _ c.args.self.now c.self.view_is c.requires.idle)

pub invariant_of-self-in-Err-ReadFault : goal.invariant_of-self-in-Err-ReadFault
invariant_of-self-in-Err-ReadFault g c = idle_shows _ c.read_line.new.buffer (idle_inside _ c.args.self.now c.self.view_is c.requires.idle)

pub invariant_of-self-in-Err-InputLimit : goal.invariant_of-self-in-Err-InputLimit
invariant_of-self-in-Err-InputLimit g c = idle_shows _ c.read_line.new.buffer (idle_inside _ c.args.self.now c.self.view_is c.requires.idle)
