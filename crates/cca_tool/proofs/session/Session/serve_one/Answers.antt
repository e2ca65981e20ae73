-- A line served over disks that are known.
use Rattle.std.proofs.Common.{ap, sym, subst}
use Rattle.line_service.specs.Reading.{Reading}
use Rattle.request_rules.specs.Standing.{Tables, tables}
use Rattle.line_service.specs.Machine.{world}
use Rattle.line_service.specs.Serving.{LineServed}
use Rattle.cca_machine.specs.Coprocessor.{cca}
use Rattle.store_unload.specs.Opening.{AreKnown, remembers}
use Rattle.cca_tool.specs.Sessions.{Memory}
use Rattle.cca_tool.specs.declared.coprocessor.Coprocessor.{Coprocessor}
use Rattle.cca_tool.proofs.KnownLemmas.{stands_known}
use Rattle.cca_tool.proofs.SessionLemmas.{idle_inside, served_stops, taken_shown, unmoved_shown}
use Rattle.cca_tool.proofs.session.Session.serve_one.Goals as goal

pub returns-clause-serves : goal.returns-clause-serves
returns-clause-serves g c = λ s disks.
    let m0 = g.M.Disk.medium c.args.module.now in
    let d0 = g.D.Disk.medium c.args.store.now in
    let held = tables c.self.inside.desk.roles c.self.inside.desk.records in
    let known = subst (λ (t : Tables). AreKnown t m0 d0) (sym (ap (λ (memory : Memory). memory.tables) c.self.view_is)) c.requires.known in
    subst (λ (r : Reading). LineServed cca s (remembers (tables c.serve_one.new.desk.roles c.serve_one.new.desk.records)) c.serve_one.result
    (world m0 d0 (g.E.Entropy.left c.args.entropy.now))
    (world (g.M.Disk.medium c.serve_one.new.module) (g.D.Disk.medium c.serve_one.new.store) (g.E.Entropy.left c.serve_one.new.entropy))
    (g.S.Source.left c.args.source.now) (g.S.Source.left c.serve_one.new.source) (g.K.Sink.held c.args.sink.now) (g.K.Sink.held c.serve_one.new.sink) r c.serve_one.new.lines)
    (ap (λ (memory : Memory). memory.reading) c.self.view_is)
    (c.serve_one.ensures.serves s (stands_known s held m0 d0 known disks))

pub returns-clause-known : goal.returns-clause-known
returns-clause-known g c = c.serve_one.ensures.ready

pub returns-clause-left : goal.returns-clause-left
returns-clause-left g c = c.serve_one.ensures.left

pub returns-clause-undamaged : goal.returns-clause-undamaged
returns-clause-undamaged g c = c.serve_one.ensures.undamaged

pub returns-clause-cut : goal.returns-clause-cut
returns-clause-cut g c = c.serve_one.ensures.cut

pub returns-clause-bench : goal.returns-clause-bench
returns-clause-bench g c = c.serve_one.ensures.bench

pub returns-clause-stops : goal.returns-clause-stops
returns-clause-stops g c = served_stops c.serve_one.result c.serve_one.ensures.undamaged.cells

pub returns-clause-unmoved : goal.returns-clause-unmoved
returns-clause-unmoved g c =
    unmoved_shown (λ (desk : Coprocessor). tables desk.roles desk.records) c.serve_one.result
    c.args.sink.now c.serve_one.new.sink c.args.module.now c.serve_one.new.module c.args.store.now c.serve_one.new.store
    c.args.entropy.now c.serve_one.new.entropy c.self.inside.desk c.serve_one.new.desk c.args.self.now.tables
    (ap (λ (memory : Memory). memory.tables) c.self.view_is) c.serve_one.ensures.unmoved

pub returns-clause-taken : goal.returns-clause-taken
returns-clause-taken g c =
    taken_shown c.serve_one.result _
    (record { reading = c.self.inside.lines; tables = tables c.self.inside.desk.roles c.self.inside.desk.records; reply = c.self.inside.reply; waiting = c.self.inside.waiting })
    c.args.self.now c.serve_one.new.lines c.self.view_is c.serve_one.ensures.taken

pub returns-clause-idle : goal.returns-clause-idle
returns-clause-idle g c = idle_inside _ c.args.self.now c.self.view_is c.requires.idle

pub returns-clause-replied : goal.returns-clause-replied
returns-clause-replied g c = c.serve_one.ensures.replied

pub returns-clause-damaged : goal.returns-clause-damaged
returns-clause-damaged g c = c.serve_one.ensures.damaged
