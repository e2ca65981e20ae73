-- A line is a request, or breaks rule 01.
use Rattle.std.proofs.Common.{Ok, codes, subst, sym, rules}
use Rattle.line_service.specs.Replies.{Refused}
use Rattle.line_service.specs.Lines.{EndsInNewline}
use Rattle.line_service.proofs.AnsweredLemmas.{done_undamaged, spares_else}
use Rattle.line_service.proofs.ReplyLemmas.{spelled_line}
use Rattle.verb_script.specs.Parsed.{seen}
use Rattle.request_rules.specs.Standing.{tables}
use Rattle.store_unload.specs.Opening.{remembers}
use Rattle.cca_tool.proofs.LineLemmas.{request_serves, unspelled_serves, leads_on, not_damaged}
use Rattle.store_unload.proofs.KnownLemmas.{roles_told}
use Rattle.cca_tool.proofs.KnownLemmas.{module_undamaged, never_told, known_after, stands_for}
use Rattle.cca_tool.proofs.StopLemmas.{cell_zero, reread_cell}
use Rattle.cca_tool.proofs.coprocessor.CoprocessorDesk.answer.Goals as goal

pub perform-requires-clause-known : goal.perform-requires-clause-known
perform-requires-clause-known g c = record {
  remembered = roles_told (tables c.args.self.now.roles c.args.self.now.records) (g.M.Disk.medium c.args.module.now) (g.D.Disk.medium c.args.store.now) c.requires.ready;
  recorded = c.requires.ready.in_store;
}

pub returns-in-Ok-clause-serves : goal.returns-in-Ok-clause-serves
returns-in-Ok-clause-serves g c = λ s stands.
    let before = tables c.args.self.now.roles c.args.self.now.records in
    let m0 = g.M.Disk.medium c.args.module.now in
    let d0 = g.D.Disk.medium c.args.store.now in
    request_serves s c.args.line.now (seen c.in-Ok.request) c.requires.short (sym c.in-Ok.ensures.exact) c.perform.result c.perform.new.reply
    before (tables c.perform.new.roles c.perform.new.records) m0 (g.M.Disk.medium c.perform.new.module) d0 (g.D.Disk.medium c.perform.new.store)
    (g.E.Entropy.left c.args.entropy.now) (g.E.Entropy.left c.perform.new.entropy)
    c.requires.disks.module_settled c.requires.disks.store_settled stands c.in-Ok.ensures.found c.perform.ensures.store.named
    c.perform.ensures.left.module_turned c.perform.ensures.left.store_turned (c.perform.ensures.serves s (stands_for s before m0 d0 stands))

pub returns-in-Ok-clause-ready : goal.returns-in-Ok-clause-ready
returns-in-Ok-clause-ready g c =
    let later = tables c.perform.new.roles c.perform.new.records in
    let m0 = g.M.Disk.medium c.args.module.now in
    let m1 = g.M.Disk.medium c.perform.new.module in
    let d0 = g.D.Disk.medium c.args.store.now in
    let d1 = g.D.Disk.medium c.perform.new.store in
    known_after (tables c.args.self.now.roles c.args.self.now.records) m0 d0 c.requires.ready later m1 d1
    c.perform.ensures.left.module_told c.perform.ensures.left.store_told c.perform.result c.perform.ensures.left.sound c.perform.ensures.left.holds
    (λ s stands. leads_on s (seen c.in-Ok.request) c.perform.result c.perform.new.reply later m0 m1 d0 d1
    (g.E.Entropy.left c.args.entropy.now) (g.E.Entropy.left c.perform.new.entropy) (c.perform.ensures.serves s stands))

pub returns-in-Ok-clause-undamaged : goal.returns-in-Ok-clause-undamaged
returns-in-Ok-clause-undamaged g c =
    let before = tables c.args.self.now.roles c.args.self.now.records in
    let m0 = g.M.Disk.medium c.args.module.now in
    let d0 = g.D.Disk.medium c.args.store.now in
    record {
      module_sound = λ cell h.
          module_undamaged before m0 d0 c.requires.ready (c.perform.ensures.damage (cell_zero c.perform.result cell c.perform.ensures.stops h));
      store_sound = λ cell h.
          never_told before m0 d0 c.requires.ready
          (λ s stands. not_damaged s (seen c.in-Ok.request) c.perform.result c.perform.new.reply (tables c.perform.new.roles c.perform.new.records)
          m0 (g.M.Disk.medium c.perform.new.module) d0 (g.D.Disk.medium c.perform.new.store)
          (g.E.Entropy.left c.args.entropy.now) (g.E.Entropy.left c.perform.new.entropy) cell h (c.perform.ensures.serves s stands));
      cells = search rules;
      reread = λ device cell h. reread_cell c.perform.result device cell c.perform.ensures.stops h;
    }

pub returns-in-Err-clause-serves : goal.returns-in-Err-clause-serves
returns-in-Err-clause-serves g c = λ s stands.
    unspelled_serves s (remembers (tables c.args.self.now.roles c.args.self.now.records)) c.args.line.now c.refuse_line.new.reply
    (g.M.Disk.medium c.args.module.now) (g.D.Disk.medium c.args.store.now) (g.E.Entropy.left c.args.entropy.now)
    c.requires.short (sym c.in-Err.ensures.exact) c.refuse_line.ensures stands c.requires.disks.module_settled c.requires.disks.store_settled

-- ---- the call, and the bench that it leaves

pub perform-requires-clause-disks : goal.perform-requires-clause-disks
perform-requires-clause-disks g c = c.requires.disks

pub returns-in-Ok-clause-bench : goal.returns-in-Ok-clause-bench
returns-in-Ok-clause-bench g c = c.perform.ensures.bench

pub returns-in-Err-clause-ready : goal.returns-in-Err-clause-ready
returns-in-Err-clause-ready g c = c.requires.ready

pub returns-in-Err-clause-stops : goal.returns-in-Err-clause-stops
returns-in-Err-clause-stops g c = tt

pub returns-in-Err-clause-bench : goal.returns-in-Err-clause-bench
returns-in-Err-clause-bench g c = c.requires.bench

pub returns-in-Ok-clause-line : goal.returns-in-Ok-clause-line
returns-in-Ok-clause-line g c = c.perform.ensures.left.line

pub returns-in-Err-clause-line : goal.returns-in-Err-clause-line
returns-in-Err-clause-line g c = subst EndsInNewline (sym c.refuse_line.ensures) (spelled_line (Refused 1 (codes "-")))

pub returns-in-Ok-clause-damaged : goal.returns-in-Ok-clause-damaged
returns-in-Ok-clause-damaged g c = c.perform.ensures.damaged

pub returns-in-Err-clause-damaged : goal.returns-in-Err-clause-damaged
returns-in-Err-clause-damaged g c = spares_else (Ok tt) (done_undamaged tt)
