use Rattle.std.proofs.Common.{◌≡◌, ◌∙◌, Result, Err, refl, sym, ap, subst}
use Rattle.std.proofs.lemmas.Bool.{false≢true}
use Rattle.line_service.specs.declared.stops.Device.TheVariants.{Store}
use Rattle.line_service.specs.declared.stops.Stop.{Stop}
use Rattle.line_service.specs.declared.stops.Stop.TheVariants.{EntropyFault, StoreFault}
use Rattle.key_cells.specs.Lease.{bench_of, loan_of}
use Rattle.device_cells.proofs.Media.{keeps_still}
use Rattle.verb_script.specs.Parsed.{seen}
use Rattle.cca_machine.specs.Operands.{operands}
use Rattle.cca_machine.specs.Verdict.{verb_verdict}
use Rattle.request_rules.specs.Standing.{tables}
use Rattle.cca_requests.specs.Serving.{IsFault, IsLoadedStop}
use Rattle.line_service.proofs.AnsweredLemmas.{spares_else}
use Rattle.cca_requests.proofs.Damage.{effect_spares, random_sound}
use Rattle.cca_requests.proofs.Handing.{decide_stopped, disks_decided}
use Rattle.cca_requests.specs.Memory.{ChangesMemory, MemoryBy}
use Rattle.cca_requests.proofs.MemoryLaws.{memory_left, ok_gives}
use Rattle.cca_requests.proofs.Registers.{loaded_after}
use Rattle.cca_requests.proofs.Serving.{decided_serves, old_as, stopped_serves}
use Rattle.cca_machine.proofs.Settling.{takes_on}
use Rattle.cca_requests.proofs.Storing.{recorded}
use Rattle.cca_requests.proofs.performing.act.Goals as goal
use Rattle.key_cells.proofs.AnswerLemmas.{no_err}

-- ---- answers that aren't one

-- and the random source isn't the store
not_of_store : (stop : Stop) → stop ≡ EntropyFault → ◌≡◌ {A = Result (Unit {0}) Stop} (Err stop) (Err StoreFault) → ⊥
not_of_store stop of_random is = let same : stop ≡ StoreFault = cc is in let no : EntropyFault ≡ StoreFault = sym of_random ∙ same in cc no

-- ---- what the machine does

pub returns-in-Ok-clause-serves : goal.returns-in-Ok-clause-serves
returns-in-Ok-clause-serves g c = λ s at granted is.
    let request = seen c.args.request.now in
    let bench = bench_of c.args.lease.now in
    let t = tables c.carry.new.roles c.carry.new.records in
    let m0 = g.M.Disk.medium c.args.module.now in
    let m1 = g.M.Disk.medium c.carry.new.module in
    let d0 = g.D.Disk.medium c.args.store.now in
    let d1 = g.D.Disk.medium c.carry.new.store in
    let decides = c.in-Ok.ensures.decision.decided.decides s
    (record { loaded = at.loaded; recorded = recorded s c.args.records.now d0 at.stands.on_store; grants = granted }) in
    let loaded = loaded_after s.registers c.args.held.now c.args.lease.now c.decide.new.lease c.decide.ensures.decision.places at.loaded in
    decided_serves s request c.carry.result c.carry.new.reply t m0 m1 d0 d1 (g.E.Entropy.left c.args.entropy.now) (g.E.Entropy.left c.decide.new.entropy) is decides
    (λ drawn. c.carry.ensures.carries s request drawn (record { loaded = loaded; stands = at.stands })
    (old_as s bench (operands request) c.args.granted.now c.is_old.result granted c.is_old.ensures))
    c.carry.ensures.keeps.entropy

pub returns-in-Err-clause-serves : goal.returns-in-Err-clause-serves
returns-in-Err-clause-serves g c = λ s at granted is.
    let request = seen c.args.request.now in
    let t = tables c.args.roles.now c.args.records.now in
    let m = g.M.Disk.medium c.args.module.now in
    let d = g.D.Disk.medium c.args.store.now in
    let may = c.in-Err.ensures.decision.decided.decides s
    (record { loaded = at.loaded; recorded = recorded s c.args.records.now d at.stands.on_store; grants = granted }) in
    stopped_serves s request c.in-Err.stop c.decide.new.reply t t m m d d (g.E.Entropy.left c.args.entropy.now) (g.E.Entropy.left c.decide.new.entropy)
    (subst IsFault (sym c.in-Err.ensures.decision.decided.stops) tt)
    (λ fault. record { drawing = may.1; permitted = is (verb_verdict s request) ∙ may.0 })
    c.requires.disks.at.settled c.requires.disks.store.settled (keeps_still m) (keeps_still d) at.stands

pub returns-in-Ok-clause-takes : goal.returns-in-Ok-clause-takes
returns-in-Ok-clause-takes g c = takes_on c.decide.ensures.decision.takes (λ is. absurd (c.carry.ensures.keeps.entropy is))
    (λ is. absurd (no_err (sym c.in-Ok.is ∙ is)))

pub returns-in-Err-clause-takes : goal.returns-in-Err-clause-takes
returns-in-Err-clause-takes g c = takes_on c.decide.ensures.decision.takes (λ is. c.in-Err.is ∙ ap Err c.in-Err.ensures.decision.decided.stops)
    (λ is. ap Err c.in-Err.ensures.decision.decided.stops)

pub decide-requires : goal.decide-requires
decide-requires g c = record {
  can = record { passed = c.requires.passed; loaded = c.requires.disks.at.loaded; empty = c.requires.empty };
}

pub returns-in-Ok-clause-stops : goal.returns-in-Ok-clause-stops
returns-in-Ok-clause-stops g c = c.carry.ensures.keeps.stops

pub returns-in-Err-clause-stops : goal.returns-in-Err-clause-stops
returns-in-Err-clause-stops g c = subst IsLoadedStop (sym c.in-Err.ensures.decision.decided.stops) tt

pub returns-in-Ok-clause-rows : goal.returns-in-Ok-clause-rows
returns-in-Ok-clause-rows g c = λ none. c.carry.ensures.keeps.kept (λ goes. false≢true (sym none ∙ c.in-Ok.ensures.decision.decided.through goes))

pub returns-in-Err-clause-rows : goal.returns-in-Err-clause-rows
returns-in-Err-clause-rows g c = λ none. refl

pub returns-in-Ok-clause-store : goal.returns-in-Ok-clause-store
returns-in-Ok-clause-store g c = record {
  named = λ is. c.in-Ok.ensures.decision.decided.named (c.carry.ensures.keeps.writes is);
  spared = λ none. c.carry.ensures.keeps.spared (λ writes. false≢true (sym none ∙ c.in-Ok.ensures.decision.decided.named writes));
}

pub returns-in-Err-clause-store : goal.returns-in-Err-clause-store
returns-in-Err-clause-store g c = record {
  named = λ is. absurd (not_of_store c.in-Err.stop c.in-Err.ensures.decision.decided.stops is);
  spared = λ none. refl;
}

pub returns-in-Ok-clause-damaged : goal.returns-in-Ok-clause-damaged
returns-in-Ok-clause-damaged g c =
    effect_spares g.M.Disk.medium (seen c.args.request.now) c.carry.ensures.keeps c.in-Ok.ensures.decision.decided.through c.decide.ensures.decision.takes.undrawn

pub returns-in-Err-clause-damaged : goal.returns-in-Err-clause-damaged
returns-in-Err-clause-damaged g c = spares_else (Err c.in-Err.stop) (random_sound c.in-Err.stop c.in-Err.ensures.decision.decided.stops)

pub returns-in-Ok-clause-store_kept : goal.returns-in-Ok-clause-store_kept
returns-in-Ok-clause-store_kept g c = λ none cell is.
    absurd (false≢true (sym none ∙ c.in-Ok.ensures.decision.decided.through (c.carry.ensures.keeps.through Store cell is)))

pub returns-in-Err-clause-store_kept : goal.returns-in-Err-clause-store_kept
returns-in-Err-clause-store_kept g c = λ none cell is. keeps_still (g.D.Disk.medium c.args.store.now)

pub returns-in-Ok-clause-left : goal.returns-in-Ok-clause-left
returns-in-Ok-clause-left g c = c.carry.ensures.left

pub returns-in-Err-clause-left : goal.returns-in-Err-clause-left
returns-in-Err-clause-left g c = decide_stopped c.decide.new.reply c.requires.disks.at.settled c.requires.disks.store.settled c.in-Err.ensures.decision.decided.stops c.in-Err.ensures.decision.decided.silent

pub returns-in-Ok-clause-loan : goal.returns-in-Ok-clause-loan
returns-in-Ok-clause-loan g c = c.carry.ensures.keeps.loan ∙ ap loan_of c.decide.ensures.decision.places

pub returns-in-Err-clause-loan : goal.returns-in-Err-clause-loan
returns-in-Err-clause-loan g c = ap loan_of c.decide.ensures.decision.places

pub carry-requires-clause-disks : goal.carry-requires-clause-disks
carry-requires-clause-disks g c =
    disks_decided c.args.held.now c.args.lease.now c.decide.new.lease (tables c.args.roles.now c.args.records.now)
    (g.M.Disk.medium c.args.module.now) (g.D.Disk.medium c.args.store.now) c.decide.ensures.decision.places c.requires.disks

pub carry-requires-clause-ready : goal.carry-requires-clause-ready
carry-requires-clause-ready g c = c.in-Ok.ensures.decision.decided.ready

pub returns-in-Ok-clause-cell : goal.returns-in-Ok-clause-cell
returns-in-Ok-clause-cell g c = λ n is. (c.in-Ok.ensures.decision.decided.through (c.carry.ensures.keeps.through Store n is), c.carry.ensures.keeps.cell n is)

pub returns-in-Err-clause-cell : goal.returns-in-Err-clause-cell
returns-in-Err-clause-cell g c = λ n is. absurd (random_sound c.in-Err.stop c.in-Err.ensures.decision.decided.stops Store n is)

-- ---- what it makes of the memory

pub returns-in-Ok-clause-memory : goal.returns-in-Ok-clause-memory
returns-in-Ok-clause-memory g c =
    let request = seen c.args.request.now in
    let t = tables c.args.roles.now c.args.records.now in
    let later = tables c.carry.new.roles c.carry.new.records in
    ok_gives (ChangesMemory request c.carry.new.reply t later) c.carry.result c.carry.new.reply (MemoryBy c.in-Ok.effect c.carry.new.reply t later)
    c.carry.ensures.memory (memory_left c.in-Ok.effect c.in-Ok.ensures.decision.decided.named c.in-Ok.ensures.decision.decided.through)

pub returns-in-Err-clause-memory : goal.returns-in-Err-clause-memory
returns-in-Err-clause-memory g c = tt
