use Rattle.std.proofs.Common.{◌≡◌, ◌∙◌, Result, Err, refl, sym, ap, subst}
use Rattle.key_cells.specs.Lease.{bench_of}
use Rattle.master_registers.specs.Loaded.{Loaded, masters_in}
use Rattle.line_service.specs.declared.stops.Stop.{Stop}
use Rattle.line_service.specs.declared.stops.Stop.TheVariants.{Damaged, EntropyFault, ModuleFault, StoreFault}
use Rattle.line_service.specs.declared.stops.Device.TheVariants.{Module}
use Rattle.line_service.proofs.AnsweredLemmas.{spares_else}
use Rattle.device_cells.proofs.Media.{keeps_still}
use Rattle.verb_script.specs.Parsed.{seen}
use Rattle.verb_script.proofs.GrammarLaws.{spelled_values}
use Rattle.request_rules.specs.Standing.{tables}
use Rattle.request_rules.proofs.AsRead.{rests_before}
use Rattle.cca_requests.proofs.Damage.{load_spares, module_sound, spares_after_module}
use Rattle.cca_requests.proofs.Handing.{disks_loaded, draws_none, load_damaged, load_failed, request_stop, spares_still}
use Rattle.cca_requests.proofs.Leaving.{no_damage, leaves_after_reads}
use Rattle.cca_requests.proofs.Registers.{registers_found, told_sound, told_then, undamaged}
use Rattle.cca_requests.proofs.Serving.{stopped_serves, serves_after_reads, stands_kept}
use Rattle.cca_requests.proofs.performing.perform.Goals as goal
use Rattle.key_cells.proofs.AnswerLemmas.{no_err}

-- ---- answers that aren't one

abbrev error : Stop → Result (Unit {0}) Stop
error stop = Err stop

-- neither a fault of the module nor its damage is one of the store or of the random source
module_not_store : error ModuleFault ≡ error StoreFault → ⊥
module_not_store is = cc is

module_not_random : error ModuleFault ≡ error EntropyFault → ⊥
module_not_random is = cc is

damage_not_store : error (Damaged Module 0) ≡ error StoreFault → ⊥
damage_not_store is = cc is

damage_not_random : error (Damaged Module 0) ≡ error EntropyFault → ⊥
damage_not_random is = cc is

-- ---- what the machine does

pub returns-in-Ok-clause-serves : goal.returns-in-Ok-clause-serves
returns-in-Ok-clause-serves g c = λ s stands.
    let t = tables c.args.roles.now c.args.records.now in
    let m0 = g.M.Disk.medium c.args.module.now in
    let m1 = g.M.Disk.medium c.load.new.module in
    let d = g.D.Disk.medium c.args.store.now in
    let bench = bench_of c.load.new.lease in
    let found = registers_found m0 m1 s (masters_in c.in-Ok.held bench) stands.on_module.in_module c.load.ensures.keeps c.in-Ok.ensures.stands in
    serves_after_reads s (seen c.args.request.now) c.carry_out.result c.carry_out.new.reply t (tables c.carry_out.new.roles c.carry_out.new.records)
    m0 m1 (g.M.Disk.medium c.carry_out.new.module) d d (g.D.Disk.medium c.carry_out.new.store)
    (g.E.Entropy.left c.args.entropy.now) (g.E.Entropy.left c.carry_out.new.entropy)
    c.requires.disks.module_settled c.requires.disks.store_settled c.load.ensures.keeps (keeps_still d) stands
    (c.carry_out.ensures.serves s (record {
      loaded = subst (λ m. Loaded m c.in-Ok.held bench) (sym found) c.in-Ok.ensures.loaded;
      stands = stands_kept s t m0 m1 d d c.load.ensures.keeps (keeps_still d) stands;
    }))

pub returns-in-Err-DiskFault-clause-serves : goal.returns-in-Err-DiskFault-clause-serves
returns-in-Err-DiskFault-clause-serves g c = λ s stands.
    let t = tables c.args.roles.now c.args.records.now in
    let d = g.D.Disk.medium c.args.store.now in
    let left = g.E.Entropy.left c.args.entropy.now in
    stopped_serves s (seen c.args.request.now) ModuleFault c.clear.new.self t t
    (g.M.Disk.medium c.args.module.now) (g.M.Disk.medium c.load.new.module) d d left left tt (λ is. absurd (module_not_random (ap Err is)))
    c.requires.disks.module_settled c.requires.disks.store_settled c.load.ensures.keeps (keeps_still d) stands

pub returns-clause-serves : goal.returns-clause-serves
returns-clause-serves g c = λ s stands.
    absurd (undamaged (g.M.Disk.medium c.args.module.now) s stands.on_module.in_module (c.load.ensures.damaged (c.in-Err-Damaged.is ∙ ap Err c.in-Err-Damaged.field-0-is)))

pub carry_out-requires-clause-accepted : goal.carry_out-requires-clause-accepted
carry_out-requires-clause-accepted g c =
    spelled_values (seen c.args.request.now) c.requires.spelled.0 c.requires.spelled.1

pub returns-in-Ok-clause-random : goal.returns-in-Ok-clause-random
returns-in-Ok-clause-random g c = record {
  entropy = c.carry_out.ensures.random.entropy;
  untouched = λ s stands none.
      let t = tables c.args.roles.now c.args.records.now in
      let m0 = g.M.Disk.medium c.args.module.now in
      let m1 = g.M.Disk.medium c.load.new.module in
      let d = g.D.Disk.medium c.args.store.now in
      let bench = bench_of c.load.new.lease in
      let found = registers_found m0 m1 s (masters_in c.in-Ok.held bench) stands.on_module.in_module c.load.ensures.keeps c.in-Ok.ensures.stands in
      c.carry_out.ensures.random.untouched s (record {
        loaded = subst (λ m. Loaded m c.in-Ok.held bench) (sym found) c.in-Ok.ensures.loaded;
        stands = stands_kept s t m0 m1 d d c.load.ensures.keeps (keeps_still d) stands;
      }) none;
  undrawn = c.carry_out.ensures.random.undrawn;
  drawing = c.carry_out.ensures.random.drawing;
}

pub returns-in-Ok-clause-damage : goal.returns-in-Ok-clause-damage
returns-in-Ok-clause-damage g c = λ is. absurd (no_damage c.carry_out.result 0 c.carry_out.ensures.stops is)

pub returns-in-Ok-clause-left : goal.returns-in-Ok-clause-left
returns-in-Ok-clause-left g c =
    let d = g.D.Disk.medium c.args.store.now in
    leaves_after_reads {reply = c.carry_out.new.reply} {later = tables c.carry_out.new.roles c.carry_out.new.records}
    c.load.ensures.keeps (c.in-Ok.ensures.cause.quiet (λ is. no_err is)) (keeps_still d) refl c.carry_out.ensures.left

pub returns-in-Ok-clause-own : goal.returns-in-Ok-clause-own
returns-in-Ok-clause-own g c =
    rests_before c.carry_out.result (g.M.Disk.medium c.args.module.now) (g.M.Disk.medium c.load.new.module)
    (tables c.args.roles.now c.args.records.now) (seen c.args.request.now) c.carry_out.new.reply c.load.ensures.keeps c.carry_out.ensures.own

-- ---- what is handed on

pub carry_out-requires-clause-disks : goal.carry_out-requires-clause-disks
carry_out-requires-clause-disks g c =
    disks_loaded c.in-Ok.held (bench_of c.load.new.lease) (tables c.args.roles.now c.args.records.now)
    (g.M.Disk.medium c.args.module.now) (g.M.Disk.medium c.load.new.module) (g.D.Disk.medium c.args.store.now) c.load.ensures.keeps
    c.requires.disks.module_size c.requires.disks.module_settled c.requires.known.remembered c.in-Ok.ensures.loaded c.in-Ok.ensures.stands
    (record { size = c.requires.disks.store_size; settled = c.requires.disks.store_settled; holds = c.requires.known.recorded })

-- ---- where it ends

pub returns-in-Ok-clause-records : goal.returns-in-Ok-clause-records
returns-in-Ok-clause-records g c = c.carry_out.ensures.rows

pub returns-in-Ok-clause-store : goal.returns-in-Ok-clause-store
returns-in-Ok-clause-store g c = c.carry_out.ensures.store

pub returns-in-Ok-clause-damaged : goal.returns-in-Ok-clause-damaged
returns-in-Ok-clause-damaged g c = spares_after_module c.load.ensures.keeps c.carry_out.ensures.damaged

pub returns-in-Err-DiskFault-clause-damaged : goal.returns-in-Err-DiskFault-clause-damaged
returns-in-Err-DiskFault-clause-damaged g c = spares_else (error ModuleFault) module_sound

pub returns-clause-damaged : goal.returns-clause-damaged
returns-clause-damaged g c = load_spares c.load.ensures.keeps

pub returns-in-Ok-clause-store_kept : goal.returns-in-Ok-clause-store_kept
returns-in-Ok-clause-store_kept g c = c.carry_out.ensures.store_kept

pub returns-in-Err-DiskFault-clause-store_kept : goal.returns-in-Err-DiskFault-clause-store_kept
returns-in-Err-DiskFault-clause-store_kept g c = λ none cell is. keeps_still (g.D.Disk.medium c.args.store.now)

pub returns-clause-store_kept : goal.returns-clause-store_kept
returns-clause-store_kept g c = λ none cell is. keeps_still (g.D.Disk.medium c.args.store.now)

pub returns-in-Ok-clause-stops : goal.returns-in-Ok-clause-stops
returns-in-Ok-clause-stops g c = request_stop c.carry_out.result c.carry_out.ensures.stops

pub returns-in-Err-DiskFault-clause-left : goal.returns-in-Err-DiskFault-clause-left
returns-in-Err-DiskFault-clause-left g c =
    load_failed c.clear.new.self (tables c.args.roles.now c.args.records.now) (g.M.Disk.medium c.args.module.now) (g.M.Disk.medium c.load.new.module) (g.D.Disk.medium c.args.store.now)
    c.requires.disks.store_settled c.load.ensures.keeps c.load.ensures.cause (c.in-Err-DiskFault.is ∙ ap Err c.in-Err-DiskFault.field-0-is) c.clear.ensures

pub returns-clause-left : goal.returns-clause-left
returns-clause-left g c =
    load_damaged c.clear.new.self (tables c.args.roles.now c.args.records.now) (g.M.Disk.medium c.args.module.now) (g.M.Disk.medium c.load.new.module) (g.D.Disk.medium c.args.store.now)
    c.requires.disks.store_settled c.load.ensures.keeps c.load.ensures.cause (c.in-Err-Damaged.is ∙ ap Err c.in-Err-Damaged.field-0-is) c.clear.ensures

pub returns-clause-damage : goal.returns-clause-damage
returns-clause-damage g c = λ is. c.load.ensures.damaged (c.in-Err-Damaged.is ∙ ap Err c.in-Err-Damaged.field-0-is)

pub returns-in-Err-DiskFault-clause-store : goal.returns-in-Err-DiskFault-clause-store
returns-in-Err-DiskFault-clause-store g c = spares_still (Err ModuleFault) module_not_store

pub returns-clause-store : goal.returns-clause-store
returns-clause-store g c = spares_still (Err (Damaged Module 0)) damage_not_store

pub returns-in-Err-DiskFault-clause-random : goal.returns-in-Err-DiskFault-clause-random
returns-in-Err-DiskFault-clause-random g c = draws_none (Err ModuleFault) module_not_random

pub returns-clause-random : goal.returns-clause-random
returns-clause-random g c = draws_none (Err (Damaged Module 0)) damage_not_random

-- ---- a module that tells damaged registers

pub returns-in-Ok-clause-exact : goal.returns-in-Ok-clause-exact
returns-in-Ok-clause-exact g c = λ sound.
    told_sound (g.M.Disk.medium c.args.module.now) (g.M.Disk.medium c.load.new.module) (masters_in c.in-Ok.held (bench_of c.load.new.lease)) (c.carry_out.result ≡ error (Damaged Module 0)) c.load.ensures.keeps c.in-Ok.ensures.stands

pub returns-in-Err-DiskFault-clause-exact : goal.returns-in-Err-DiskFault-clause-exact
returns-in-Err-DiskFault-clause-exact g c = λ sound.
    absurd (sound (c.load.ensures.cause.failed (c.in-Err-DiskFault.is ∙ ap Err c.in-Err-DiskFault.field-0-is)))

pub returns-clause-exact : goal.returns-clause-exact
returns-clause-exact g c = λ sound. told_then (g.M.Disk.medium c.args.module.now) refl

-- ---- the cell that a stop names

pub returns-in-Ok-clause-cell : goal.returns-in-Ok-clause-cell
returns-in-Ok-clause-cell g c = c.carry_out.ensures.cell

pub returns-in-Err-DiskFault-clause-cell : goal.returns-in-Err-DiskFault-clause-cell
returns-in-Err-DiskFault-clause-cell g c = λ n is. cc is

pub returns-clause-cell : goal.returns-clause-cell
returns-clause-cell g c = λ n is. cc is

-- ---- what it makes of the memory

pub returns-in-Ok-clause-memory : goal.returns-in-Ok-clause-memory
returns-in-Ok-clause-memory g c = c.carry_out.ensures.memory
