-- The registers and roles that were read, with the labels that were read under them, are those of one state.
use Rattle.std.proofs.Common.{ap}
use Rattle.key_cells.specs.Lease.{bench_of}
use Rattle.master_registers.specs.Loaded.{masters_in}
use Rattle.master_registers.specs.declared.registers.Registers.{Registers}
use Rattle.store_unload.proofs.OpeningLemmas.{is_loaded_after, loan_kept, module_opening, opened_as, registers_after, store_opening}
use Rattle.store_unload.proofs.BothLemmas.{module_damage, module_shut, sound_damage, sound_left, store_damage, store_shut}
use Rattle.store_unload.proofs.KnownLemmas.{opened_known}
use Rattle.store_unload.proofs.opening.open_disks.Goals as goal

pub returns-in-Ok-open_store-clause-known : goal.returns-in-Ok-open_store-clause-known
returns-in-Ok-open_store-clause-known g c =
    opened_known (g.M.Disk.medium c.open_module.new.module) (g.D.Disk.medium c.open_store.new.store)
    (masters_in c.in-Ok.held (bench_of c.open_module.new.lease)) c.open_module.new.roles c.open_store.new.records
    c.in-Ok.ensures.registers c.in-Ok.ensures.roles c.in-Ok-open_store.ensures.keeps c.in-Ok-open_store.ensures.holds

pub returns-in-Ok-open_store-clause-opened : goal.returns-in-Ok-open_store-clause-opened
returns-in-Ok-open_store-clause-opened g c = λ s disks.
    opened_as s c.in-Ok.held c.open_module.new.lease c.open_store.new.lease c.open_module.new.roles c.open_store.new.records
    (g.M.Disk.medium c.args.module.now) (g.M.Disk.medium c.open_module.new.module)
    (g.D.Disk.medium c.args.store.now) (g.D.Disk.medium c.open_store.new.store) disks
    c.open_module.ensures.kept.content c.open_store.ensures.kept.content
    c.in-Ok.ensures.loaded c.in-Ok.ensures.registers c.in-Ok.ensures.roles c.in-Ok-open_store.ensures.keeps c.open_store.ensures.rest

pub returns-in-Ok-open_store-clause-loaded : goal.returns-in-Ok-open_store-clause-loaded
returns-in-Ok-open_store-clause-loaded g c =
    is_loaded_after c.in-Ok.held (bench_of c.open_module.new.lease) (bench_of c.open_store.new.lease) (ap bench_of c.open_store.ensures.rest) c.in-Ok.ensures.loaded

pub returns-in-Ok-open_store-clause-registers : goal.returns-in-Ok-open_store-clause-registers
returns-in-Ok-open_store-clause-registers g c =
    registers_after c.in-Ok.held (bench_of c.open_module.new.lease) (bench_of c.open_store.new.lease) (ap bench_of c.open_store.ensures.rest)
    (g.M.Disk.medium c.args.module.now) (g.M.Disk.medium c.open_module.new.module) c.open_module.ensures.kept.content c.in-Ok.ensures.registers

pub returns-in-Ok-open_store-clause-damage : goal.returns-in-Ok-open_store-clause-damage
returns-in-Ok-open_store-clause-damage g c =
    sound_damage Registers c.open_store.result
    (g.M.Disk.medium c.args.module.now) (g.M.Disk.faults c.args.module.now)
    (g.M.Disk.medium c.open_module.new.module) (g.M.Disk.faults c.open_module.new.module)
    (g.D.Disk.medium c.args.store.now) (g.D.Disk.faults c.args.store.now)
    (g.D.Disk.medium c.open_store.new.store) (g.D.Disk.faults c.open_store.new.store)
    (masters_in c.in-Ok.held (bench_of c.open_module.new.lease)) c.open_module.new.roles
    c.open_module.ensures.kept.content c.in-Ok.ensures.registers c.in-Ok.ensures.roles
    c.open_store.ensures.judged c.in-Ok.held c.in-Ok-open_store.field-0 c.in-Ok-open_store.is

pub returns-in-Err-open_store-clause-damage : goal.returns-in-Err-open_store-clause-damage
returns-in-Err-open_store-clause-damage g c =
    store_damage Registers c.open_store.result
    (g.M.Disk.medium c.args.module.now) (g.M.Disk.faults c.args.module.now)
    (g.M.Disk.medium c.open_module.new.module) (g.M.Disk.faults c.open_module.new.module)
    (g.D.Disk.medium c.args.store.now) (g.D.Disk.faults c.args.store.now)
    (g.D.Disk.medium c.open_store.new.store) (g.D.Disk.faults c.open_store.new.store)
    (masters_in c.in-Ok.held (bench_of c.open_module.new.lease)) c.open_module.new.roles
    c.open_module.ensures.kept.content c.in-Ok.ensures.registers c.in-Ok.ensures.roles
    c.open_store.ensures.judged c.in-Err-open_store.stop c.in-Err-open_store.is c.in-Err-open_store.ensures.stops c.open_store.ensures.damaged

pub returns-in-Err-clause-damage : goal.returns-in-Err-clause-damage
returns-in-Err-clause-damage g c =
    module_damage Registers c.open_module.result c.in-Err.stop
    (g.M.Disk.medium c.args.module.now) (g.M.Disk.faults c.args.module.now)
    (g.M.Disk.medium c.open_module.new.module) (g.M.Disk.faults c.open_module.new.module)
    (g.D.Disk.medium c.args.store.now) (g.D.Disk.faults c.args.store.now)
    c.in-Err.is c.in-Err.ensures.stops c.open_module.ensures.damaged c.open_module.ensures.judged c.open_module.ensures.left.fault

pub returns-in-Ok-open_store-clause-left : goal.returns-in-Ok-open_store-clause-left
returns-in-Ok-open_store-clause-left g c =
    sound_left Registers c.open_module.result c.open_store.result
    (g.M.Disk.medium c.args.module.now) (g.M.Disk.faults c.args.module.now)
    (g.M.Disk.medium c.open_module.new.module) (g.M.Disk.faults c.open_module.new.module)
    (g.D.Disk.medium c.args.store.now) (g.D.Disk.faults c.args.store.now)
    (g.D.Disk.medium c.open_store.new.store) (g.D.Disk.faults c.open_store.new.store)
    c.open_module.ensures.kept c.open_module.ensures.left c.in-Ok.held c.in-Ok.held c.in-Ok-open_store.field-0
    c.in-Ok.is c.in-Ok-open_store.is c.open_store.ensures.kept c.open_store.ensures.left

pub returns-in-Err-open_store-clause-left : goal.returns-in-Err-open_store-clause-left
returns-in-Err-open_store-clause-left g c =
    store_shut Registers c.open_module.result c.open_store.result
    (g.M.Disk.medium c.args.module.now) (g.M.Disk.faults c.args.module.now)
    (g.M.Disk.medium c.open_module.new.module) (g.M.Disk.faults c.open_module.new.module)
    (g.D.Disk.medium c.args.store.now) (g.D.Disk.faults c.args.store.now)
    (g.D.Disk.medium c.open_store.new.store) (g.D.Disk.faults c.open_store.new.store)
    c.open_module.ensures.kept c.open_module.ensures.left c.in-Ok.held c.in-Err-open_store.stop
    c.in-Ok.is c.in-Err-open_store.is c.in-Err-open_store.ensures.stops c.open_store.ensures.kept c.open_store.ensures.left

pub returns-in-Err-clause-left : goal.returns-in-Err-clause-left
returns-in-Err-clause-left g c =
    module_shut Registers c.open_module.result c.open_module.result
    (g.M.Disk.medium c.args.module.now) (g.M.Disk.faults c.args.module.now)
    (g.M.Disk.medium c.open_module.new.module) (g.M.Disk.faults c.open_module.new.module)
    (g.D.Disk.medium c.args.store.now) (g.D.Disk.faults c.args.store.now)
    (g.D.Disk.medium c.args.store.now) (g.D.Disk.faults c.args.store.now)
    c.open_module.ensures.kept c.open_module.ensures.left c.in-Err.stop c.in-Err.is c.in-Err.ensures.stops

-- ---- the disks are called

pub open_module-requires : goal.open_module-requires
open_module-requires g c = c.requires.module_size

pub open_store-requires-clause-size : goal.open_store-requires-clause-size
open_store-requires-clause-size g c = c.requires.store_size

pub open_store-requires-clause-loaded : goal.open_store-requires-clause-loaded
open_store-requires-clause-loaded g c = c.in-Ok.ensures.loaded

-- ---- the stop and the lease

pub returns-in-Ok-open_store-clause-stops : goal.returns-in-Ok-open_store-clause-stops
returns-in-Ok-open_store-clause-stops g c = tt

pub returns-in-Ok-open_store-clause-loan : goal.returns-in-Ok-open_store-clause-loan
returns-in-Ok-open_store-clause-loan g c =
    loan_kept c.args.lease.now c.open_module.new.lease c.open_store.new.lease c.open_module.ensures.loan c.open_store.ensures.rest

pub returns-in-Err-open_store-clause-known : goal.returns-in-Err-open_store-clause-known
returns-in-Err-open_store-clause-known g c = tt

pub returns-in-Err-open_store-clause-opened : goal.returns-in-Err-open_store-clause-opened
returns-in-Err-open_store-clause-opened g c = λ s disks. tt

pub returns-in-Err-open_store-clause-loaded : goal.returns-in-Err-open_store-clause-loaded
returns-in-Err-open_store-clause-loaded g c = tt

pub returns-in-Err-open_store-clause-registers : goal.returns-in-Err-open_store-clause-registers
returns-in-Err-open_store-clause-registers g c = tt

pub returns-in-Err-open_store-clause-stops : goal.returns-in-Err-open_store-clause-stops
returns-in-Err-open_store-clause-stops g c = store_opening c.in-Err-open_store.stop c.in-Err-open_store.ensures.stops

pub returns-in-Err-open_store-clause-loan : goal.returns-in-Err-open_store-clause-loan
returns-in-Err-open_store-clause-loan g c =
    loan_kept c.args.lease.now c.open_module.new.lease c.open_store.new.lease c.open_module.ensures.loan c.open_store.ensures.rest

pub returns-in-Err-clause-known : goal.returns-in-Err-clause-known
returns-in-Err-clause-known g c = tt

pub returns-in-Err-clause-opened : goal.returns-in-Err-clause-opened
returns-in-Err-clause-opened g c = λ s disks. tt

pub returns-in-Err-clause-loaded : goal.returns-in-Err-clause-loaded
returns-in-Err-clause-loaded g c = tt

pub returns-in-Err-clause-registers : goal.returns-in-Err-clause-registers
returns-in-Err-clause-registers g c = tt

pub returns-in-Err-clause-stops : goal.returns-in-Err-clause-stops
returns-in-Err-clause-stops g c = module_opening c.in-Err.stop c.in-Err.ensures.stops

pub returns-in-Err-clause-loan : goal.returns-in-Err-clause-loan
returns-in-Err-clause-loan g c = c.open_module.ensures.loan
