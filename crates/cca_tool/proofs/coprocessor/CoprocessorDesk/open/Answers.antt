-- What opening the disks comes to, told as its stops alone.
use Rattle.request_rules.specs.Standing.{tables}
use Rattle.store_unload.proofs.KnownLemmas.{known_remembers, known_sound}
use Rattle.cca_tool.proofs.OpenedLemmas.{opened_damage, opened_left, stopped_damage, stopped_left}
use Rattle.cca_tool.proofs.coprocessor.CoprocessorDesk.open.Goals as goal

pub returns-in-Ok-clause-sound : goal.returns-in-Ok-clause-sound
returns-in-Ok-clause-sound g c =
    known_sound (tables c.open_disks.new.roles c.open_disks.new.records)
    (g.M.Disk.medium c.args.module.now) (g.M.Disk.medium c.open_disks.new.module) (g.D.Disk.medium c.args.store.now) (g.D.Disk.medium c.open_disks.new.store)
    c.open_disks.ensures.left.module_kept.content c.open_disks.ensures.left.store_kept.content c.in-Ok.ensures.known

pub returns-in-Ok-clause-knows : goal.returns-in-Ok-clause-knows
returns-in-Ok-clause-knows g c =
    known_remembers (tables c.open_disks.new.roles c.open_disks.new.records)
    (g.M.Disk.medium c.args.module.now) (g.M.Disk.medium c.open_disks.new.module) (g.D.Disk.medium c.args.store.now) (g.D.Disk.medium c.open_disks.new.store)
    c.open_disks.ensures.left.module_kept.content c.open_disks.ensures.left.store_kept.content c.in-Ok.ensures.known

pub returns-in-Ok-clause-damage : goal.returns-in-Ok-clause-damage
returns-in-Ok-clause-damage g c =
    opened_damage c.open_disks.result
    (g.M.Disk.medium c.args.module.now) (g.M.Disk.faults c.args.module.now)
    (g.M.Disk.medium c.open_disks.new.module) (g.M.Disk.faults c.open_disks.new.module)
    (g.D.Disk.medium c.args.store.now) (g.D.Disk.faults c.args.store.now)
    (g.D.Disk.medium c.open_disks.new.store) (g.D.Disk.faults c.open_disks.new.store)
    c.in-Ok.field-0 c.in-Ok.is c.open_disks.ensures.damage

pub returns-clause-damage : goal.returns-clause-damage
returns-clause-damage g c =
    stopped_damage c.open_disks.result
    (g.M.Disk.medium c.args.module.now) (g.M.Disk.faults c.args.module.now)
    (g.M.Disk.medium c.open_disks.new.module) (g.M.Disk.faults c.open_disks.new.module)
    (g.D.Disk.medium c.args.store.now) (g.D.Disk.faults c.args.store.now)
    (g.D.Disk.medium c.open_disks.new.store) (g.D.Disk.faults c.open_disks.new.store)
    c.in-Err.stop c.in-Err.is c.open_disks.ensures.damage

pub returns-in-Ok-clause-left : goal.returns-in-Ok-clause-left
returns-in-Ok-clause-left g c =
    opened_left c.open_disks.result
    (g.M.Disk.medium c.args.module.now) (g.M.Disk.faults c.args.module.now)
    (g.M.Disk.medium c.open_disks.new.module) (g.M.Disk.faults c.open_disks.new.module)
    (g.D.Disk.medium c.args.store.now) (g.D.Disk.faults c.args.store.now)
    (g.D.Disk.medium c.open_disks.new.store) (g.D.Disk.faults c.open_disks.new.store)
    c.in-Ok.field-0 c.in-Ok.is c.open_disks.ensures.left

pub returns-clause-left : goal.returns-clause-left
returns-clause-left g c =
    stopped_left c.open_disks.result
    (g.M.Disk.medium c.args.module.now) (g.M.Disk.faults c.args.module.now)
    (g.M.Disk.medium c.open_disks.new.module) (g.M.Disk.faults c.open_disks.new.module)
    (g.D.Disk.medium c.args.store.now) (g.D.Disk.faults c.args.store.now)
    (g.D.Disk.medium c.open_disks.new.store) (g.D.Disk.faults c.open_disks.new.store)
    c.in-Err.stop c.in-Err.is c.open_disks.ensures.left

pub returns-in-Ok-clause-ready : goal.returns-in-Ok-clause-ready
returns-in-Ok-clause-ready g c = c.in-Ok.ensures.known

pub returns-clause-stops : goal.returns-clause-stops
returns-clause-stops g c = c.in-Err.ensures.stops

-- ---- a call that is stopped knows nothing

pub open_disks-requires : goal.open_disks-requires
open_disks-requires g c = c.requires.disks

pub returns-in-Ok-clause-stops : goal.returns-in-Ok-clause-stops
returns-in-Ok-clause-stops g c = tt

pub returns-clause-sound : goal.returns-clause-sound
returns-clause-sound g c = tt

pub returns-clause-knows : goal.returns-clause-knows
returns-clause-knows g c = tt

pub returns-clause-ready : goal.returns-clause-ready
returns-clause-ready g c = tt
