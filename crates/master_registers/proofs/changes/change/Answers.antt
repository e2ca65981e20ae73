use Rattle.std.proofs.Common.{◌≡◌, ap}
use Rattle.std.specs.Prelude.{IsTrue}
use Rattle.key_cells.specs.Lease.{bench_of}
use Rattle.master_registers.specs.Actions.{after_action, has_wrong_state, repeats_pattern}
use Rattle.master_registers.specs.Loaded.{masters_in}
use Rattle.master_registers.specs.RegisterBody.{registers_body}
use Rattle.master_registers.specs.declared.faults.RegisterFault.TheVariants.{DiskFault, RegisterState, SamePattern}
use Rattle.master_registers.proofs.ChangeLemmas.{carries_none, changes_registers, refuses_none, rest_stored}
use Rattle.master_registers.proofs.changes.change.Goals as goal

-- neither of the two rules is a fault of the disk
state_not_disk : RegisterState ≡ DiskFault → ⊥
state_not_disk is = cc is

pattern_not_disk : SamePattern ≡ DiskFault → ⊥
pattern_not_disk is = cc is

pub prepare-requires : goal.prepare-requires
prepare-requires g c = c.requires.loaded

pub store-requires-clause-within : goal.store-requires-clause-within
store-requires-clause-within g c = c.requires.within

pub store-requires-clause-settled : goal.store-requires-clause-settled
store-requires-clause-settled g c = c.requires.settled

pub returns-in-Ok-clause-registers : goal.returns-in-Ok-clause-registers
returns-in-Ok-clause-registers g c =
    let bench = bench_of c.args.lease.now in
    let between = bench_of c.prepare.new.lease in
    let m = masters_in c.args.held.now bench in
    changes_registers g.M.Disk.medium g.M.Disk.faults m (after_action c.args.action bench.part m) c.in-Ok.next between c.args.lease.now c.store.new.lease
    (registers_body (masters_in c.in-Ok.next between)) c.args.module.now c.store.new.module c.store.result c.in-Ok.ensures.loaded
    (ap bench_of c.store.ensures.body) c.store.ensures.same (rest_stored c.args.lease.now c.prepare.new.lease c.store.new.lease (registers_body (masters_in c.in-Ok.next between)) c.prepare.ensures.places c.store.ensures.body)
    (c.store.ensures.changed m c.requires.stands) c.store.ensures.cause c.store.ensures.fault

pub returns-in-Ok-clause-state : goal.returns-in-Ok-clause-state
returns-in-Ok-clause-state g c =
    refuses_none c.store.result c.in-Ok.next RegisterState
    (IsTrue (has_wrong_state c.args.action (masters_in c.args.held.now (bench_of c.args.lease.now))))
    c.store.ensures.fault state_not_disk c.in-Ok.ensures.state

pub returns-in-Ok-clause-same : goal.returns-in-Ok-clause-same
returns-in-Ok-clause-same g c =
    refuses_none c.store.result c.in-Ok.next SamePattern
    (IsTrue (repeats_pattern c.args.action (masters_in c.args.held.now (bench_of c.args.lease.now))))
    c.store.ensures.fault pattern_not_disk c.in-Ok.ensures.same

pub returns-in-Err-clause-registers : goal.returns-in-Err-clause-registers
returns-in-Err-clause-registers g c =
    let bench = bench_of c.args.lease.now in
    let m = masters_in c.args.held.now bench in
    carries_none g.M.Disk.medium g.M.Disk.faults m (after_action c.args.action bench.part m) c.args.lease.now c.prepare.new.lease c.args.module.now c.in-Err.fault
    c.requires.settled c.requires.stands c.prepare.ensures.places c.in-Err.ensures.untouched c.in-Err.ensures.disk

pub returns-in-Err-clause-state : goal.returns-in-Err-clause-state
returns-in-Err-clause-state g c = c.in-Err.ensures.state

pub returns-in-Err-clause-same : goal.returns-in-Err-clause-same
returns-in-Err-clause-same g c = c.in-Err.ensures.same
