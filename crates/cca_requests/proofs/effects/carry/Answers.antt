use Rattle.std.proofs.Common.{◌≡◌, ◌∙◌, ◌++◌, Bool, None, Some, Ok, refl, sym, subst, ap}
use Rattle.key_cells.specs.Lease.{bench_of}
use Rattle.master_registers.specs.Loaded.{masters_in}
use Rattle.line_service.specs.Replies.{Done, spelled}
use Rattle.cca_machine.specs.Act.{Show, effected, refused}
use Rattle.cca_machine.specs.Keys.{warning}
use Rattle.cca_machine.specs.Verdict.{define_questions, remove_questions}
use Rattle.cca_machine.specs.Refusals.{refusal_of}
use Rattle.request_rules.specs.Standing.{tables}
use Rattle.cca_machine.specs.Deciding.{GoesThrough, IsDecided, WritesStore}
use Rattle.cca_requests.proofs.Carrying.{action_carries, carries_as, create_carries, define_carries, delete_carries, outcome_is, refused_is, remove_carries, renew_carries, shown_is, write_carries}
use Rattle.cca_requests.proofs.Contents.{sound}
use Rattle.cca_requests.proofs.Leaving.{err_always, fails_alone, module_keeps, module_left, ready_as, registers_left, still_keeps, still_left, store_keeps, store_left}
use Rattle.line_service.specs.declared.stops.Device.TheVariants.{Store}
use Rattle.std.specs.Prelude.{set}
use Rattle.cca_roles.specs.Roles.{after_define, after_remove}
use Rattle.record_bodies.specs.Directory.{free_cell}
use Rattle.record_bodies.specs.Entries.{null_row, row_directory}
use Rattle.cca_machine.specs.declared.effects.Effect.TheVariants as code
use Rattle.cca_requests.specs.Changes.{rows_after}
use Rattle.cca_requests.specs.Memory.{ChangesRoles, ChangesRows, IsSameMemory, MemoryBy, SaysDone, row_with}
use Rattle.verb_rules.specs.Rules.{rule_number}
use Rattle.cca_requests.proofs.MemoryLaws.{memory_as, ok_gives, run_says, weaker_or}
use Rattle.cca_requests.proofs.Renewing.{run_cell, runs_as}
use Rattle.cca_requests.proofs.Serving.{still_carries}
use Rattle.cca_requests.proofs.effects.carry.Goals as goal

-- ---- what the machine makes of it

pub returns-in-Refused-clause-carries : goal.returns-in-Refused-clause-carries
returns-in-Refused-clause-carries g c = λ s request drawn at old decided.
    let left = subst (λ e. IsDecided s (bench_of c.args.lease.now) drawn request e c.args.reply.now) c.in-Refused.is decided in
    let r = refusal_of c.in-Refused.refusal in
    let t = tables c.args.roles.now c.args.records.now in
    let m = g.M.Disk.medium c.args.module.now in
    let d = g.D.Disk.medium c.args.store.now in
    carries_as (refused_is s drawn request left)
    (still_carries (refused s r) s (Ok tt) c.refuse.new.reply t m d refl c.refuse.ensures.spells tt c.requires.disks.at.settled c.requires.disks.store.settled at.stands)

pub returns-in-Shown-clause-carries : goal.returns-in-Shown-clause-carries
returns-in-Shown-clause-carries g c = λ s request drawn at old decided.
    let left = subst (λ e. IsDecided s (bench_of c.args.lease.now) drawn request e c.args.reply.now) c.in-Shown.is decided in
    let fields = left.1.fields in
    let t = tables c.args.roles.now c.args.records.now in
    let m = g.M.Disk.medium c.args.module.now in
    let d = g.D.Disk.medium c.args.store.now in
    carries_as (shown_is s drawn request left.0 left.1.is)
    (still_carries (effected s request (Show fields)) s (Ok tt) c.finish.new.reply t m d refl
    (c.finish.ensures.spells fields left.1.reply_is ∙ ap (λ (b : Bool). spelled (Done (fields ++ warning b))) (sym old)) tt c.requires.disks.at.settled c.requires.disks.store.settled at.stands)

pub returns-in-Change-clause-carries : goal.returns-in-Change-clause-carries
returns-in-Change-clause-carries g c = λ s request drawn at old decided.
    let left = subst (λ e. IsDecided s (bench_of c.args.lease.now) drawn request e c.args.reply.now) c.in-Change.is decided in
    carries_as (outcome_is s drawn request left.0 left.1 left.3)
    (action_carries c.requires.disks.store.settled at.stands.on_store c.in-Change.action (bench_of c.args.lease.now).part c.change_registers.new.records at.loaded.valid left.2
    (c.change_registers.ensures.turned s (record { loaded = at.loaded; stands = at.stands.on_module })) ((c.change_registers.ensures.carries s (record { loaded = at.loaded; stands = at.stands.on_module })).carries))

pub returns-in-DefineRole-clause-carries : goal.returns-in-DefineRole-clause-carries
returns-in-DefineRole-clause-carries g c = λ s request drawn at old decided.
    let left = subst (λ e. IsDecided s (bench_of c.args.lease.now) drawn request e c.args.reply.now) c.in-DefineRole.is decided in
    carries_as (outcome_is s drawn request left.0 left.1 left.2)
    (define_carries c.requires.disks.store.settled at.stands.on_store (define_questions s c.in-DefineRole.name) c.in-DefineRole.name c.in-DefineRole.points
    ((c.define_role.ensures.carries s (record { loaded = at.loaded; stands = at.stands.on_module })).carries))

pub returns-in-RemoveRole-clause-carries : goal.returns-in-RemoveRole-clause-carries
returns-in-RemoveRole-clause-carries g c = λ s request drawn at old decided.
    let left = subst (λ e. IsDecided s (bench_of c.args.lease.now) drawn request e c.args.reply.now) c.in-RemoveRole.is decided in
    carries_as (outcome_is s drawn request left.0 left.1 left.2)
    (remove_carries c.requires.disks.store.settled at.stands.on_store (remove_questions s c.in-RemoveRole.name) c.in-RemoveRole.name
    ((c.remove_role.ensures.carries s (record { loaded = at.loaded; stands = at.stands.on_module })).carries))

pub returns-in-Create-clause-carries : goal.returns-in-Create-clause-carries
returns-in-Create-clause-carries g c = λ s request drawn at old decided.
    let left = subst (λ e. IsDecided s (bench_of c.args.lease.now) drawn request e c.args.reply.now) c.in-Create.is decided in
    carries_as (outcome_is s drawn request left.0 left.1 left.2)
    (create_carries c.requires.disks.at.settled at.stands.on_module c.in-Create.label (c.create.ensures.carries s c.args.held.now (record { loaded = at.loaded; stands = at.stands.on_store })))

pub returns-in-Write-clause-carries : goal.returns-in-Write-clause-carries
returns-in-Write-clause-carries g c = λ s request drawn at old decided.
    let left = subst (λ e. IsDecided s (bench_of c.args.lease.now) drawn request e c.args.reply.now) c.in-Write.is decided in
    carries_as (shown_is s drawn request left.0 refl)
    (write_carries c.requires.disks.at.settled at.stands.on_module request left.1 (c.write.ensures.carries s request _ (record { loaded = at.loaded; stands = at.stands.on_store }) old left.1))

pub returns-in-Delete-clause-carries : goal.returns-in-Delete-clause-carries
returns-in-Delete-clause-carries g c = λ s request drawn at old decided.
    let left = subst (λ e. IsDecided s (bench_of c.args.lease.now) drawn request e c.args.reply.now) c.in-Delete.is decided in
    carries_as (outcome_is s drawn request left.0 refl left.2)
    (delete_carries c.requires.disks.at.settled at.stands.on_module left.1 (c.delete.ensures.carries s c.args.held.now _ (record { loaded = at.loaded; stands = at.stands.on_store }) left.1))

pub returns-in-Reencipher-clause-carries : goal.returns-in-Reencipher-clause-carries
returns-in-Reencipher-clause-carries g c = λ s request drawn at old decided.
    let left = subst (λ e. IsDecided s (bench_of c.args.lease.now) drawn request e c.args.reply.now) c.in-Reencipher.is decided in
    carries_as (outcome_is s drawn request left.0 left.1 left.2)
    (renew_carries c.requires.disks.at.settled at.stands.on_module c.in-Reencipher.action (c.renew.ensures.carries s (record { loaded = at.loaded; stands = at.stands.on_store })))

-- ---- whatever the disks hold

pub returns-in-Refused-clause-left : goal.returns-in-Refused-clause-left
returns-in-Refused-clause-left g c =
    still_left c.refuse.ensures.line c.requires.disks.at.settled c.requires.disks.store.settled
    (sound (g.M.Disk.medium c.args.module.now) (masters_in c.args.held.now (bench_of c.args.lease.now)) c.args.roles.now c.requires.disks.at.stands c.requires.disks.at.remembered) c.requires.disks.store.holds

pub returns-in-Shown-clause-left : goal.returns-in-Shown-clause-left
returns-in-Shown-clause-left g c =
    still_left c.finish.ensures.line c.requires.disks.at.settled c.requires.disks.store.settled
    (sound (g.M.Disk.medium c.args.module.now) (masters_in c.args.held.now (bench_of c.args.lease.now)) c.args.roles.now c.requires.disks.at.stands c.requires.disks.at.remembered) c.requires.disks.store.holds

pub returns-in-Change-clause-left : goal.returns-in-Change-clause-left
returns-in-Change-clause-left g c =
    registers_left c.change_registers.ensures.left c.requires.disks.store.settled c.requires.disks.store.holds c.change_registers.ensures.rows c.change_registers.ensures.memory

pub returns-in-DefineRole-clause-left : goal.returns-in-DefineRole-clause-left
returns-in-DefineRole-clause-left g c =
    module_left c.define_role.ensures.left c.requires.disks.store.settled c.requires.disks.store.holds

pub returns-in-RemoveRole-clause-left : goal.returns-in-RemoveRole-clause-left
returns-in-RemoveRole-clause-left g c =
    module_left c.remove_role.ensures.left c.requires.disks.store.settled c.requires.disks.store.holds

pub returns-in-Create-clause-left : goal.returns-in-Create-clause-left
returns-in-Create-clause-left g c =
    store_left c.create.ensures.left.left c.requires.disks.at.settled
    (sound (g.M.Disk.medium c.args.module.now) (masters_in c.args.held.now (bench_of c.args.lease.now)) c.args.roles.now c.requires.disks.at.stands c.requires.disks.at.remembered)

pub returns-in-Write-clause-left : goal.returns-in-Write-clause-left
returns-in-Write-clause-left g c =
    store_left c.write.ensures.left.left c.requires.disks.at.settled
    (sound (g.M.Disk.medium c.args.module.now) (masters_in c.args.held.now (bench_of c.args.lease.now)) c.args.roles.now c.requires.disks.at.stands c.requires.disks.at.remembered)

pub returns-in-Delete-clause-left : goal.returns-in-Delete-clause-left
returns-in-Delete-clause-left g c =
    store_left c.delete.ensures.left.left c.requires.disks.at.settled
    (sound (g.M.Disk.medium c.args.module.now) (masters_in c.args.held.now (bench_of c.args.lease.now)) c.args.roles.now c.requires.disks.at.stands c.requires.disks.at.remembered)

pub returns-in-Reencipher-clause-left : goal.returns-in-Reencipher-clause-left
returns-in-Reencipher-clause-left g c =
    store_left c.renew.ensures.left c.requires.disks.at.settled
    (sound (g.M.Disk.medium c.args.module.now) (masters_in c.args.held.now (bench_of c.args.lease.now)) c.args.roles.now c.requires.disks.at.stands c.requires.disks.at.remembered)

-- ---- what was called

pub returns-in-Refused-clause-keeps : goal.returns-in-Refused-clause-keeps
returns-in-Refused-clause-keeps g c = still_keeps

pub returns-in-Shown-clause-keeps : goal.returns-in-Shown-clause-keeps
returns-in-Shown-clause-keeps g c = still_keeps

pub returns-in-Change-clause-keeps : goal.returns-in-Change-clause-keeps
returns-in-Change-clause-keeps g c = module_keeps c.change_registers.result (λ writes. subst WritesStore c.in-Change.is writes) c.change_registers.ensures.left.stops c.change_registers.ensures.memory c.change_registers.ensures.loan

pub returns-in-DefineRole-clause-keeps : goal.returns-in-DefineRole-clause-keeps
returns-in-DefineRole-clause-keeps g c = module_keeps c.define_role.result (λ writes. subst WritesStore c.in-DefineRole.is writes) c.define_role.ensures.left.stops (err_always c.define_role.result refl) c.define_role.ensures.loan

pub returns-in-RemoveRole-clause-keeps : goal.returns-in-RemoveRole-clause-keeps
returns-in-RemoveRole-clause-keeps g c = module_keeps c.remove_role.result (λ writes. subst WritesStore c.in-RemoveRole.is writes) c.remove_role.ensures.left.stops (err_always c.remove_role.result refl) c.remove_role.ensures.loan

pub returns-in-Create-clause-keeps : goal.returns-in-Create-clause-keeps
returns-in-Create-clause-keeps g c = store_keeps c.create.result (subst WritesStore (sym c.in-Create.is) tt) (fails_alone c.create.result c.create.ensures.left.fault) (λ n. fails_alone c.create.result c.create.ensures.left.fault Store n) c.create.ensures.left.left.stops (λ none. c.create.ensures.left.kept) c.create.ensures.left.loan

pub returns-in-Write-clause-keeps : goal.returns-in-Write-clause-keeps
returns-in-Write-clause-keeps g c = store_keeps c.write.result (subst WritesStore (sym c.in-Write.is) tt) (fails_alone c.write.result c.write.ensures.left.fault) (λ n. fails_alone c.write.result c.write.ensures.left.fault Store n) c.write.ensures.left.left.stops (λ none. c.write.ensures.left.kept) c.write.ensures.left.loan

pub returns-in-Delete-clause-keeps : goal.returns-in-Delete-clause-keeps
returns-in-Delete-clause-keeps g c = store_keeps c.delete.result (subst WritesStore (sym c.in-Delete.is) tt) (fails_alone c.delete.result c.delete.ensures.left.fault) (λ n. fails_alone c.delete.result c.delete.ensures.left.fault Store n) c.delete.ensures.left.left.stops (λ none. c.delete.ensures.left.kept) c.delete.ensures.left.loan

pub returns-in-Reencipher-clause-keeps : goal.returns-in-Reencipher-clause-keeps
returns-in-Reencipher-clause-keeps g c = store_keeps c.renew.result (subst WritesStore (sym c.in-Reencipher.is) tt) (λ device cell is. subst GoesThrough (sym c.in-Reencipher.is) tt) (run_cell c.renew.ensures.run) c.renew.ensures.left.stops
    (λ none. absurd (none (subst GoesThrough (sym c.in-Reencipher.is) tt))) c.renew.ensures.loan

-- ---- what each call needs

pub refuse-requires-clause-empty : goal.refuse-requires-clause-empty
refuse-requires-clause-empty g c = (ready_as c.args.held.now (bench_of c.args.lease.now) c.args.records.now c.args.reply.now c.in-Refused.is c.requires.ready).0

pub refuse-requires-clause-short : goal.refuse-requires-clause-short
refuse-requires-clause-short g c = (ready_as c.args.held.now (bench_of c.args.lease.now) c.args.records.now c.args.reply.now c.in-Refused.is c.requires.ready).1

pub finish-requires : goal.finish-requires
finish-requires g c = ready_as c.args.held.now (bench_of c.args.lease.now) c.args.records.now c.args.reply.now c.in-Shown.is c.requires.ready

pub change_registers-requires-clause-at : goal.change_registers-requires-clause-at
change_registers-requires-clause-at g c = c.requires.disks.at

pub change_registers-requires-clause-empty : goal.change_registers-requires-clause-empty
change_registers-requires-clause-empty g c = ready_as c.args.held.now (bench_of c.args.lease.now) c.args.records.now c.args.reply.now c.in-Change.is c.requires.ready

pub define_role-requires-clause-at : goal.define_role-requires-clause-at
define_role-requires-clause-at g c = c.requires.disks.at

pub define_role-requires-clause-empty : goal.define_role-requires-clause-empty
define_role-requires-clause-empty g c = ready_as c.args.held.now (bench_of c.args.lease.now) c.args.records.now c.args.reply.now c.in-DefineRole.is c.requires.ready

pub remove_role-requires-clause-at : goal.remove_role-requires-clause-at
remove_role-requires-clause-at g c = c.requires.disks.at

pub remove_role-requires-clause-empty : goal.remove_role-requires-clause-empty
remove_role-requires-clause-empty g c = (ready_as c.args.held.now (bench_of c.args.lease.now) c.args.records.now c.args.reply.now c.in-RemoveRole.is c.requires.ready).0

pub remove_role-requires-clause-other : goal.remove_role-requires-clause-other
remove_role-requires-clause-other g c = (ready_as c.args.held.now (bench_of c.args.lease.now) c.args.records.now c.args.reply.now c.in-RemoveRole.is c.requires.ready).1

pub create-requires-clause-store : goal.create-requires-clause-store
create-requires-clause-store g c = c.requires.disks.store

pub write-requires-clause-store : goal.write-requires-clause-store
write-requires-clause-store g c = c.requires.disks.store

pub delete-requires-clause-store : goal.delete-requires-clause-store
delete-requires-clause-store g c = c.requires.disks.store

pub renew-requires-clause-store : goal.renew-requires-clause-store
renew-requires-clause-store g c = c.requires.disks.store

pub create-requires-clause-empty : goal.create-requires-clause-empty
create-requires-clause-empty g c = ready_as c.args.held.now (bench_of c.args.lease.now) c.args.records.now c.args.reply.now c.in-Create.is c.requires.ready

pub write-requires-clause-loaded : goal.write-requires-clause-loaded
write-requires-clause-loaded g c = c.requires.disks.at.loaded

pub write-requires-clause-ready : goal.write-requires-clause-ready
write-requires-clause-ready g c = ready_as c.args.held.now (bench_of c.args.lease.now) c.args.records.now c.args.reply.now c.in-Write.is c.requires.ready

pub delete-requires-clause-empty : goal.delete-requires-clause-empty
delete-requires-clause-empty g c = (ready_as c.args.held.now (bench_of c.args.lease.now) c.args.records.now c.args.reply.now c.in-Delete.is c.requires.ready).0

pub delete-requires-clause-held : goal.delete-requires-clause-held
delete-requires-clause-held g c = (ready_as c.args.held.now (bench_of c.args.lease.now) c.args.records.now c.args.reply.now c.in-Delete.is c.requires.ready).1

pub renew-requires-clause-loaded : goal.renew-requires-clause-loaded
renew-requires-clause-loaded g c = c.requires.disks.at.loaded

pub renew-requires-clause-empty : goal.renew-requires-clause-empty
renew-requires-clause-empty g c = (ready_as c.args.held.now (bench_of c.args.lease.now) c.args.records.now c.args.reply.now c.in-Reencipher.is c.requires.ready).0

pub renew-requires-clause-current : goal.renew-requires-clause-current
renew-requires-clause-current g c = (ready_as c.args.held.now (bench_of c.args.lease.now) c.args.records.now c.args.reply.now c.in-Reencipher.is c.requires.ready).1

pub renew-requires-clause-ready : goal.renew-requires-clause-ready
renew-requires-clause-ready g c = (ready_as c.args.held.now (bench_of c.args.lease.now) c.args.records.now c.args.reply.now c.in-Reencipher.is c.requires.ready).2

-- ---- a run through every label

pub returns-in-Refused-clause-run : goal.returns-in-Refused-clause-run
returns-in-Refused-clause-run g c = runs_as c.args.held.now c.args.records.now c.args.records.now (g.D.Disk.medium c.args.store.now) (g.D.Disk.medium c.args.store.now) (Ok tt) c.refuse.new.reply c.in-Refused.is tt

pub returns-in-Shown-clause-run : goal.returns-in-Shown-clause-run
returns-in-Shown-clause-run g c = runs_as c.args.held.now c.args.records.now c.args.records.now (g.D.Disk.medium c.args.store.now) (g.D.Disk.medium c.args.store.now) (Ok tt) c.finish.new.reply c.in-Shown.is tt

pub returns-in-Change-clause-run : goal.returns-in-Change-clause-run
returns-in-Change-clause-run g c = runs_as c.args.held.now c.args.records.now c.change_registers.new.records (g.D.Disk.medium c.args.store.now) (g.D.Disk.medium c.args.store.now) c.change_registers.result c.change_registers.new.reply c.in-Change.is tt

pub returns-in-DefineRole-clause-run : goal.returns-in-DefineRole-clause-run
returns-in-DefineRole-clause-run g c = runs_as c.args.held.now c.args.records.now c.args.records.now (g.D.Disk.medium c.args.store.now) (g.D.Disk.medium c.args.store.now) c.define_role.result c.define_role.new.reply c.in-DefineRole.is tt

pub returns-in-RemoveRole-clause-run : goal.returns-in-RemoveRole-clause-run
returns-in-RemoveRole-clause-run g c = runs_as c.args.held.now c.args.records.now c.args.records.now (g.D.Disk.medium c.args.store.now) (g.D.Disk.medium c.args.store.now) c.remove_role.result c.remove_role.new.reply c.in-RemoveRole.is tt

pub returns-in-Create-clause-run : goal.returns-in-Create-clause-run
returns-in-Create-clause-run g c = runs_as c.args.held.now c.args.records.now c.create.new.records (g.D.Disk.medium c.args.store.now) (g.D.Disk.medium c.create.new.store) c.create.result c.create.new.reply c.in-Create.is tt

pub returns-in-Write-clause-run : goal.returns-in-Write-clause-run
returns-in-Write-clause-run g c = runs_as c.args.held.now c.args.records.now c.write.new.records (g.D.Disk.medium c.args.store.now) (g.D.Disk.medium c.write.new.store) c.write.result c.write.new.reply c.in-Write.is tt

pub returns-in-Delete-clause-run : goal.returns-in-Delete-clause-run
returns-in-Delete-clause-run g c = runs_as c.args.held.now c.args.records.now c.delete.new.records (g.D.Disk.medium c.args.store.now) (g.D.Disk.medium c.delete.new.store) c.delete.result c.delete.new.reply c.in-Delete.is tt

pub returns-in-Reencipher-clause-run : goal.returns-in-Reencipher-clause-run
returns-in-Reencipher-clause-run g c = runs_as c.args.held.now c.args.records.now c.renew.new.records (g.D.Disk.medium c.args.store.now) (g.D.Disk.medium c.renew.new.store) c.renew.result c.renew.new.reply c.in-Reencipher.is c.renew.ensures.run

-- ---- what it makes of the memory

pub returns-in-Refused-clause-memory : goal.returns-in-Refused-clause-memory
returns-in-Refused-clause-memory g c = memory_as (Ok tt) c.refuse.new.reply (tables c.args.roles.now c.args.records.now) (tables c.args.roles.now c.args.records.now) c.in-Refused.is (record { rule = rule_number c.in-Refused.refusal.rule; operand = c.in-Refused.refusal.operand.now; is = c.refuse.ensures.spells }, (refl, refl))

pub returns-in-Shown-clause-memory : goal.returns-in-Shown-clause-memory
returns-in-Shown-clause-memory g c = memory_as (Ok tt) c.finish.new.reply (tables c.args.roles.now c.args.records.now) (tables c.args.roles.now c.args.records.now) c.in-Shown.is (refl, refl)

pub returns-in-Change-clause-memory : goal.returns-in-Change-clause-memory
returns-in-Change-clause-memory g c = memory_as c.change_registers.result c.change_registers.new.reply (tables c.args.roles.now c.args.records.now) (tables c.args.roles.now c.change_registers.new.records) c.in-Change.is (weaker_or c.change_registers.result c.change_registers.new.reply (c.change_registers.new.records ≡ c.args.records.now) (c.change_registers.new.records ≡ (rows_after c.in-Change.action c.args.records.now)) (IsSameMemory (tables c.args.roles.now c.args.records.now) (tables c.args.roles.now c.change_registers.new.records)) (ChangesRows (tables c.args.roles.now c.args.records.now) (tables c.args.roles.now c.change_registers.new.records) (rows_after c.in-Change.action c.args.records.now))
    (λ rows. (refl, rows)) (λ rows. (refl, rows)) c.change_registers.ensures.own)

pub returns-in-DefineRole-clause-memory : goal.returns-in-DefineRole-clause-memory
returns-in-DefineRole-clause-memory g c = memory_as c.define_role.result c.define_role.new.reply (tables c.args.roles.now c.args.records.now) (tables c.define_role.new.roles c.args.records.now) c.in-DefineRole.is (weaker_or c.define_role.result c.define_role.new.reply (c.define_role.new.roles ≡ c.args.roles.now) (c.define_role.new.roles ≡ (after_define c.in-DefineRole.name c.in-DefineRole.points c.args.roles.now)) (IsSameMemory (tables c.args.roles.now c.args.records.now) (tables c.define_role.new.roles c.args.records.now)) (ChangesRoles (tables c.args.roles.now c.args.records.now) (tables c.define_role.new.roles c.args.records.now) (after_define c.in-DefineRole.name c.in-DefineRole.points c.args.roles.now))
    (λ roles. (roles, refl)) (λ roles. (roles, refl)) c.define_role.ensures.own)

pub returns-in-RemoveRole-clause-memory : goal.returns-in-RemoveRole-clause-memory
returns-in-RemoveRole-clause-memory g c = memory_as c.remove_role.result c.remove_role.new.reply (tables c.args.roles.now c.args.records.now) (tables c.remove_role.new.roles c.args.records.now) c.in-RemoveRole.is (weaker_or c.remove_role.result c.remove_role.new.reply (c.remove_role.new.roles ≡ c.args.roles.now) (c.remove_role.new.roles ≡ (after_remove c.in-RemoveRole.name c.args.roles.now)) (IsSameMemory (tables c.args.roles.now c.args.records.now) (tables c.remove_role.new.roles c.args.records.now)) (ChangesRoles (tables c.args.roles.now c.args.records.now) (tables c.remove_role.new.roles c.args.records.now) (after_remove c.in-RemoveRole.name c.args.roles.now))
    (λ roles. (roles, refl)) (λ roles. (roles, refl)) c.remove_role.ensures.own)

pub returns-in-Create-clause-memory : goal.returns-in-Create-clause-memory
returns-in-Create-clause-memory g c = memory_as c.create.result c.create.new.reply (tables c.args.roles.now c.args.records.now) (tables c.args.roles.now c.create.new.records) c.in-Create.is (weaker_or c.create.result c.create.new.reply (c.create.new.records ≡ c.args.records.now) (c.create.new.records ≡ (set c.args.records.now (free_cell (row_directory c.args.records.now)) (Some (null_row c.in-Create.label)))) (IsSameMemory (tables c.args.roles.now c.args.records.now) (tables c.args.roles.now c.create.new.records)) (ChangesRows (tables c.args.roles.now c.args.records.now) (tables c.args.roles.now c.create.new.records) (set c.args.records.now (free_cell (row_directory c.args.records.now)) (Some (null_row c.in-Create.label))))
    (λ rows. (refl, rows)) (λ rows. (refl, rows)) c.create.ensures.own)

pub returns-in-Write-clause-memory : goal.returns-in-Write-clause-memory
returns-in-Write-clause-memory g c = memory_as c.write.result c.write.new.reply (tables c.args.roles.now c.args.records.now) (tables c.args.roles.now c.write.new.records) c.in-Write.is (ok_gives (ChangesRows (tables c.args.roles.now c.args.records.now) (tables c.args.roles.now c.write.new.records) (set c.args.records.now c.in-Write.place (row_with c.args.records.now c.in-Write.place c.in-Write.token))) c.write.result c.write.new.reply (c.write.new.records ≡ (set c.args.records.now c.in-Write.place (row_with c.args.records.now c.in-Write.place c.in-Write.token))) c.write.ensures.own (λ own. (refl, own)))

pub returns-in-Delete-clause-memory : goal.returns-in-Delete-clause-memory
returns-in-Delete-clause-memory g c = memory_as c.delete.result c.delete.new.reply (tables c.args.roles.now c.args.records.now) (tables c.args.roles.now c.delete.new.records) c.in-Delete.is (ok_gives (SaysDone c.delete.new.reply × ChangesRows (tables c.args.roles.now c.args.records.now) (tables c.args.roles.now c.delete.new.records) (set c.args.records.now c.in-Delete.place None)) c.delete.result c.delete.new.reply (SaysDone c.delete.new.reply × (c.delete.new.records ≡ (set c.args.records.now c.in-Delete.place None))) c.delete.ensures.own (λ own. (own.0, (refl, own.1))))

pub returns-in-Reencipher-clause-memory : goal.returns-in-Reencipher-clause-memory
returns-in-Reencipher-clause-memory g c = memory_as c.renew.result c.renew.new.reply (tables c.args.roles.now c.args.records.now) (tables c.args.roles.now c.renew.new.records) c.in-Reencipher.is (ok_gives (MemoryBy (code.Reencipher c.in-Reencipher.action) c.renew.new.reply (tables c.args.roles.now c.args.records.now) (tables c.args.roles.now c.renew.new.records)) c.renew.result c.renew.new.reply (SaysDone c.renew.new.reply) (run_says c.renew.result c.renew.new.reply c.renew.ensures.run) (λ says. (says, refl, c.renew.ensures.run.directory)))
