use Rattle.std.proofs.Common.{refl, sym, ap, ◌∙◌}
use Rattle.key_cells.specs.Lease.{bench_of}
use Rattle.key_cells.specs.declared.leases.Lease.{Lease}
use Rattle.master_registers.specs.Loaded.{masters_in}
use Rattle.master_registers.proofs.ChangeLemmas.{cause_done, cause_failed, first_fits, store_done, store_failed}
use Rattle.master_registers.proofs.changes.store.Goals as goal
use Rattle.key_cells.proofs.AnswerLemmas.{unless_err}

pub write_form-requires : goal.write_form-requires
write_form-requires g c = c.requires.loaded

pub replace_cell-requires-clause-within : goal.replace_cell-requires-clause-within
replace_cell-requires-clause-within g c = first_fits (g.M.Disk.medium c.args.module.now).size c.new.result c.requires.within c.new.ensures

pub replace_cell-requires-clause-settled : goal.replace_cell-requires-clause-settled
replace_cell-requires-clause-settled g c = c.requires.settled

-- ---- the disk failed

pub returns-then-is_err-clause-changed : goal.returns-then-is_err-clause-changed
returns-then-is_err-clause-changed g c m start =
    store_failed m (masters_in c.args.next (bench_of c.args.lease.now)) c.requires.loaded.valid c.body.result.now (c.body.ensures ∙ ap (λ (l : Lease). (bench_of l).body) c.write_form.ensures) c.new.result c.new.ensures
    (g.M.Disk.medium c.args.module.now) (g.M.Disk.medium c.replace_cell.new.disk) start c.replace_cell.ensures.replacing c.replace_cell.ensures.moments

pub returns-then-is_err-clause-cause : goal.returns-then-is_err-clause-cause
returns-then-is_err-clause-cause g c =
    cause_failed (g.M.Disk.faults c.args.module.now) (g.M.Disk.faults c.replace_cell.new.disk) c.replace_cell.result c.replace_cell.ensures.cause (sym c.is_err.ensures.value ∙ c.if-is_err.true)

pub returns-then-is_err-clause-same : goal.returns-then-is_err-clause-same
returns-then-is_err-clause-same g c = tt

pub returns-then-is_err-clause-fault : goal.returns-then-is_err-clause-fault
returns-then-is_err-clause-fault g c = tt

pub returns-then-is_err-clause-body : goal.returns-then-is_err-clause-body
returns-then-is_err-clause-body g c = c.write_form.ensures

-- ---- the registers were written

pub returns-clause-changed : goal.returns-clause-changed
returns-clause-changed g c m start =
    let written = sym c.is_err.ensures.value ∙ c.if-is_err.false in
    store_done m (masters_in c.args.next (bench_of c.args.lease.now)) c.requires.loaded.valid c.body.result.now (c.body.ensures ∙ ap (λ (l : Lease). (bench_of l).body) c.write_form.ensures) c.new.result c.new.ensures
    (g.M.Disk.medium c.args.module.now) (g.M.Disk.medium c.replace_cell.new.disk) start c.replace_cell.ensures.replacing c.replace_cell.ensures.moments
    c.args.next (unless_err c.replace_cell.result written c.replace_cell.ensures.settled) (unless_err c.replace_cell.result written c.replace_cell.ensures.replaced)

pub returns-clause-cause : goal.returns-clause-cause
returns-clause-cause g c =
    cause_done (g.M.Disk.faults c.args.module.now) (g.M.Disk.faults c.replace_cell.new.disk) c.replace_cell.result c.replace_cell.ensures.cause (sym c.is_err.ensures.value ∙ c.if-is_err.false) c.args.next

pub returns-clause-same : goal.returns-clause-same
returns-clause-same g c = refl

pub returns-clause-fault : goal.returns-clause-fault
returns-clause-fault g c = tt

pub returns-clause-body : goal.returns-clause-body
returns-clause-body g c = c.write_form.ensures
