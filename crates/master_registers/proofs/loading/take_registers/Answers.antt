use Rattle.std.proofs.Common.{◌≡◌, ap, ◌∙◌}
use Rattle.std.specs.Prelude.{slice_index}
use Rattle.key_cells.specs.Lease.{bench_of}
use Rattle.key_cells.specs.declared.leases.Lease.{Lease}
use Rattle.key_cells.specs.declared.places.MasterPlace.TheVariants.{Current, Old, New}
use Rattle.master_registers.specs.BodyForm.{state_at, pattern_at}
use Rattle.master_registers.proofs.BodyLaws.{placed_taken, keys_taken, told_taken}
use Rattle.master_registers.proofs.FormLemmas.{with_taken}
use Rattle.master_registers.proofs.loading.take_registers.Goals as goal

-- the lease with the three registers
abbrev taken : Lease → Lease
taken lease = with_taken 56 Old (with_taken 32 Current (with_taken 8 New lease))

pub returns-clause-placed : goal.returns-clause-placed
returns-clause-placed c =
    let all : c.take_master-3.new.lease ≡ taken c.args.lease.now =
    c.take_master-3.ensures ∙ ap (with_taken 56 Old) c.take_master-2.ensures ∙ ap (λ lease. with_taken 56 Old (with_taken 32 Current lease)) c.take_master.ensures in
    placed_taken (bench_of c.args.lease.now).body c.requires.form c.requires.bytes (bench_of c.take_master-3.new.lease)
    (ap (λ lease. (bench_of lease).coming) all) (ap (λ lease. (bench_of lease).current) all) (ap (λ lease. (bench_of lease).former) all)

pub returns-clause-told : goal.returns-clause-told
returns-clause-told c =
    let all : c.take_master-3.new.lease ≡ taken c.args.lease.now =
    c.take_master-3.ensures ∙ ap (with_taken 56 Old) c.take_master-2.ensures ∙ ap (λ lease. with_taken 56 Old (with_taken 32 Current lease)) c.take_master.ensures in
    let same : (bench_of c.take_master-3.new.lease).body ≡ (bench_of c.args.lease.now).body = ap (λ lease. (bench_of lease).body) all in
    told_taken (bench_of c.args.lease.now).body c.new_state.result c.pattern_where.result c.pattern_where-2.result
    (c.new_state.ensures ∙ ap (λ body. state_at (slice_index body 1)) (c.body.ensures ∙ same))
    (c.pattern_where.ensures ∙ ap (λ lease. pattern_at (slice_index (bench_of lease).body 2) (bench_of lease).current) all)
    (c.pattern_where-2.ensures ∙ ap (λ lease. pattern_at (slice_index (bench_of lease).body 3) (bench_of lease).former) all)

pub returns-clause-bytes : goal.returns-clause-bytes
returns-clause-bytes c = keys_taken (bench_of c.args.lease.now).body c.requires.form c.requires.bytes
