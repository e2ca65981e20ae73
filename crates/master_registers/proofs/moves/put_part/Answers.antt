use Rattle.std.proofs.Common.{List, ℕ, ap, subst, ◌∙◌}
use Rattle.key_cells.specs.Lease.{bench_of, holding}
use Rattle.key_cells.specs.Bytes.{xor}
use Rattle.master_registers.specs.Masters.{IsMaster}
use Rattle.key_cells.proofs.ByteLemmas.{xor-zeros}
use Rattle.master_registers.proofs.moves.put_part.Goals as goal

pub returns-clause-put : goal.returns-clause-put
returns-clause-put c =
    let part : List ℕ = (bench_of c.args.lease.now).part in
    c.combine_part.ensures.combined
    ∙ ap (λ bytes. holding c.args.lease.now (record (bench_of c.args.lease.now) { coming = bytes }))
    (ap (λ bytes. xor bytes part) c.requires ∙ xor-zeros 24 part c.combine_part.ensures.part)

pub returns-clause-bytes : goal.returns-clause-bytes
returns-clause-bytes c =
    let part : List ℕ = (bench_of c.args.lease.now).part in
    subst IsMaster (ap (λ bytes. xor bytes part) c.requires ∙ xor-zeros 24 part c.combine_part.ensures.part) c.combine_part.ensures.bytes
