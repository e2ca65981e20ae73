use Rattle.std.proofs.Common.{◌∙◌, ap}
use Rattle.key_cells.specs.Lease.{bench_of}
use Rattle.multi_encipher.specs.Bundles.{with_zeros}
use Rattle.multi_encipher.specs.Seals.{unseal}
use Rattle.verb_rules.specs.Keys.{master_for}
use Rattle.verb_rules.proofs.KeyLemmas.{key_of_halves}
use Rattle.verb_rules.proofs.opening.open_key.Goals as goal

pub returns-clause-key : goal.returns-clause-key
returns-clause-key c =
    c.unseal.ensures.key
    ∙ ap (λ bundle. with_zeros c.args.key.now.token.vector (unseal bundle c.args.key.now.token.vector c.args.key.now.token.sealed))
    (c.register_of.ensures.master (bench_of c.args.lease.now))

pub returns-clause-length : goal.returns-clause-length
returns-clause-length c =
    key_of_halves (master_for (bench_of c.args.lease.now).current (bench_of c.args.lease.now).former c.args.key.now.age) c.args.key.now.token.vector c.args.key.now.token.sealed
