use Rattle.std.proofs.Common.{List, ℕ, Some, sym, ap, ◌∙◌}
use Rattle.key_cells.specs.Lease.{bench_of}
use Rattle.key_tokens.specs.declared.key_token.Age.TheVariants.{Current, Old}
use Rattle.verb_rules.specs.Keys.{opened}
use Rattle.record_bodies.specs.Further.{under_current}
use Rattle.multi_encipher.specs.Bundles.{key_in}
use Rattle.reencipher.proofs.TokenLaws.{key_at_age, opened_at, loaded_after}
use Rattle.reencipher.proofs.tokens.renewed_token.Goals as goal
use Rattle.multi_encipher.proofs.SealLaws.{key_in-with_zeros}

pub returns-in-None-clause-old : goal.returns-in-None-clause-old
returns-in-None-clause-old c m loaded = c.in-None.ensures.old m (bench_of c.args.lease.now) loaded

pub returns-clause-key : goal.returns-clause-key
returns-clause-key c m loaded =
    let bench = bench_of c.args.lease.now in
    let vector : List ℕ = c.in-Some.key.token.vector in
    let key : List ℕ = (opened bench c.in-Some.key).key in
    let stands = ap (key_in vector) c.open_key.ensures.key ∙ key_in-with_zeros vector key c.open_key.ensures.length in
    c.write_current.ensures.denoted m (loaded_after m c.args.held.now c.args.lease.now c.open_key.new.lease loaded c.open_key.ensures.stays)
    ∙ ap (λ k. Some (key_at_age (record { key = k; vector = vector }) Current)) stands
    ∙ sym (ap under_current (c.in-Some.ensures.key m bench loaded ∙ opened_at bench c.in-Some.key Old c.in-Some.ensures.age))

pub returns-clause-old : goal.returns-clause-old
returns-clause-old c m loaded = c.in-Some.ensures.old m (bench_of c.args.lease.now) loaded
