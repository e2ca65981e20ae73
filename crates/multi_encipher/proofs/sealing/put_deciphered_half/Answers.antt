use Rattle.std.proofs.Common.{◌≡◌, ◌+◌, ◌++◌, List, ℕ, length, take, drop, sym, ap, subst, ◌∙◌, arith}
use Rattle.key_cells.specs.Bench.{key_of}
use Rattle.key_cells.specs.Lease.{bench_of}
use Rattle.key_cells.specs.Secret.{bytes_of}
use Rattle.des_blocks.specs.Schedules.{AreOf}
use Rattle.multi_encipher.specs.Bundles.{bundle_under}
use Rattle.multi_encipher.specs.Seals.{variant_key, opened_half}
use Rattle.multi_encipher.proofs.BenchLemmas.{key_of-with_key, key_of-schedules}
use Rattle.multi_encipher.proofs.SealLaws.{bytes_from}
use Rattle.multi_encipher.proofs.sealing.put_deciphered_half.Goals as goal

pub returns-clause-key : goal.returns-clause-key
unfolding opened_half
returns-clause-key c =
    let bundle : List ℕ = bundle_under (bench_of c.args.lease.now) c.args.under in
    let first : List ℕ = variant_key bundle 0 c.args.vector.now in
    let second : List ℕ = variant_key bundle 1 c.args.vector.now in
    let third : List ℕ = variant_key bundle 2 c.args.vector.now in
    let place : c.key_mut.result.now ≡ key_of (bench_of c.args.lease.now) c.args.into =
    c.key_mut.ensures.value ∙ ap (λ lease. key_of (bench_of lease) c.args.into) c.make_schedules.ensures.stays
    ∙ key_of-schedules (bench_of c.args.lease.now) c.args.into (bench_of c.make_schedules.new.lease).schedules in
    let clear : c.ded-clear.result ≡ opened_half bundle c.args.vector.now c.args.sealed.now =
    c.ded-clear.ensures.bytes first second third (subst (λ schedules. AreOf schedules first second third) (sym c.schedules.ensures) c.make_schedules.ensures.made) in
    key_of-with_key (bench_of c.make_schedules.new.lease) c.args.into c.put_secret.new.into
    ∙ c.put_secret.ensures.put
    ∙ ap (λ bytes. take c.args.at bytes ++ bytes_of c.guard-half.result ++ drop (c.args.at + 8) bytes) place
    ∙ ap (λ half. take c.args.at (key_of (bench_of c.args.lease.now) c.args.into) ++ half ++ drop (c.args.at + 8) (key_of (bench_of c.args.lease.now) c.args.into))
    (c.guard-half.ensures.bytes ∙ clear)

pub returns-clause-size : goal.returns-clause-size
returns-clause-size c =
    ap length (key_of-with_key (bench_of c.make_schedules.new.lease) c.args.into c.put_secret.new.into)
    ∙ c.put_secret.ensures.size ∙ (omega arith)

pub returns-clause-bytes : goal.returns-clause-bytes
returns-clause-bytes c = bytes_from 8 c.args.sealed.now c.told-sealed c.fits-sealed
