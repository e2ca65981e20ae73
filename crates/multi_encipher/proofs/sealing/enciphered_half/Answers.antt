use Rattle.std.proofs.Common.{◌≡◌, ◌+◌, List, ℕ, sym, ap, subst, ◌∙◌}
use Rattle.std.specs.Prelude.{slice_range}
use Rattle.key_cells.specs.Lease.{bench_of}
use Rattle.des_blocks.specs.Schedules.{AreOf}
use Rattle.des_blocks.specs.TripleDes.{ede}
use Rattle.multi_encipher.specs.Bundles.{bundle_under}
use Rattle.multi_encipher.specs.Seals.{variant_key, sealed_half}
use Rattle.multi_encipher.proofs.sealing.enciphered_half.Goals as goal

pub returns-clause-value : goal.returns-clause-value
unfolding sealed_half
returns-clause-value c =
    let first : List ℕ = variant_key (bundle_under (bench_of c.args.lease.now) c.args.under) 0 c.args.vector.now in
    let second : List ℕ = variant_key (bundle_under (bench_of c.args.lease.now) c.args.under) 1 c.args.vector.now in
    let third : List ℕ = variant_key (bundle_under (bench_of c.args.lease.now) c.args.under) 2 c.args.vector.now in
    let key : c.key.result.now ≡ (bench_of c.args.lease.now).key = c.key.ensures ∙ ap (λ lease. (bench_of lease).key) c.make_schedules.ensures.stays in
    c.ede.ensures.bytes first second third (subst (λ schedules. AreOf schedules first second third) (sym c.schedules.ensures) c.make_schedules.ensures.made)
    ∙ ap (ede first second third) (c.half_of.ensures ∙ ap (λ bytes. slice_range bytes c.args.at (c.args.at + 8)) key)
