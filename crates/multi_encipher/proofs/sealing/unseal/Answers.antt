-- The key in the place is the one of the definition, and it is sealed again to the same halves.
use Rattle.std.proofs.Common.{◌≡◌, ◌+◌, ◌++◌, List, ℕ, length, take, drop, sym, ap, ◌∙◌, rules}
use Rattle.std.specs.Prelude.{replicate}
use Rattle.cca_vectors.specs.Vectors.{length_of}
use Rattle.key_cells.specs.Bench.{key_of, with_key}
use Rattle.key_cells.specs.Lease.{bench_of}
use Rattle.multi_encipher.specs.Bundles.{bundle_under}
use Rattle.multi_encipher.specs.Seals.{opened_half}
use Rattle.multi_encipher.proofs.BenchLemmas.{key_of-with_key, key-again, key-then, bundle-elsewhere}
use Rattle.multi_encipher.proofs.SealLaws.{double_put, double_unless_single, double_sealed, sealed_again, single_put, single_sealed}
use Rattle.multi_encipher.proofs.sealing.unseal.Goals as goal

pub returns-then-length-eq8-clause-key : goal.returns-then-length-eq8-clause-key
returns-then-length-eq8-clause-key c =
    let bundle : List ℕ = bundle_under (bench_of c.args.lease.now) c.args.under in
    let old : List ℕ = key_of (bench_of c.args.lease.now) c.args.into in
    let single : length_of c.args.vector.now ≡ 8 = sym c.length.ensures.length ∙ c.if-length-eq8.true in
    key_of-with_key (bench_of c.put_deciphered_half.new.lease) c.args.into c.put_zeros.new.place
    ∙ c.put_zeros.ensures
    ∙ ap (λ place. take 8 place ++ replicate 8 0)
    (c.key_mut.ensures.value ∙ c.put_deciphered_half.ensures.key
    ∙ ap (λ half. take 0 old ++ opened_half bundle half c.args.sealed.now.left ++ drop (0 + 8) old) c.left-left_vector.ensures.left)
    ∙ single_put bundle c.args.vector.now old c.args.sealed.now single

pub returns-then-length-eq8-clause-sealed : goal.returns-then-length-eq8-clause-sealed
returns-then-length-eq8-clause-sealed c =
    let right_long : length c.args.sealed.now.right ≡ 8 = search rules in
    let single : length_of c.args.vector.now ≡ 8 = sym c.length.ensures.length ∙ c.if-length-eq8.true in
    sealed_again (bundle_under (bench_of c.args.lease.now) c.args.under) c.args.vector.now
    (key_of (with_key (bench_of c.put_deciphered_half.new.lease) c.args.into c.put_zeros.new.place) c.args.into) c.args.sealed.now
    (single_sealed c.args.vector.now c.args.sealed.now single c.put_deciphered_half.ensures.bytes right_long c.requires.single)
    (returns-then-length-eq8-clause-key c)

pub returns-else-length-eq8-clause-key : goal.returns-else-length-eq8-clause-key
returns-else-length-eq8-clause-key c =
    let bundle : List ℕ = bundle_under (bench_of c.args.lease.now) c.args.under in
    let old : List ℕ = key_of (bench_of c.args.lease.now) c.args.into in
    let double : length_of c.args.vector.now ≡ 16 = double_unless_single c.args.vector.now c.length.result c.length.ensures.length c.if-length-eq8.false in
    let place : List ℕ = key_of (bench_of c.put_deciphered_half.new.lease) c.args.into in
    let same_bundle : bundle_under (bench_of c.put_deciphered_half.new.lease) c.args.under ≡ bundle =
    ap (λ lease. bundle_under (bench_of lease) c.args.under) c.put_deciphered_half.ensures.stays
    ∙ bundle-elsewhere (bench_of c.args.lease.now) c.args.under c.args.into place (bench_of c.put_deciphered_half.new.lease).schedules c.requires.elsewhere in
    c.put_deciphered_half-else-length-eq8.ensures.key
    ∙ double_put bundle c.args.vector.now old place
    (opened_half (bundle_under (bench_of c.put_deciphered_half.new.lease) c.args.under) c.right-right_vector.result c.args.sealed.now.right)
    c.args.sealed.now double c.put_deciphered_half.ensures.size
    (c.put_deciphered_half.ensures.key
    ∙ ap (λ half. take 0 old ++ opened_half bundle half c.args.sealed.now.left ++ drop (0 + 8) old) c.left-left_vector.ensures.left)
    (ap (λ p. opened_half p c.right-right_vector.result c.args.sealed.now.right) same_bundle
    ∙ ap (λ half. opened_half bundle half c.args.sealed.now.right) c.right-right_vector.ensures.right)

pub returns-else-length-eq8-clause-sealed : goal.returns-else-length-eq8-clause-sealed
returns-else-length-eq8-clause-sealed c =
    let double : length_of c.args.vector.now ≡ 16 = double_unless_single c.args.vector.now c.length.result c.length.ensures.length c.if-length-eq8.false in
    sealed_again (bundle_under (bench_of c.args.lease.now) c.args.under) c.args.vector.now
    (key_of (bench_of c.put_deciphered_half-else-length-eq8.new.lease) c.args.into) c.args.sealed.now
    (double_sealed c.args.vector.now c.args.sealed.now double c.put_deciphered_half.ensures.bytes c.put_deciphered_half-else-length-eq8.ensures.bytes)
    (returns-else-length-eq8-clause-key c)

pub returns-then-length-eq8-clause-stays : goal.returns-then-length-eq8-clause-stays
returns-then-length-eq8-clause-stays c = key-again c.args.lease.now c.put_deciphered_half.new.lease c.args.into c.put_zeros.new.place c.put_deciphered_half.ensures.stays

pub returns-else-length-eq8-clause-stays : goal.returns-else-length-eq8-clause-stays
returns-else-length-eq8-clause-stays c =
    key-then c.args.lease.now c.put_deciphered_half.new.lease c.put_deciphered_half-else-length-eq8.new.lease c.args.into c.put_deciphered_half.ensures.stays c.put_deciphered_half-else-length-eq8.ensures.stays
