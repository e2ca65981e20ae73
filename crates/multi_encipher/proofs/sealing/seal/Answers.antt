-- The halves are those of the definition.
use Rattle.std.proofs.Common.{◌≡◌, List, ℕ, refl, sym, ap, subst, ◌∙◌}
use Rattle.std.specs.Prelude.{replicate, slice_range}
use Rattle.cca_vectors.specs.Vectors.{left_of, right_of, length_of}
use Rattle.key_cells.specs.Bytes.{AreBytes}
use Rattle.key_cells.specs.Lease.{bench_of}
use Rattle.multi_encipher.specs.Bundles.{key_in, bundle_under}
use Rattle.multi_encipher.specs.Seals.{sealed_half}
use Rattle.multi_encipher.proofs.BenchLemmas.{bundle-schedules}
use Rattle.multi_encipher.proofs.SealLaws.{bytes-sealed_half, double_made, single_made, double_unless_single, halves_of, key_back, key_front, same_halves, seal-double, seal-single}
use Rattle.multi_encipher.proofs.sealing.seal.Goals as goal

pub returns-then-length-eq8-clause-sealed : goal.returns-then-length-eq8-clause-sealed
returns-then-length-eq8-clause-sealed c =
    let bundle : List ℕ = bundle_under (bench_of c.args.lease.now) c.args.under in
    let key : List ℕ = (bench_of c.args.lease.now).key in
    let single : length_of c.args.vector.now ≡ 8 = sym c.length.ensures.length ∙ c.if-length-eq8.true in
    sym (seal-single bundle c.args.vector.now (key_in c.args.vector.now key) single
    ∙ same_halves (halves_of c.enciphered_half-left.result (replicate 8 0)) (sealed_half bundle (left_of c.args.vector.now) (slice_range (key_in c.args.vector.now key) 0 8)) (replicate 8 0)
    (ap (sealed_half bundle (left_of c.args.vector.now)) (key_front c.args.vector.now key)
    ∙ ap (λ half. sealed_half bundle half (slice_range key 0 8)) (sym c.left-left_vector.ensures.left)
    ∙ sym c.enciphered_half-left.ensures.value)
    refl)

pub returns-else-length-eq8-clause-sealed : goal.returns-else-length-eq8-clause-sealed
returns-else-length-eq8-clause-sealed c =
    let bundle : List ℕ = bundle_under (bench_of c.args.lease.now) c.args.under in
    let key : List ℕ = (bench_of c.args.lease.now).key in
    let double : length_of c.args.vector.now ≡ 16 = double_unless_single c.args.vector.now c.length.result c.length.ensures.length c.if-length-eq8.false in
    let same_bundle : bundle_under (bench_of c.enciphered_half-left.new.lease) c.args.under ≡ bundle =
    ap (λ lease. bundle_under (bench_of lease) c.args.under) c.enciphered_half-left.ensures.stays
    ∙ bundle-schedules (bench_of c.args.lease.now) c.args.under (bench_of c.enciphered_half-left.new.lease).schedules in
    let same_key : (bench_of c.enciphered_half-left.new.lease).key ≡ key = ap (λ lease. (bench_of lease).key) c.enciphered_half-left.ensures.stays in
    sym (seal-double bundle c.args.vector.now (key_in c.args.vector.now key) double
    ∙ same_halves (halves_of c.enciphered_half-left.result c.enciphered_half-right.result)
    (sealed_half bundle (left_of c.args.vector.now) (slice_range (key_in c.args.vector.now key) 0 8))
    (sealed_half bundle (right_of c.args.vector.now) (slice_range (key_in c.args.vector.now key) 8 16))
    (ap (sealed_half bundle (left_of c.args.vector.now)) (key_front c.args.vector.now key)
    ∙ ap (λ half. sealed_half bundle half (slice_range key 0 8)) (sym c.left-left_vector.ensures.left)
    ∙ sym c.enciphered_half-left.ensures.value)
    (ap (sealed_half bundle (right_of c.args.vector.now)) (key_back c.args.vector.now key double)
    ∙ ap (λ half. sealed_half bundle half (slice_range key 8 16)) (sym c.right-right_vector.ensures.right)
    ∙ ap (λ p. sealed_half p c.right-right_vector.result (slice_range key 8 16)) (sym same_bundle)
    ∙ ap (λ k. sealed_half (bundle_under (bench_of c.enciphered_half-left.new.lease) c.args.under) c.right-right_vector.result (slice_range k 8 16)) (sym same_key)
    ∙ sym c.enciphered_half-right.ensures.value))

pub returns-then-length-eq8-clause-halves : goal.returns-then-length-eq8-clause-halves
returns-then-length-eq8-clause-halves c =
    single_made c.args.vector.now c.enciphered_half-left.result
    (subst (AreBytes 8) (sym c.enciphered_half-left.ensures.value)
    (bytes-sealed_half (bundle_under (bench_of c.args.lease.now) c.args.under) c.left-left_vector.result (slice_range (bench_of c.args.lease.now).key 0 8)))

pub returns-else-length-eq8-clause-halves : goal.returns-else-length-eq8-clause-halves
returns-else-length-eq8-clause-halves c =
    double_made c.args.vector.now c.enciphered_half-left.result c.enciphered_half-right.result
    (double_unless_single c.args.vector.now c.length.result c.length.ensures.length c.if-length-eq8.false)
    (subst (AreBytes 8) (sym c.enciphered_half-left.ensures.value)
    (bytes-sealed_half (bundle_under (bench_of c.args.lease.now) c.args.under) c.left-left_vector.result (slice_range (bench_of c.args.lease.now).key 0 8)))
    (subst (AreBytes 8) (sym c.enciphered_half-right.ensures.value)
    (bytes-sealed_half (bundle_under (bench_of c.enciphered_half-left.new.lease) c.args.under) c.right-right_vector.result
    (slice_range (bench_of c.enciphered_half-left.new.lease).key 8 16)))
