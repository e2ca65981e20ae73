use Rattle.std.proofs.Common.{◌≡◌, ◌∙◌, Some, length, take, replicate, sym, ap}
use Rattle.key_cells.specs.Bytes.{xor}
use Rattle.cca_vectors.specs.PartVectors.{as_part}
use Rattle.key_cells.specs.Lease.{bench_of}
use Rattle.master_registers.specs.Loaded.{Loaded}
use Rattle.master_registers.specs.Masters.{Masters}
use Rattle.key_transport.specs.Generated.{vector_for}
use Rattle.key_transport.specs.Tokens.{as_current, current_token, key_with}
use Rattle.key_transport.proofs.PlaceLemmas.{still_loaded}
use Rattle.key_parts.specs.Parts.{first_key}
use Rattle.key_parts.proofs.PartLemmas.{length-part, part_put}
use Rattle.key_parts.proofs.combining.first_part.Goals as goal

-- the key in the place `Key` is the part
key_is : (c : goal.After-clear_key-2) → key_with (bench_of c.take_part.new.lease) c.as_part.result ≡ first_key c.args.kind (take c.args.length (bench_of c.args.lease.now).fresh)
key_is c =
    let bench = bench_of c.args.lease.now in
    let next = bench_of c.clear_key.new.lease in
    let size = c.args.length in
    let blank : next.key ≡ replicate 16 0 = ap (λ l. (bench_of l).key) c.clear_key.ensures in
    let fresh : next.fresh ≡ bench.fresh = ap (λ l. (bench_of l).fresh) c.clear_key.ensures in
    let long : length bench.fresh ≡ 16 = sym (ap length fresh) ∙ c.take_part.ensures.part in
    let taken : (bench_of c.take_part.new.lease).key ≡ xor (replicate 16 0) bench.fresh =
    ap (λ l. (bench_of l).key) c.take_part.ensures.taken ∙ (ap (λ k. xor k next.fresh) blank ∙ ap (xor (replicate 16 0)) fresh) in
    let vector : c.as_part.result ≡ as_part (vector_for c.args.kind size) = c.as_part.ensures.vector ∙ ap as_part c.vector_for.ensures.vector in
    ap (λ k. record { key = k; vector = c.as_part.result })
    (part_put c.as_part.result bench.fresh (bench_of c.take_part.new.lease).key size long taken (c.as_part.ensures.length ∙ c.vector_for.ensures.length))
    ∙ (ap (λ v. record { key = take size bench.fresh; vector = v }) vector
    ∙ ap (λ n. record { key = take size bench.fresh; vector = as_part (vector_for c.args.kind n) }) (sym (length-part bench.fresh size long c.vector_for.ensures.short)))

loaded_still : (c : goal.After-clear_key-2) (m : Masters) → Loaded m c.args.held.now (bench_of c.args.lease.now) → Loaded m c.args.held.now (bench_of c.take_part.new.lease)
loaded_still c m =
    still_loaded m c.args.held.now (bench_of c.args.lease.now) (bench_of c.take_part.new.lease)
    (ap (λ l. (bench_of l).coming) c.take_part.ensures.taken ∙ ap (λ l. (bench_of l).coming) c.clear_key.ensures)
    (ap (λ l. (bench_of l).current) c.take_part.ensures.taken ∙ ap (λ l. (bench_of l).current) c.clear_key.ensures)
    (ap (λ l. (bench_of l).former) c.take_part.ensures.taken ∙ ap (λ l. (bench_of l).former) c.clear_key.ensures)

pub returns-clause-token : goal.returns-clause-token
returns-clause-token c = λ m loaded. c.write_current-token.ensures.token m (loaded_still c m loaded) ∙ ap (current_token m) (key_is c)

pub returns-clause-denoted : goal.returns-clause-denoted
returns-clause-denoted c = λ m loaded. c.write_current-token.ensures.denoted m (loaded_still c m loaded) ∙ ap (λ k. Some (as_current k)) (key_is c)
