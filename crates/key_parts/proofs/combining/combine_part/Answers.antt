use Rattle.std.proofs.Common.{◌≡◌, ◌∙◌, Some, ap}
use Rattle.key_cells.specs.Bytes.{xor}
use Rattle.key_cells.specs.Lease.{bench_of}
use Rattle.key_tokens.specs.Denotes.{ClearKey}
use Rattle.master_registers.specs.Loaded.{Loaded}
use Rattle.master_registers.specs.Masters.{Masters}
use Rattle.multi_encipher.specs.Bundles.{key_in}
use Rattle.verb_rules.specs.Keys.{opened}
use Rattle.key_transport.specs.Tokens.{as_current, current_token, key_with}
use Rattle.key_transport.proofs.PlaceLemmas.{still_loaded}
use Rattle.key_parts.specs.Parts.{key_with_fresh}
use Rattle.key_parts.proofs.PartLemmas.{combined_put}
use Rattle.key_parts.proofs.combining.combine_part.Goals as goal

-- the key in the place `Key` is the opened one combined with the part
key_is : (c : goal.After-clear_key) → key_with (bench_of c.take_part.new.lease) c.vector_after.result ≡ key_with_fresh (bench_of c.args.lease.now) c.args.key.now c.args.last
key_is c =
    let bench = bench_of c.args.lease.now in
    let next = bench_of c.open_key.new.lease in
    let vector = c.args.key.now.token.vector in
    let clear : ClearKey = opened bench c.args.key.now in
    let taken : (bench_of c.take_part.new.lease).key ≡ xor next.key next.fresh = ap (λ l. (bench_of l).key) c.take_part.ensures.taken in
    let fresh : next.fresh ≡ bench.fresh = ap (λ l. (bench_of l).fresh) c.open_key.ensures.stays in
    ap (λ k. record { key = k; vector = c.vector_after.result })
    (combined_put vector c.vector_after.result clear.key next.key next.fresh (bench_of c.take_part.new.lease).key c.open_key.ensures.length c.open_key.ensures.key taken c.vector_after.ensures.length
    ∙ ap (λ f. xor clear.key (key_in vector f)) fresh)
    ∙ ap (λ v. record { key = xor clear.key (key_in vector bench.fresh); vector = v }) c.vector_after.ensures.vector

loaded_still : (c : goal.After-clear_key) (m : Masters) → Loaded m c.args.held.now (bench_of c.args.lease.now) → Loaded m c.args.held.now (bench_of c.take_part.new.lease)
loaded_still c m =
    still_loaded m c.args.held.now (bench_of c.args.lease.now) (bench_of c.take_part.new.lease)
    (ap (λ l. (bench_of l).coming) c.take_part.ensures.taken ∙ ap (λ l. (bench_of l).coming) c.open_key.ensures.stays)
    (ap (λ l. (bench_of l).current) c.take_part.ensures.taken ∙ ap (λ l. (bench_of l).current) c.open_key.ensures.stays)
    (ap (λ l. (bench_of l).former) c.take_part.ensures.taken ∙ ap (λ l. (bench_of l).former) c.open_key.ensures.stays)

pub returns-clause-token : goal.returns-clause-token
returns-clause-token c = λ m loaded. c.write_current-token.ensures.token m (loaded_still c m loaded) ∙ ap (current_token m) (key_is c)

pub returns-clause-denoted : goal.returns-clause-denoted
returns-clause-denoted c = λ m loaded. c.write_current-token.ensures.denoted m (loaded_still c m loaded) ∙ ap (λ k. Some (as_current k)) (key_is c)
