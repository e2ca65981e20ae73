use Rattle.std.proofs.Common.{◌≡◌, ◌∙◌, Some, ap}
use Rattle.key_cells.specs.Lease.{bench_of}
use Rattle.key_tokens.specs.Denotes.{ClearKey}
use Rattle.master_registers.specs.Loaded.{Loaded}
use Rattle.master_registers.specs.Masters.{Masters}
use Rattle.multi_encipher.specs.Bundles.{transport_bundle, with_zeros}
use Rattle.multi_encipher.specs.Seals.{unseal}
use Rattle.verb_rules.specs.Keys.{opened}
use Rattle.verb_rules.proofs.KeyLemmas.{key_of_halves}
use Rattle.key_transport.specs.Tokens.{as_current, current_token, key_with, transported_key}
use Rattle.key_transport.proofs.PlaceLemmas.{double_put, key_put, still_loaded}
use Rattle.key_transport.proofs.importing.import.Goals as goal

-- the key that was put in the place `Key` is the one that the external token stands for
key_is : (c : goal.After-write_current) → key_with (bench_of c.unseal.new.lease) c.args.source.now.token.vector ≡ transported_key (bench_of c.args.lease.now) c.args.source.now c.args.transport.now
key_is c =
    let vector = c.args.source.now.token.vector in
    let clear : ClearKey = transported_key (bench_of c.args.lease.now) c.args.source.now c.args.transport.now in
    let transport = (opened (bench_of c.args.lease.now) c.args.transport.now).key in
    let placed : (bench_of c.open_key.new.lease).first ≡ transport =
    double_put c.args.transport.now.token.vector transport (bench_of c.open_key.new.lease).first c.requires.transport c.open_key.ensures.key in
    let put : (bench_of c.unseal.new.lease).key ≡ with_zeros vector clear.key =
    c.unseal.ensures.key ∙ ap (λ t. with_zeros vector (unseal (transport_bundle t) vector c.args.source.now.token.sealed)) placed in
    ap (λ k. record { key = k; vector = vector })
    (key_put vector clear.key (bench_of c.unseal.new.lease).key (key_of_halves (transport_bundle transport) vector c.args.source.now.token.sealed) put)

loaded_still : (c : goal.After-write_current) (m : Masters) → Loaded m c.args.held.now (bench_of c.args.lease.now) → Loaded m c.args.held.now (bench_of c.unseal.new.lease)
loaded_still c m =
    still_loaded m c.args.held.now (bench_of c.args.lease.now) (bench_of c.unseal.new.lease)
    (ap (λ l. (bench_of l).coming) c.unseal.ensures.stays ∙ ap (λ l. (bench_of l).coming) c.open_key.ensures.stays)
    (ap (λ l. (bench_of l).current) c.unseal.ensures.stays ∙ ap (λ l. (bench_of l).current) c.open_key.ensures.stays)
    (ap (λ l. (bench_of l).former) c.unseal.ensures.stays ∙ ap (λ l. (bench_of l).former) c.open_key.ensures.stays)

pub returns-clause-token : goal.returns-clause-token
returns-clause-token c = λ m loaded. c.write_current.ensures.token m (loaded_still c m loaded) ∙ ap (current_token m) (key_is c)

pub returns-clause-denoted : goal.returns-clause-denoted
returns-clause-denoted c = λ m loaded. c.write_current.ensures.denoted m (loaded_still c m loaded) ∙ ap (λ k. Some (as_current k)) (key_is c)
