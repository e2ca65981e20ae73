use Rattle.std.proofs.Common.{◌≡◌, ◌∙◌, Some, sym, ap}
use Rattle.key_cells.specs.Lease.{bench_of}
use Rattle.key_tokens.specs.Denotes.{ClearKey, denoted_under}
use Rattle.multi_encipher.specs.Bundles.{transport_bundle, with_zeros}
use Rattle.multi_encipher.specs.Seals.{unseal}
use Rattle.verb_rules.specs.Keys.{opened}
use Rattle.verb_rules.proofs.KeyLemmas.{key_of_halves}
use Rattle.key_transport.specs.Tokens.{external_token, key_with, transported_key}
use Rattle.key_transport.proofs.PlaceLemmas.{double_put, key_put}
use Rattle.key_parts.proofs.translating.translate.Goals as goal

-- the key that was put in the place `Key` is the one that the external token stands for
key_is : (c : goal.After-write_under) → key_with (bench_of c.unseal.new.lease) c.args.token.now.token.vector ≡ transported_key (bench_of c.args.lease.now) c.args.token.now c.args.one.now
key_is c =
    let vector = c.args.token.now.token.vector in
    let clear : ClearKey = transported_key (bench_of c.args.lease.now) c.args.token.now c.args.one.now in
    let transport = (opened (bench_of c.args.lease.now) c.args.one.now).key in
    let placed : (bench_of c.open_key.new.lease).first ≡ transport =
    double_put c.args.one.now.token.vector transport (bench_of c.open_key.new.lease).first c.requires.one c.open_key.ensures.key in
    let put : (bench_of c.unseal.new.lease).key ≡ with_zeros vector clear.key =
    c.unseal.ensures.key ∙ ap (λ t. with_zeros vector (unseal (transport_bundle t) vector c.args.token.now.token.sealed)) placed in
    ap (λ k. record { key = k; vector = vector })
    (key_put vector clear.key (bench_of c.unseal.new.lease).key (key_of_halves (transport_bundle transport) vector c.args.token.now.token.sealed) put)

-- the second transport key doesn't hang on the places that were written
second_is : (c : goal.After-write_under) → (opened (bench_of c.unseal.new.lease) c.args.two.now).key ≡ (opened (bench_of c.args.lease.now) c.args.two.now).key
second_is c =
    ap (λ l. (opened (bench_of l) c.args.two.now).key) c.unseal.ensures.stays
    ∙ ap (λ l. (opened (bench_of l) c.args.two.now).key) c.open_key.ensures.stays

pub returns-clause-token : goal.returns-clause-token
returns-clause-token c =
    c.write_under.ensures.token
    ∙ (ap (λ t. external_token t (key_with (bench_of c.unseal.new.lease) c.args.token.now.token.vector)) (second_is c)
    ∙ ap (external_token (opened (bench_of c.args.lease.now) c.args.two.now).key) (key_is c))

pub returns-clause-denoted : goal.returns-clause-denoted
returns-clause-denoted c =
    sym (ap (λ t. denoted_under t c.write_under.result) (second_is c)) ∙ (c.write_under.ensures.denoted ∙ ap (λ k. Some k) (key_is c))
