use Rattle.std.proofs.Common.{◌≡◌, ◌∙◌, Some, sym, ap}
use Rattle.key_cells.specs.Lease.{bench_of}
use Rattle.key_tokens.specs.Denotes.{ClearKey, denoted_under}
use Rattle.verb_rules.specs.Keys.{opened}
use Rattle.key_transport.specs.Tokens.{external_token, key_with}
use Rattle.key_transport.proofs.PlaceLemmas.{key_put}
use Rattle.key_transport.proofs.exporting.export.Goals as goal

pub returns-clause-token : goal.returns-clause-token
returns-clause-token c =
    let bench = bench_of c.args.lease.now in
    let next = bench_of c.open_key.new.lease in
    let vector = c.args.key.now.token.vector in
    let clear : ClearKey = opened bench c.args.key.now in
    let key : key_with next vector ≡ clear =
    ap (λ k. record { key = k; vector = vector }) (key_put vector clear.key next.key c.open_key.ensures.length c.open_key.ensures.key) in
    let transport : (opened next c.args.transport.now).key ≡ (opened bench c.args.transport.now).key =
    ap (λ l. (opened (bench_of l) c.args.transport.now).key) c.open_key.ensures.stays in
    c.write_under.ensures.token ∙ (ap (λ t. external_token t (key_with next vector)) transport ∙ ap (external_token (opened bench c.args.transport.now).key) key)

pub returns-clause-denoted : goal.returns-clause-denoted
returns-clause-denoted c =
    let bench = bench_of c.args.lease.now in
    let next = bench_of c.open_key.new.lease in
    let vector = c.args.key.now.token.vector in
    let clear : ClearKey = opened bench c.args.key.now in
    let key : key_with next vector ≡ clear =
    ap (λ k. record { key = k; vector = vector }) (key_put vector clear.key next.key c.open_key.ensures.length c.open_key.ensures.key) in
    let transport : (opened next c.args.transport.now).key ≡ (opened bench c.args.transport.now).key =
    ap (λ l. (opened (bench_of l) c.args.transport.now).key) c.open_key.ensures.stays in
    sym (ap (λ t. denoted_under t c.write_under.result) transport) ∙ (c.write_under.ensures.denoted ∙ ap (λ k. Some k) key)
