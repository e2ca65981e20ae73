use Rattle.std.proofs.Common.{◌≡◌, ◌∙◌, Some, sym, ap}
use Rattle.key_cells.specs.Lease.{bench_of}
use Rattle.key_tokens.specs.Denotes.{denoted_under}
use Rattle.verb_rules.specs.Keys.{opened}
use Rattle.key_transport.specs.Tokens.{external_token, key_with}
use Rattle.key_transport.proofs.PlaceLemmas.{double_put}
use Rattle.key_transport.proofs.writing.write_under.Goals as goal

pub returns-clause-token : goal.returns-clause-token
returns-clause-token c =
    let transport = (opened (bench_of c.args.lease.now) c.args.transport.now).key in
    let placed : (bench_of c.open_key.new.lease).first ≡ transport =
    double_put c.args.transport.now.token.vector transport (bench_of c.open_key.new.lease).first c.requires c.open_key.ensures.key in
    let same : key_with (bench_of c.open_key.new.lease) c.args.vector.now ≡ key_with (bench_of c.args.lease.now) c.args.vector.now =
    ap (λ l. key_with (bench_of l) c.args.vector.now) c.open_key.ensures.stays in
    c.write_external.ensures.token
    ∙ (ap (λ t. external_token t (key_with (bench_of c.open_key.new.lease) c.args.vector.now)) placed ∙ ap (external_token transport) same)

pub returns-clause-denoted : goal.returns-clause-denoted
returns-clause-denoted c =
    let transport = (opened (bench_of c.args.lease.now) c.args.transport.now).key in
    let placed : (bench_of c.open_key.new.lease).first ≡ transport =
    double_put c.args.transport.now.token.vector transport (bench_of c.open_key.new.lease).first c.requires c.open_key.ensures.key in
    let same : key_with (bench_of c.open_key.new.lease) c.args.vector.now ≡ key_with (bench_of c.args.lease.now) c.args.vector.now =
    ap (λ l. key_with (bench_of l) c.args.vector.now) c.open_key.ensures.stays in
    sym (ap (λ t. denoted_under t c.write_external.result) placed) ∙ (c.write_external.ensures.denoted ∙ ap (λ k. Some k) same)
