use Rattle.std.proofs.Common.{◌≡◌, ◌∙◌, ◌<◌, ℕ, get_or, length, replicate, ap, subst, rules}
use Rattle.key_cells.specs.Bytes.{AreBytes}
use Rattle.key_cells.specs.Lease.{bench_of}
use Rattle.key_tokens.specs.Layout.{IsToken, made}
use Rattle.key_tokens.specs.declared.key_token.Kind.TheVariants.{External}
use Rattle.multi_encipher.proofs.SealLaws.{bytes_from}
use Rattle.verb_rules.proofs.KeyLemmas.{key_in_place}
use Rattle.key_transport.specs.Tokens.{external_token, key_with}
use Rattle.key_transport.proofs.PlaceLemmas.{stands_under}
use Rattle.key_transport.proofs.writing.write_external.Goals as goal

pub returns-clause-token : goal.returns-clause-token
unfolding external_token
returns-clause-token c =
    c.write_token.ensures.made
    ∙ ap (λ s. made (record { kind = External; pattern = replicate 8 0; sealed = s; vector = c.args.vector.now })) c.seal-sealed.ensures.sealed

pub returns-clause-denoted : goal.returns-clause-denoted
returns-clause-denoted c =
    let bench = bench_of c.args.lease.now in
    let is_token = subst (λ s. IsToken c.write_token.result (record { kind = External; pattern = replicate 8 0; sealed = s; vector = c.args.vector.now }))
    c.seal-sealed.ensures.sealed c.write_token.ensures.token in
    let bytes : AreBytes 64 c.write_token.result =
    (let long : length c.write_token.result ≡ 64 = search rules in let fits : (k : ℕ) → get_or c.write_token.result k 0 < 256 = search rules in bytes_from 64 c.write_token.result long fits) in
    stands_under bench.first c.write_token.result (key_with bench c.args.vector.now) bytes
    (key_in_place c.args.vector.now bench.key (subst (AreBytes 16) c.key.ensures c.are_bytes.ensures)) is_token
