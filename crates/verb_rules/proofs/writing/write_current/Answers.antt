use Rattle.std.proofs.Common.{◌≡◌, ◌∙◌, ◌<◌, ℕ, get_or, length, sym, ap, subst, rules}
use Rattle.key_cells.specs.Bytes.{AreBytes}
use Rattle.key_cells.specs.Lease.{bench_of}
use Rattle.key_tokens.specs.Layout.{IsToken, made}
use Rattle.key_tokens.specs.declared.key_token.Kind.TheVariants.{Internal}
use Rattle.multi_encipher.proofs.SealLaws.{bytes_from}
use Rattle.verb_rules.specs.Written.{current_key}
use Rattle.verb_rules.proofs.KeyLemmas.{key_in_place}
use Rattle.verb_rules.proofs.TokenLemmas.{token_is, denotes_key}
use Rattle.verb_rules.proofs.writing.write_current.Goals as goal

pub returns-clause-token : goal.returns-clause-token
returns-clause-token c = λ m loaded.
    let bench = bench_of c.args.lease.now in
    let clear = (current_key bench c.args.vector.now).clear in
    c.write_token.ensures.made
    ∙ (ap (λ s. made (record { kind = Internal; pattern = c.unwrap.result.bytes; sealed = s; vector = c.args.vector.now })) c.seal-sealed.ensures.sealed
    ∙ sym (token_is m c.args.held.now bench loaded c.unwrap.result c.unwrap.ensures clear))

pub returns-clause-denoted : goal.returns-clause-denoted
returns-clause-denoted c = λ m loaded.
    let bench = bench_of c.args.lease.now in
    let clear = (current_key bench c.args.vector.now).clear in
    let is_token = subst (λ s. IsToken c.write_token.result (record { kind = Internal; pattern = c.unwrap.result.bytes; sealed = s; vector = c.args.vector.now }))
    c.seal-sealed.ensures.sealed c.write_token.ensures.token in
    let bytes : AreBytes 64 c.write_token.result =
    (let long : length c.write_token.result ≡ 64 = search rules in let fits : (k : ℕ) → get_or c.write_token.result k 0 < 256 = search rules in bytes_from 64 c.write_token.result long fits) in
    denotes_key m c.args.held.now bench loaded c.unwrap.result c.unwrap.ensures clear c.write_token.result bytes is_token
    (key_in_place c.args.vector.now bench.key (subst (AreBytes 16) c.key.ensures c.are_bytes.ensures))
