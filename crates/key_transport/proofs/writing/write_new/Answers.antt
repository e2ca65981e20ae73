use Rattle.std.proofs.Common.{◌≡◌, ◌∙◌, sym, ap}
use Rattle.key_cells.specs.Lease.{bench_of}
use Rattle.key_tokens.specs.Layout.{made}
use Rattle.key_tokens.specs.declared.key_token.Kind.TheVariants.{Internal}
use Rattle.master_registers.specs.Masters.{pattern_of_master}
use Rattle.key_transport.specs.Tokens.{key_with}
use Rattle.key_transport.proofs.PlaceLemmas.{new_token_is}
use Rattle.key_transport.proofs.writing.write_new.Goals as goal

pub returns-clause-token : goal.returns-clause-token
returns-clause-token c = λ m loaded.
    let bench = bench_of c.args.lease.now in
    let pattern : c.pattern_of.result.bytes ≡ pattern_of_master bench.coming =
    c.pattern_of.ensures ∙ ap (λ l. pattern_of_master (bench_of l).coming) c.seal-sealed.ensures.stays in
    c.write_token.ensures.made
    ∙ (ap (λ p. made (record { kind = Internal; pattern = p; sealed = c.seal-sealed.result; vector = c.args.vector.now })) pattern
    ∙ (ap (λ s. made (record { kind = Internal; pattern = pattern_of_master bench.coming; sealed = s; vector = c.args.vector.now })) c.seal-sealed.ensures.sealed
    ∙ sym (new_token_is m c.args.held.now bench (key_with bench c.args.vector.now) loaded c.requires)))
