use Rattle.std.proofs.Common.{◌≡◌, ◌∙◌, false, List, ℕ, Some, refl, sym, ap}
use Rattle.cca_roles.proofs.DirectoryLaws.{none_some}
use Rattle.key_cells.specs.Lease.{bench_of}
use Rattle.key_cells.specs.declared.leases.Lease.{Lease}
use Rattle.key_tokens.specs.Fields.{token_of}
use Rattle.key_tokens.specs.declared.key_token.Age.TheVariants.{Current}
use Rattle.key_tokens.specs.declared.key_token.Token.{Token}
use Rattle.multi_encipher.specs.Bundles.{key_in}
use Rattle.multi_encipher.specs.Seals.{seal}
use Rattle.verb_rules.specs.Keys.{keys_of, opened}
use Rattle.verb_rules.proofs.DenotedLemmas.{judged_with}
use Rattle.record_bodies.proofs.KeptLaws.{pattern}
use Rattle.key_records.proofs.PairLaws.{under_current, pair_of, of_pair, no_pair, pair_coming}
use Rattle.key_records.proofs.parsing.are_pair.Goals as goal
use Rattle.record_bodies.proofs.ExitLaws.{never}
use Rattle.multi_encipher.proofs.SealLaws.{key_in-with_zeros}

pub returns-in-Err-clause-pair : goal.returns-in-Err-clause-pair
returns-in-Err-clause-pair g c = no_pair (λ pair. none_some _ (sym c.requires.1.1.sound ∙ c.in-Err.ensures.refused))

pub returns-in-Err-clause-rest : goal.returns-in-Err-clause-rest
returns-in-Err-clause-rest g c = refl

pub returns-then-not-has_pattern-clause-pair : goal.returns-then-not-has_pattern-clause-pair
returns-then-not-has_pattern-clause-pair g c = no_pair (λ pair.
    let has = under_current g.m c.args.held.now (bench_of c.args.lease.now) c.args.token.now c.requires.0 c.requires.1.1 pair.key pair.is_kept pair.current in
    never (c.if-not-has_pattern.ensures.held.1 (has ∙ ap (λ (t : Token). Some (pattern t.pattern)) (sym c.in-Ok.ensures.token))))

pub returns-then-not-has_pattern-clause-rest : goal.returns-then-not-has_pattern-clause-rest
returns-then-not-has_pattern-clause-rest g c = refl

pub returns-then-not-has_pattern-2-clause-pair : goal.returns-then-not-has_pattern-2-clause-pair
returns-then-not-has_pattern-2-clause-pair g c =
    no_pair (λ pair. never (c.if-not-has_pattern-2.ensures.held.1 (c.requires.1.0 ∙ pair_coming (keys_of g.m) c.args.token.now c.args.second.now pair)))

pub returns-then-not-has_pattern-2-clause-rest : goal.returns-then-not-has_pattern-2-clause-rest
returns-then-not-has_pattern-2-clause-rest g c = refl

pub returns-clause-pair : goal.returns-clause-pair
returns-clause-pair g c =
    let bench = bench_of c.args.lease.now in
    let token : List ℕ = c.args.token.now in
    let vector : List ℕ = c.in-Ok.first.vector in
    let has = c.has_pattern.ensures.held.0 c.if-not-has_pattern.false ∙ ap (λ (t : Token). Some (pattern t.pattern)) c.in-Ok.ensures.token in
    let coming = sym c.requires.1.0 ∙ c.if-not-has_pattern-2.ensures.held.0 refl in
    let key : key_in vector (bench_of c.open_key.new.lease).key ≡ (opened bench (judged_with c.in-Ok.first (Some Current))).key =
    ap (key_in vector) c.open_key.ensures.key ∙ key_in-with_zeros vector (opened bench (judged_with c.in-Ok.first (Some Current))).key c.open_key.ensures.length in
    let sealed : c.seal-sealed.result ≡ seal bench.coming (opened bench (judged_with (token_of token) (Some Current))).vector (opened bench (judged_with (token_of token) (Some Current))).key =
    c.seal-sealed.ensures.sealed
    ∙ ap (λ (l : Lease). seal (bench_of l).coming vector (key_in vector (bench_of c.open_key.new.lease).key)) c.open_key.ensures.stays
    ∙ ap (seal bench.coming vector) key
    ∙ ap (λ (t : Token). seal bench.coming (opened bench (judged_with t (Some Current))).vector (opened bench (judged_with t (Some Current))).key) c.in-Ok.ensures.token in
    let pairs = c.are_same.ensures in (
      λ same. pair_of g.m c.args.held.now bench token c.args.second.now c.seal-sealed.result c.requires.0 c.requires.1.1 has coming sealed (pairs.0 same),
      λ pair. pairs.1 (of_pair g.m c.args.held.now bench token c.args.second.now c.seal-sealed.result c.requires.0 c.requires.1.1 has coming sealed pair),
    )
