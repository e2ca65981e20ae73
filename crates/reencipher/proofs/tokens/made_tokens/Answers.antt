use Rattle.std.proofs.Common.{◌≡◌, sym, subst}
use Rattle.std.specs.Prelude.{IfSome, is_some}
use Rattle.key_cells.specs.Lease.{bench_of}
use Rattle.key_tokens.specs.Denotes.{denoted}
use Rattle.verb_rules.specs.Keys.{keys_of}
use Rattle.reencipher.specs.Tokens.{AreMade, changes_key}
use Rattle.record_bodies.specs.declared.actions.StoreAction.{StoreAction}
use Rattle.reencipher.proofs.tokens.made_tokens.Goals as goal

pub returns-in-Drop-clause-made : goal.returns-in-Drop-clause-made
returns-in-Drop-clause-made c m loaded =
    subst (λ (a : StoreAction). IfSome c.dropped.result (λ tokens. AreMade a (keys_of m) c.args.token.now tokens)) (sym c.in-Drop.is) (c.dropped.ensures.made m (bench_of c.args.lease.now) loaded)

pub returns-in-Drop-clause-some : goal.returns-in-Drop-clause-some
returns-in-Drop-clause-some c m loaded =
    subst (λ (a : StoreAction). is_some c.dropped.result ≡ changes_key a (denoted (keys_of m) c.args.token.now)) (sym c.in-Drop.is) (c.dropped.ensures.some m (bench_of c.args.lease.now) loaded)
