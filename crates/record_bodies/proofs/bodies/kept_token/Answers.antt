use Rattle.std.proofs.Common.{ap, ◌∙◌}
use Rattle.key_tokens.specs.declared.key_token.Asked.TheVariants as asked
use Rattle.key_tokens.specs.declared.key_token.Token.{Token}
use Rattle.record_bodies.proofs.KeptLaws.{kept_with_flag, denoted_same}
use Rattle.key_tokens.specs.Fields.{token_of}
use Rattle.key_tokens.proofs.Layouts.{token_from_none}
use Rattle.record_bodies.proofs.SecondLaws.{fits}
use Rattle.record_bodies.proofs.TokenLaws.{made_again}
use Rattle.record_bodies.proofs.bodies.kept_token.Goals as goal

pub returns-then-token-eq-KEY_AND_VECTOR-clause-renewed : goal.returns-then-token-eq-KEY_AND_VECTOR-clause-renewed
returns-then-token-eq-KEY_AND_VECTOR-clause-renewed c =
    let token = c.args.token.now in
    made_again (token_of token) token (token_from_none asked.Internal token c.are_bytes.ensures.size (fits token c.are_bytes.ensures) c.requires).0 c.if-token-eq-KEY_AND_VECTOR.true

pub returns-then-token-eq-KEY_AND_VECTOR-clause-kept : goal.returns-then-token-eq-KEY_AND_VECTOR-clause-kept
returns-then-token-eq-KEY_AND_VECTOR-clause-kept c masters = kept_with_flag masters c.args.token.now c.if-token-eq-KEY_AND_VECTOR.true

pub returns-clause-kept : goal.returns-clause-kept
returns-clause-kept c masters =
    kept_with_flag masters c.write_token-written.result c.write_token-written.ensures.flag
    ∙ denoted_same masters c.write_token-written.result c.args.token.now (c.write_token-written.ensures.accepted asked.Internal c.in-Ok.ensures.layout.1) c.requires (c.write_token-written.ensures.fields ∙ c.in-Ok.ensures.token)

pub returns-clause-known : goal.returns-clause-known
returns-clause-known c = record {
  bytes = c.are_bytes-in-Ok.ensures;
  sound = c.write_token-written.ensures.accepted asked.Internal c.in-Ok.ensures.layout.1;
  flag = c.write_token-written.ensures.flag;
  under = ap (λ (t : Token). t.pattern) (c.write_token-written.ensures.fields ∙ c.in-Ok.ensures.token);
}
