use Rattle.std.proofs.Common.{◌≡◌, ◌∙◌, refl, sym, ap, arith}
use Rattle.std.proofs.lemmas.Option.{same_Some}
use Rattle.key_tokens.specs.Fields.{token_of}
use Rattle.key_tokens.specs.declared.key_token.Token.{Token}
use Rattle.line_service.specs.Replies.{written}
use Rattle.verb_script.specs.Values.{hex_value}
use Rattle.cca_machine.specs.Act.{token_fields}
use Rattle.cca_machine.proofs.Settling.{shown_settles}
use Rattle.request_verbs.proofs.verbs.csnbktp.csnbktp.Goals as goal

pub returns : goal.returns
returns c = record {
  settles = λ role token held rows lease.
      shown_settles refl (λ s. token_fields (token_of (hex_value token))) refl (λ s. refl) (λ s. refl)
      (λ s is.
      let read = token_of (hex_value token) in
      let same : c.token_in.result.now ≡ read = same_Some c.token_in.result.now read (sym c.token_in.ensures ∙ is.grants.0.0) in
      c.show_parts.ensures.fields ∙ ap (λ (t : Token). written (token_fields t)) same)
      (omega (arith, c.show_parts.ensures.size));
}
