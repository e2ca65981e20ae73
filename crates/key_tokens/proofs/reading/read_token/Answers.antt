-- No rule is broken exactly where the bytes are a token of the kind that is asked for.
use Rattle.std.proofs.Common.{◌≡◌, None, Some, Ok, sym, ap, ◌∙◌, subst}
use Rattle.std.proofs.lemmas.Option.{none-some}
use Rattle.cca_vectors.specs.Checks.{first_failing}
use Rattle.key_tokens.specs.declared.key_token.Token.{Token}
use Rattle.key_tokens.specs.Kinds.{IsAsked}
use Rattle.key_tokens.specs.Layout.{IsToken}
use Rattle.key_tokens.specs.Fields.{token_of}
use Rattle.key_tokens.specs.TokenChecks.{rule_of, token_checks}
use Rattle.key_tokens.proofs.Layouts.{token_from_none, none_from_token, same_token, token_is, with_fields}
use Rattle.key_tokens.proofs.reading.read_token.Goals as goal

pub returns-in_err-vector-clause-only : goal.returns-in_err-vector-clause-only
returns-in_err-vector-clause-only c = λ token is_token asked.
    let none : first_failing (token_checks c.args.asked c.args.bytes.now) ≡ None =
    none_from_token c.args.asked c.args.bytes.now c.told-bytes c.fits-bytes token is_token asked in
    let broken : first_failing (token_checks c.args.asked c.args.bytes.now) ≡ Some (rule_of c.in_err-vector.field-0.0) = c.in_err-vector.ensures.refused in
    absurd (none-some (rule_of c.in_err-vector.field-0.0) (sym none ∙ broken))

pub returns-clause-layout : goal.returns-clause-layout
returns-clause-layout c =
    subst (λ (token : Token). IsToken c.args.bytes.now token × IsAsked c.args.asked token.kind)
    (same_token (token_of c.args.bytes.now) (with_fields c.kind_at.result c.eight_at.result c.sealed_of.result.left c.sealed_of.result.right c.in_ok-vector.vector)
    (sym c.kind_at.ensures) (sym c.eight_at.ensures) (ap (λ s. s.left) (sym c.sealed_of.ensures)) (ap (λ s. s.right) (sym c.sealed_of.ensures))
    (sym c.in_ok-vector.ensures.vector))
    (token_from_none c.args.asked c.args.bytes.now c.told-bytes c.fits-bytes c.in_ok-vector.ensures.accepted)

pub returns-clause-only : goal.returns-clause-only
returns-clause-only c = λ token is_token asked.
    ap (λ (read : Token). Ok read)
    (sym (same_token (token_of c.args.bytes.now) (with_fields c.kind_at.result c.eight_at.result c.sealed_of.result.left c.sealed_of.result.right c.in_ok-vector.vector)
    (sym c.kind_at.ensures) (sym c.eight_at.ensures) (ap (λ s. s.left) (sym c.sealed_of.ensures)) (ap (λ s. s.right) (sym c.sealed_of.ensures))
    (sym c.in_ok-vector.ensures.vector))
    ∙ token_is c.args.bytes.now c.told-bytes token is_token)
