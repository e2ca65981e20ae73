-- The bytes are the token of the definition, and so a token that is read back.
use Rattle.std.proofs.Common.{ℕ, ◌<◌, get_or, sym, ap, subst, ◌∙◌, rules}
use Rattle.key_tokens.specs.Layout.{IsToken, contents, layout, made}
use Rattle.key_tokens.specs.Tvv.{tvv_of}
use Rattle.key_tokens.proofs.Layouts.{none_from_token, token_is}
use Rattle.key_tokens.proofs.Written.{flag-made, made-token}
use Rattle.key_tokens.proofs.writing.write_token.Goals as goal

pub returns-clause-made : goal.returns-clause-made
unfolding made
returns-clause-made c =
    c.with_tvv-2.ensures.made ∙ ap (λ value. contents (layout c.args.token.now 0xc0 value)) (c.tvv.ensures ∙ ap tvv_of c.with_tvv.ensures.made)

pub returns-clause-flag : goal.returns-clause-flag
returns-clause-flag c = ap (λ bytes. get_or bytes 6 0) (returns-clause-made c) ∙ flag-made c.args.token.now

pub returns-clause-token : goal.returns-clause-token
returns-clause-token c =
    subst (λ bytes. IsToken bytes c.args.token.now) (sym (returns-clause-made c))
    (made-token c.args.token.now c.with_tvv.ensures.sized.0 c.with_tvv.ensures.sized.1 c.with_tvv.ensures.sized.2 c.with_tvv.ensures.valid c.requires.pattern c.requires.right)

pub returns-clause-fields : goal.returns-clause-fields
returns-clause-fields c = token_is c.with_tvv-2.result (returns-clause-token c).whole c.args.token.now (returns-clause-token c)

pub returns-clause-accepted : goal.returns-clause-accepted
returns-clause-accepted c = λ asked asks.
    let fits : (k : ℕ) → get_or c.with_tvv-2.result k 0 < 256 = search rules in
    none_from_token asked c.with_tvv-2.result (returns-clause-token c).whole fits c.args.token.now (returns-clause-token c) asks
