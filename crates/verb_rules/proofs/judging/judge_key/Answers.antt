use Rattle.std.proofs.Common.{◌≡◌, ◌∙◌, None, Some, sym, ap, subst}
use Rattle.cca_vectors.specs.Checks.{first_failing}
use Rattle.cca_vectors.proofs.Judging.{stopped_in}
use Rattle.key_tokens.specs.declared.key_token.Asked.TheVariants as asked
use Rattle.key_tokens.specs.declared.key_token.Kind.TheVariants as kind
use Rattle.key_tokens.specs.Denotes.{denoted, denoted_under}
use Rattle.key_tokens.specs.Kinds.{IsAsked}
use Rattle.key_tokens.specs.Fields.{token_of}
use Rattle.key_tokens.specs.TokenChecks.{token_checks}
use Rattle.verb_rules.specs.KeyChecks.{age_of, read_checks}
use Rattle.verb_rules.specs.Keys.{HasHalves, keys_of, opened_key, opened_under}
use Rattle.verb_rules.specs.Rules.{Judges, rule_number}
use Rattle.verb_rules.specs.declared.judging.Judged.{Judged}
use Rattle.verb_rules.proofs.DenotedLemmas.{denoted_opened, denoted_under_opened, judged_is}
use Rattle.verb_rules.proofs.JudgeLemmas.{judges_after, if_ok_gives}
use Rattle.verb_rules.proofs.judging.judge_key.Goals as goal

pub returns-in-Ok-clause-judges : goal.returns-in-Ok-clause-judges
returns-in-Ok-clause-judges c =
    judges_after (token_checks c.args.need.now.asked c.args.token.now) (read_checks c.args.need.now c.args.held.now (token_of c.args.token.now))
    c.judge_read.result c.in-Ok.ensures.accepted
    (subst (λ t. Judges (read_checks c.args.need.now c.args.held.now t) c.judge_read.result) c.in-Ok.ensures.token c.judge_read.ensures.judges)

pub returns-in-Err-clause-judges : goal.returns-in-Err-clause-judges
returns-in-Err-clause-judges c =
    stopped_in (token_checks c.args.need.now.asked c.args.token.now) (read_checks c.args.need.now c.args.held.now (token_of c.args.token.now))
    (rule_number c.token_rule.result) (c.in-Err.ensures.refused ∙ ap Some (sym c.token_rule.ensures))

pub returns-in-Ok-clause-token : goal.returns-in-Ok-clause-token
returns-in-Ok-clause-token c =
    if_ok_gives c.judge_read.result (λ judged. judged ≡ record { token = c.in-Ok.read; age = age_of c.args.held.now c.in-Ok.read })
    (λ judged. judged.token ≡ token_of c.args.token.now)
    (λ judged is. ap (λ (j : Judged). j.token) is ∙ c.in-Ok.ensures.token) c.judge_read.ensures.judged

pub returns-in-Ok-clause-age : goal.returns-in-Ok-clause-age
returns-in-Ok-clause-age c =
    if_ok_gives c.judge_read.result (λ judged. judged ≡ record { token = c.in-Ok.read; age = age_of c.args.held.now c.in-Ok.read })
    (λ judged. judged.age ≡ age_of c.args.held.now (token_of c.args.token.now))
    (λ judged is. ap (λ (j : Judged). j.age) is ∙ ap (age_of c.args.held.now) c.in-Ok.ensures.token) c.judge_read.ensures.judged

pub returns-in-Ok-clause-internal : goal.returns-in-Ok-clause-internal
returns-in-Ok-clause-internal c = λ internal.
    c.judge_read.ensures.internal (subst (λ a. IsAsked a c.in-Ok.read.kind) internal c.in-Ok.ensures.layout.1)

pub returns-in-Ok-clause-double : goal.returns-in-Ok-clause-double
returns-in-Ok-clause-double c = c.judge_read.ensures.double

pub returns-in-Ok-clause-halves : goal.returns-in-Ok-clause-halves
returns-in-Ok-clause-halves c =
    if_ok_gives c.judge_read.result (λ judged. judged ≡ record { token = c.in-Ok.read; age = age_of c.args.held.now c.in-Ok.read }) HasHalves
    (λ judged is. subst HasHalves (sym is) c.in-Ok.ensures.layout.0.right) c.judge_read.ensures.judged

pub returns-in-Ok-clause-denoted : goal.returns-in-Ok-clause-denoted
returns-in-Ok-clause-denoted c = λ m bench loaded internal.
    let passes : first_failing (token_checks asked.Internal c.args.token.now) ≡ None =
    subst (λ a. first_failing (token_checks a c.args.token.now) ≡ None) internal c.in-Ok.ensures.accepted in
    let is_internal : c.in-Ok.read.kind ≡ kind.Internal = subst (λ a. IsAsked a c.in-Ok.read.kind) internal c.in-Ok.ensures.layout.1 in
    if_ok_gives c.judge_read.result (λ judged. judged ≡ record { token = c.in-Ok.read; age = age_of c.args.held.now c.in-Ok.read })
    (λ judged. denoted (keys_of m) c.args.token.now ≡ opened_key bench judged)
    (λ judged is. denoted_opened m c.args.held.now bench c.args.token.now judged loaded passes
    (is ∙ judged_is c.args.held.now c.args.token.now c.in-Ok.read c.in-Ok.ensures.token is_internal))
    c.judge_read.ensures.judged

pub returns-in-Ok-clause-denoted_under : goal.returns-in-Ok-clause-denoted_under
returns-in-Ok-clause-denoted_under c = λ transport external.
    let passes : first_failing (token_checks asked.External c.args.token.now) ≡ None =
    subst (λ a. first_failing (token_checks a c.args.token.now) ≡ None) external c.in-Ok.ensures.accepted in
    if_ok_gives c.judge_read.result (λ judged. judged ≡ record { token = c.in-Ok.read; age = age_of c.args.held.now c.in-Ok.read })
    (λ judged. denoted_under transport c.args.token.now ≡ Some (opened_under transport judged))
    (λ judged is. denoted_under_opened transport c.args.token.now judged passes (ap (λ (j : Judged). j.token) is ∙ c.in-Ok.ensures.token))
    c.judge_read.ensures.judged

pub returns-in-Err-clause-token : goal.returns-in-Err-clause-token
returns-in-Err-clause-token c = tt

pub returns-in-Err-clause-age : goal.returns-in-Err-clause-age
returns-in-Err-clause-age c = tt

pub returns-in-Err-clause-halves : goal.returns-in-Err-clause-halves
returns-in-Err-clause-halves c = tt

pub returns-in-Err-clause-internal : goal.returns-in-Err-clause-internal
returns-in-Err-clause-internal c = λ internal. tt

pub returns-in-Err-clause-double : goal.returns-in-Err-clause-double
returns-in-Err-clause-double c = λ double. tt

pub returns-in-Err-clause-denoted : goal.returns-in-Err-clause-denoted
returns-in-Err-clause-denoted c = λ m bench loaded internal. tt

pub returns-in-Err-clause-denoted_under : goal.returns-in-Err-clause-denoted_under
returns-in-Err-clause-denoted_under c = λ transport external. tt
