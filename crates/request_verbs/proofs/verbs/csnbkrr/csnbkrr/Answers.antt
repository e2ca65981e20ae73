use Rattle.std.proofs.Common.{◌≡◌, ◌∙◌, [], ◌∷◌, Option, codes, refl, sym, ap, subst, rules}
use Rattle.std.proofs.lemmas.Option.{same_Some}
use Rattle.key_cells.specs.Lease.{bench_of}
use Rattle.key_tokens.specs.Denotes.{Denoted}
use Rattle.master_registers.specs.Loaded.{registers_of}
use Rattle.multi_encipher.specs.Seals.{IsSealed}
use Rattle.line_service.specs.Replies.{Hex, written}
use Rattle.verb_rules.specs.KeyChecks.{age_of}
use Rattle.verb_rules.specs.Keys.{keys_of, opened_key, token_for}
use Rattle.verb_rules.specs.declared.judging.Judged.{Judged}
use Rattle.cca_machine.specs.Keys.{key_of_label, or_no_key}
use Rattle.cca_machine.specs.State.{State}
use Rattle.cca_machine.proofs.Acting.{opens, or_none_is}
use Rattle.request_verbs.proofs.Fields.{one_hex}
use Rattle.cca_machine.proofs.Settling.{shown_settles}
use Rattle.request_verbs.proofs.TokensAgain.{token_again}
use Rattle.request_verbs.proofs.verbs.csnbkrr.csnbkrr.Goals as goal

pub returns : goal.returns
returns c = record {
  settles = λ role label held rows lease.
      let bench = bench_of lease in
      let judged = c.key_in-key.result.now in
      let fields = λ (s : State) (k : Option Denoted). Hex (codes "token") (token_for (keys_of s.registers) (or_no_key k)) ∷ [] in
      let halves : IsSealed judged.token.vector judged.token.sealed = record { left = c.are_bytes.ensures; right = c.are_bytes-2.ensures; single = c.key_in-key.ensures.halves } in
      shown_settles refl (λ s. fields s (key_of_label s label)) refl (λ s. refl) (λ s. refl)
      (λ s is.
      let same : is.grants.0.has.judged ≡ judged = same_Some is.grants.0.has.judged judged (sym is.grants.0.has.is ∙ c.key_in-key.ensures.is) in
      let age = subst (λ (j : Judged). j.age ≡ age_of (registers_of s.registers) j.token) same is.grants.0.age in
      let some = or_none_is (opened_key bench judged) (opens bench judged c.key_in-key.ensures.under) in
      let key : key_of_label s label ≡ opened_key bench judged = is.grants.0.has.key_is ∙ ap (opened_key bench) same in
      one_hex (codes "token") c.write_token.result c.args.reply.now c.ok.new.self c.hex.new.self c.requires.empty c.ok.ensures.bytes c.hex.ensures.bytes
      ∙ (ap (λ t. written (Hex (codes "token") t ∷ [])) (c.write_token.ensures.made ∙ token_again s.registers held bench is.loaded judged age halves (or_no_key (opened_key bench judged)) some)
      ∙ ap (λ (k : Option Denoted). written (fields s k)) (sym key)))
      (search rules);
}
