use Rattle.std.proofs.Common.{◌≡◌, ◌∙◌, [], ◌∷◌, codes, refl, sym, ap, rules}
use Rattle.std.proofs.lemmas.Option.{same_Some}
use Rattle.key_cells.specs.Lease.{bench_of}
use Rattle.key_tokens.specs.Denotes.{ClearKey}
use Rattle.key_transport.specs.Tokens.{external_token, transported_key}
use Rattle.line_service.specs.Replies.{Hex, written}
use Rattle.verb_rules.specs.Keys.{opened, opened_under}
use Rattle.verb_script.specs.declared.rows.RequestName.TheVariants.{Csnbktr}
use Rattle.verb_script.specs.Values.{hex_value}
use Rattle.cca_machine.specs.Keys.{imported, key_in_field, key_in_text, or_no_clear}
use Rattle.cca_machine.specs.Decided.{asked}
use Rattle.cca_machine.proofs.Acting.{key_is}
use Rattle.request_verbs.proofs.Fields.{one_hex}
use Rattle.cca_machine.proofs.Settling.{shown_settles, keys_within}
use Rattle.request_verbs.proofs.verbs.csnbktr.csnbktr.Goals as goal

pub returns : goal.returns
returns c = record {
  settles = λ role token transport1 transport2 held rows.
      let bench = bench_of c.args.lease.now in
      let bytes = hex_value token in
      let request = asked Csnbktr (role ∷ token ∷ transport1 ∷ transport2 ∷ []) in
      let source = c.external_in-source.result.now in
      let one = c.double_key_in-one.result.now in
      let two = c.double_key_in.result.now in
      let fields = λ (t k : ClearKey). Hex (codes "token") (external_token t.key k) ∷ [] in
      let shown = one_hex (codes "token") c.translate-token.result c.args.reply.now c.ok.new.self c.hex.new.self c.requires.empty c.ok.ensures.bytes c.hex.ensures.bytes in
      shown_settles (keys_within c.args.lease.now c.translate-token.new.lease c.translate-token.ensures.stays) (λ s. fields (key_in_field s request (codes "transport2")) (imported (key_in_field s request (codes "transport1")) bytes))
      refl (λ s. refl) (λ s. refl)
      (λ s is.
      let from : key_in_field s request (codes "transport1") ≡ opened bench one =
      key_is bench (key_in_text s transport1) c.args.granted.now.second one is.grants.1 c.double_key_in-one.ensures.key.is c.double_key_in-one.ensures.key.under in
      let to : key_in_field s request (codes "transport2") ≡ opened bench two =
      key_is bench (key_in_text s transport2) c.args.granted.now.third two is.grants.2 c.double_key_in.ensures.key.is c.double_key_in.ensures.key.under in
      let same : is.grants.0.judged ≡ source = same_Some is.grants.0.judged source (sym is.grants.0.is ∙ c.external_in-source.ensures.key) in
      let brought : imported (key_in_field s request (codes "transport1")) bytes ≡ transported_key bench source one =
      ap (λ (k : ClearKey). imported k bytes) from
      ∙ (ap or_no_clear (is.grants.0.opens (opened bench one).key) ∙ ap (opened_under (opened bench one).key) same) in
      shown ∙ (ap (λ t. written (Hex (codes "token") t ∷ [])) c.translate-token.ensures.token
      ∙ (ap (λ (k : ClearKey). written (fields (opened bench two) k)) (sym brought)
      ∙ ap (λ (t : ClearKey). written (fields t (imported (key_in_field s request (codes "transport1")) bytes))) (sym to))))
      (search rules);
}
