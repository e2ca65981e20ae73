use Rattle.std.proofs.Common.{◌≡◌, ◌∙◌, [], ◌∷◌, codes, refl, sym, ap, rules}
use Rattle.key_cells.specs.Lease.{bench_of}
use Rattle.key_tokens.specs.Denotes.{ClearKey}
use Rattle.key_transport.specs.Tokens.{external_token}
use Rattle.line_service.specs.Replies.{Hex, written}
use Rattle.verb_rules.specs.Keys.{opened}
use Rattle.verb_script.specs.declared.rows.RequestName.TheVariants.{Csnbkex}
use Rattle.cca_machine.specs.Keys.{key_in_field, key_in_text, key_of_request}
use Rattle.cca_machine.specs.Decided.{asked}
use Rattle.cca_machine.proofs.Acting.{key_is}
use Rattle.request_verbs.proofs.Fields.{one_hex}
use Rattle.cca_machine.proofs.Settling.{shown_settles, keys_within}
use Rattle.request_verbs.proofs.verbs.csnbkex.csnbkex.Goals as goal

pub returns : goal.returns
returns c = record {
  settles = λ role key transport held rows.
      let bench = bench_of c.args.lease.now in
      let request = asked Csnbkex (role ∷ key ∷ transport ∷ []) in
      let one = c.key_in-key.result.now in
      let two = c.double_key_in.result.now in
      let fields = λ (t k : ClearKey). Hex (codes "token") (external_token t.key k) ∷ [] in
      let shown = one_hex (codes "token") c.export-token.result c.args.reply.now c.ok.new.self c.hex.new.self c.requires.empty c.ok.ensures.bytes c.hex.ensures.bytes in
      shown_settles (keys_within c.args.lease.now c.export-token.new.lease c.export-token.ensures.stays) (λ s. fields (key_in_field s request (codes "transport")) (key_of_request s request)) refl (λ s. refl) (λ s. refl)
      (λ s is.
      let exported : key_of_request s request ≡ opened bench one =
      key_is bench (key_in_text s key) c.args.granted.now.first one is.grants.0 c.key_in-key.ensures.is c.key_in-key.ensures.under in
      let under : key_in_field s request (codes "transport") ≡ opened bench two =
      key_is bench (key_in_text s transport) c.args.granted.now.second two is.grants.1 c.double_key_in.ensures.key.is c.double_key_in.ensures.key.under in
      shown ∙ (ap (λ t. written (Hex (codes "token") t ∷ [])) c.export-token.ensures.token
      ∙ (ap (λ (k : ClearKey). written (fields (opened bench two) k)) (sym exported)
      ∙ ap (λ (t : ClearKey). written (fields t (key_of_request s request))) (sym under))))
      (search rules);
}
