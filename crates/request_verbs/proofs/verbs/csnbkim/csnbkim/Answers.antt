use Rattle.std.proofs.Common.{◌≡◌, ◌∙◌, [], ◌∷◌, false, codes, refl, sym, ap, subst}
use Rattle.std.specs.Prelude.{is_some, ◌||◌}
use Rattle.std.proofs.lemmas.Option.{same_Some}
use Rattle.key_cells.specs.Lease.{bench_of}
use Rattle.key_cells.specs.declared.leases.Lease.{Lease}
use Rattle.key_tokens.specs.Denotes.{ClearKey}
use Rattle.key_transport.specs.Tokens.{as_current, transported_key}
use Rattle.master_registers.specs.Loaded.{masters_in}
use Rattle.verb_rules.specs.Keys.{opened, opened_under}
use Rattle.verb_script.specs.declared.rows.RequestName.TheVariants.{Csnbkim}
use Rattle.verb_script.specs.Values.{hex_value}
use Rattle.verb_script.specs.Named.{label_named}
use Rattle.cca_machine.specs.Act.{delivered}
use Rattle.cca_machine.specs.Keys.{imported, key_in_field, key_in_text, or_no_clear}
use Rattle.cca_machine.specs.Decided.{asked}
use Rattle.cca_machine.specs.Deciding.{IsDelivered}
use Rattle.cca_machine.proofs.Acting.{key_is}
use Rattle.request_verbs.proofs.Delivering.{either_left, either_right, stands_after, target_place}
use Rattle.cca_machine.proofs.Settling.{keys_within}
use Rattle.request_verbs.proofs.Delivered.{delivery_settles}
use Rattle.request_verbs.proofs.verbs.csnbkim.csnbkim.Goals as goal

pub returns : goal.returns
returns c = record {
  settles = λ role token transport rows.
      let held = c.args.held.now in
      let bench = bench_of c.args.lease.now in
      let named = label_named c.args.to.now in
      let request = asked Csnbkim (role ∷ token ∷ transport ∷ c.args.to.now ∷ []) in
      let source = c.external_in-source.result.now in
      let under = c.double_key_in.result.now in
      let clear = transported_key bench source under in
      let kept : masters_in held (bench_of c.import-token.new.lease) ≡ masters_in held (bench_of c.args.lease.now) = ap (λ (l : Lease). masters_in held (bench_of l)) c.import-token.ensures.stays in
      delivery_settles {request = request} (keys_within c.args.lease.now c.import-token.new.lease c.import-token.ensures.stays) named c.args.granted.now.third.place c.import-token.result refl
      (λ some. either_right (is_some (label_named transport)) (is_some named || false) (either_left (is_some named) false some))
      (λ s is. refl)
      (λ s is.
      let key : key_in_field s request (codes "transport") ≡ opened bench under =
      key_is bench (key_in_text s transport) c.args.granted.now.second under is.grants.1 c.double_key_in.ensures.key.is c.double_key_in.ensures.key.under in
      let same : is.grants.0.judged ≡ source = same_Some is.grants.0.judged source (sym is.grants.0.is ∙ c.external_in-source.ensures.key) in
      let brought : imported (key_in_field s request (codes "transport")) (hex_value token) ≡ clear =
      ap (λ (k : ClearKey). imported k (hex_value token)) key
      ∙ (ap or_no_clear (is.grants.0.opens (opened bench under).key) ∙ ap (opened_under (opened bench under).key) same) in
      subst (λ (k : ClearKey). IsDelivered s (delivered s (codes "token") named (as_current k)) c.deliver.result c.deliver.new.reply) (sym brought)
      (c.deliver.ensures.delivered s (as_current clear) (c.import-token.ensures.token s.registers is.loaded)
      (c.import-token.ensures.denoted s.registers is.loaded) is.grants.2.0))
      (λ shaped. target_place rows named c.args.granted.now.third shaped.2)
      c.requires.delivers.target c.deliver.ensures.delivery
      (stands_after (bench_of c.import-token.new.lease) c.import-token.result kept c.requires.delivers.loaded c.import-token.ensures.denoted)
      c.deliver.ensures.size;
}
