use Rattle.std.proofs.Common.{◌≡◌, [], ◌∷◌, false, refl, sym, ap, codes, subst}
use Rattle.std.specs.Prelude.{is_some, ◌||◌}
use Rattle.key_cells.specs.Lease.{bench_of}
use Rattle.key_cells.specs.declared.leases.Lease.{Lease}
use Rattle.key_tokens.specs.Denotes.{ClearKey}
use Rattle.key_transport.specs.Tokens.{as_current, closed_key}
use Rattle.master_registers.specs.Loaded.{masters_in}
use Rattle.verb_rules.specs.Keys.{opened}
use Rattle.verb_script.specs.declared.rows.RequestName.TheVariants.{Csnbpex}
use Rattle.verb_script.specs.Named.{label_named}
use Rattle.cca_machine.specs.Act.{delivered}
use Rattle.cca_machine.specs.Keys.{key_in_text, key_of_request}
use Rattle.cca_machine.specs.Decided.{asked}
use Rattle.cca_machine.specs.Deciding.{IsDelivered}
use Rattle.cca_machine.proofs.Acting.{key_is}
use Rattle.request_verbs.proofs.Delivering.{either_left, either_right, stands_after, target_place}
use Rattle.cca_machine.proofs.Settling.{key_within}
use Rattle.request_verbs.proofs.Delivered.{delivery_settles}
use Rattle.request_verbs.proofs.verbs.csnbpex.csnbpex.Goals as goal

pub returns : goal.returns
returns c = record {
  settles = λ role key rows.
      let held = c.args.held.now in
      let bench = bench_of c.args.lease.now in
      let named = label_named c.args.to.now in
      let request = asked Csnbpex (role ∷ key ∷ c.args.to.now ∷ []) in
      let clear = opened bench c.key_in.result.now in
      let kept : masters_in held (bench_of c.prohibit_export-token.new.lease) ≡ masters_in held (bench_of c.args.lease.now) = ap (λ (l : Lease). masters_in held (bench_of l)) c.prohibit_export-token.ensures.stays in
      delivery_settles (key_within c.args.lease.now c.prohibit_export-token.new.lease c.prohibit_export-token.ensures.stays) named c.args.granted.now.second.place c.prohibit_export-token.result refl
      (λ some. either_right (is_some (label_named key)) (is_some named || false) (either_left (is_some named) false some))
      (λ s is. refl)
      (λ s is.
      let same : key_of_request s request ≡ clear =
      key_is bench (key_in_text s key) c.args.granted.now.first c.key_in.result.now is.grants.0 c.key_in.ensures.is c.key_in.ensures.under in
      subst (λ (k : ClearKey). IsDelivered s (delivered s (codes "token") named (as_current (closed_key k))) c.deliver.result c.deliver.new.reply) (sym same)
      (c.deliver.ensures.delivered s (as_current (closed_key clear)) (c.prohibit_export-token.ensures.token s.registers is.loaded)
      (c.prohibit_export-token.ensures.denoted s.registers is.loaded) is.grants.1.0))
      (λ shaped. target_place rows named c.args.granted.now.second shaped.1)
      c.requires.delivers.target c.deliver.ensures.delivery
      (stands_after (bench_of c.prohibit_export-token.new.lease) c.prohibit_export-token.result kept c.requires.delivers.loaded c.prohibit_export-token.ensures.denoted)
      c.deliver.ensures.size;
}
