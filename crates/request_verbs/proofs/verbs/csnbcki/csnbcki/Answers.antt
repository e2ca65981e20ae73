use Rattle.std.proofs.Common.{◌≡◌, false, refl, ap}
use Rattle.std.specs.Prelude.{is_some}
use Rattle.cipher_verbs.specs.Imported.{imported_key}
use Rattle.key_cells.specs.Lease.{bench_of}
use Rattle.key_cells.specs.declared.leases.Lease.{Lease}
use Rattle.master_registers.specs.Loaded.{masters_in}
use Rattle.verb_script.specs.Values.{hex_value}
use Rattle.verb_script.specs.Named.{label_named}
use Rattle.request_verbs.proofs.Delivering.{either_left, stands_after, target_place}
use Rattle.request_verbs.proofs.Delivered.{delivery_settles}
use Rattle.request_verbs.proofs.verbs.csnbcki.csnbcki.Goals as goal

pub returns : goal.returns
returns c = record {
  settles = λ role rows.
      let held = c.args.held.now in
      let named = label_named c.args.to.now in
      let key = imported_key (hex_value c.args.clear.now) in
      let kept : masters_in held (bench_of c.import-token.new.lease) ≡ masters_in held (bench_of c.args.lease.now) = ap (λ (l : Lease). masters_in held (bench_of l)) c.import-token.ensures.places in
      delivery_settles c.import-token.ensures.places named c.args.granted.now.first.place c.import-token.result refl (either_left (is_some named) false) (λ s is. refl)
      (λ s is. c.deliver.ensures.delivered s key (c.import-token.ensures.made s.registers is.loaded)
      (c.import-token.ensures.stands s.registers is.loaded) is.grants.0.0)
      (λ shaped. target_place rows named c.args.granted.now.first shaped.0)
      c.requires.delivers.target c.deliver.ensures.delivery
      (stands_after (bench_of c.import-token.new.lease) c.import-token.result kept c.requires.delivers.loaded c.import-token.ensures.stands)
      c.deliver.ensures.size;
}
