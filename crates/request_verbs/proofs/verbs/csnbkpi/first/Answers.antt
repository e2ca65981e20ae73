use Rattle.std.proofs.Common.{◌≡◌, ◌∙◌, false, None, codes, refl, sym, ap, subst, arith}
use Rattle.std.specs.Prelude.{◌/◌, is_some, length}
use Rattle.cca_vectors.specs.declared.key_type.KeyType.{KeyType}
use Rattle.key_cells.specs.Lease.{bench_of}
use Rattle.key_cells.specs.declared.leases.Lease.{Lease}
use Rattle.key_parts.specs.Parts.{first_key}
use Rattle.key_transport.specs.Tokens.{as_current}
use Rattle.master_registers.specs.Loaded.{masters_in}
use Rattle.verb_script.specs.Values.{hex_value}
use Rattle.verb_script.specs.Named.{label_named}
use Rattle.cca_machine.specs.Act.{delivered}
use Rattle.cca_machine.specs.Verdict.{first_refusal, first_part_questions, or_refused}
use Rattle.cca_machine.specs.Deciding.{IsDelivered}
use Rattle.request_verbs.proofs.Delivering.{either_left, stands_after, target_place}
use Rattle.request_verbs.proofs.Generating.{type_is}
use Rattle.cca_machine.proofs.Settling.{refused_settles}
use Rattle.request_verbs.proofs.Delivered.{delivery_settles}
use Rattle.request_verbs.proofs.verbs.csnbkpi.first.Goals as goal

pub returns-in-Err : goal.returns-in-Err
returns-in-Err c = record {
  settles = λ role rule rows.
      let size = length c.args.part.now / 2 in
      refused_settles refl refl
      (λ s is. ap (λ (k : KeyType). first_refusal (first_part_questions k size)) (type_is c.args.kind)
      ∙ ap (λ rule. or_refused rule (codes "part") None) c.in-Err.ensures)
      c.requires.delivers.empty (omega arith);
}

pub returns : goal.returns
returns c = record {
  settles = λ role rule rows.
      let held = c.args.held.now in
      let named = label_named c.args.to.now in
      let part = hex_value c.args.part.now in
      let size = length c.args.part.now / 2 in
      let kept : masters_in held (bench_of c.first_token-token.new.lease) ≡ masters_in held (bench_of c.args.lease.now) = ap (λ (l : Lease). masters_in held (bench_of l)) c.first_token-token.ensures.places in
      delivery_settles c.first_token-token.ensures.places named c.args.granted.now.first.place c.first_token-token.result refl (either_left (is_some named) false)
      (λ s is. ap (λ (k : KeyType). first_refusal (first_part_questions k size)) (type_is c.args.kind)
      ∙ ap (λ rule. or_refused rule (codes "part") None) c.in_default.ensures)
      (λ s is. subst (λ (k : KeyType). IsDelivered s (delivered s (codes "token") named (as_current (first_key k part))) c.deliver.result c.deliver.new.reply)
      (sym (type_is c.args.kind))
      (c.deliver.ensures.delivered s (as_current (first_key c.args.kind part)) (c.first_token-token.ensures.made s.registers is.loaded)
      (c.first_token-token.ensures.stands s.registers is.loaded) is.grants.0.0))
      (λ shaped. target_place rows named c.args.granted.now.first shaped.0)
      c.requires.delivers.target c.deliver.ensures.delivery
      (stands_after (bench_of c.first_token-token.new.lease) c.first_token-token.result kept c.requires.delivers.loaded c.first_token-token.ensures.stands)
      c.deliver.ensures.size;
}
