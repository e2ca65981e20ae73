use Rattle.std.proofs.Common.{◌≡◌, [], ◌∷◌, None, codes, false, refl, sym, ap, subst}
use Rattle.std.specs.Prelude.{IsTrue, is_some}
use Rattle.cca_vectors.specs.KeyTypes.{type_name}
use Rattle.cca_vectors.specs.declared.key_length.Length.{Length}
use Rattle.cca_vectors.specs.declared.key_type.KeyType.{KeyType}
use Rattle.key_cells.specs.Lease.{bench_of}
use Rattle.key_cells.specs.declared.leases.Lease.{Lease}
use Rattle.key_transport.specs.Generated.{generated_key}
use Rattle.key_transport.specs.Tokens.{as_current}
use Rattle.key_transport.specs.declared.generating.Form.TheVariants.{Op}
use Rattle.key_transport.specs.declared.generating.Generated.{Generated}
use Rattle.master_registers.specs.Loaded.{masters_in}
use Rattle.verb_script.specs.declared.rows.RequestName.TheVariants.{CsnbkgnOp}
use Rattle.verb_script.specs.Named.{label_named}
use Rattle.cca_machine.specs.Act.{delivered}
use Rattle.cca_machine.specs.Choices.{key_length_named}
use Rattle.cca_machine.specs.Draws.{KeyBytes}
use Rattle.cca_machine.specs.Operands.{needs_store}
use Rattle.cca_machine.specs.Verdict.{first_refusal, generate_questions}
use Rattle.cca_machine.specs.Decided.{asked, source}
use Rattle.cca_machine.specs.Deciding.{IsDelivered}
use Rattle.request_verbs.specs.Drawing.{MakesKeys}
use Rattle.request_verbs.specs.declared.verbs.csnbkgn.Drawn.{Drawn}
use Rattle.request_verbs.specs.declared.verbs.csnbkgn.Drawn.TheVariants.{Keys}
use Rattle.request_verbs.proofs.Delivering.{either_left, stands_after, target_place}
use Rattle.request_verbs.proofs.DrawnKeys.{drawn_delivered, drawn_refused, drawn_stopped, none_broken, some_broken}
use Rattle.request_verbs.proofs.Generating.{one_verdict, type_is}
use Rattle.cca_machine.proofs.Settling.{keys_within}
use Rattle.request_verbs.proofs.verbs.csnbkgn.generate_one.Goals as goal

pub returns-in-Ok-Keys : goal.returns-in-Ok-Keys
returns-in-Ok-Keys g c = record {
  settles = λ role form rows.
      let held = c.args.held.now in
      let named = label_named c.args.to.now in
      let key_length = c.key_length_of-length.result in
      let v = first_refusal (generate_questions c.args.kind key_length) in
      let broken = c.judge_one-broken in
      let made : MakesKeys v c.args.held.now (bench_of c.args.lease.now) Op key_length c.args.kind c.args.kind None None (g.E.Entropy.left c.args.entropy.now) (g.E.Entropy.left c.draw.new.entropy) (Keys c.in-Ok-Keys.keys) =
      subst (λ (d : Drawn). MakesKeys v c.args.held.now (bench_of c.args.lease.now) Op key_length c.args.kind c.args.kind None None (g.E.Entropy.left c.args.entropy.now) (g.E.Entropy.left c.draw.new.entropy) d) c.in-Ok-Keys.field-0-is (c.in-Ok-Keys.ensures.drawn v broken.ensures) in
      let drawn = made.1.draw.drawn in
      let request = asked CsnbkgnOp (role ∷ form ∷ c.args.length.now ∷ type_name c.args.kind ∷ c.args.to.now ∷ []) in
      let needs : IsTrue (is_some named) → IsTrue (needs_store request) = either_left (is_some named) false in
      let kept : masters_in held (bench_of c.draw.new.lease) ≡ masters_in held (bench_of c.args.lease.now) = ap (λ (l : Lease). masters_in held (bench_of l)) c.draw.ensures.stays in
      let before = source c.args.entropy.now (g.E.Entropy.left c.args.entropy.now) (g.E.Entropy.faults c.args.entropy.now) in
      let now = source c.draw.new.entropy (g.E.Entropy.left c.draw.new.entropy) (g.E.Entropy.faults c.draw.new.entropy) in
      drawn_delivered {request = request} {before = before} {now = now} (ap KeyBytes (sym c.key_length_of-length.ensures))
      (λ s. one_verdict c.args.kind c.args.length.now key_length c.key_length_of-length.ensures)
      c.draw.ensures.fault (λ some. c.draw.ensures.untouched (some_broken v broken.result broken.ensures some))
      (keys_within c.args.lease.now c.draw.new.lease c.draw.ensures.stays)
      named c.args.granted.now.first.place c.in-Ok-Keys.keys.first c.in-Ok-Keys.is made.0 made.1.draw needs
      (λ s is.
      let token = c.deliver.ensures.delivered s (as_current (generated_key c.args.kind key_length drawn)) (ap (λ (k : Generated). k.first) (made.1.tokens s.registers is.loaded))
      (made.1.operational s.registers is.loaded refl) is.grants.0.0 in
      subst (λ (k : KeyType). IsDelivered s (delivered s (codes "token1") named (as_current (generated_key k (key_length_named c.args.length.now) drawn))) c.deliver.result c.deliver.new.reply) (sym (type_is c.args.kind))
      (subst (λ (n : Length). IsDelivered s (delivered s (codes "token1") named (as_current (generated_key c.args.kind n drawn))) c.deliver.result c.deliver.new.reply) c.key_length_of-length.ensures token))
      (λ shaped. target_place rows named c.args.granted.now.first shaped.0)
      c.requires.delivers.target c.deliver.ensures.delivery
      (stands_after (bench_of c.draw.new.lease) c.in-Ok-Keys.keys.first kept c.requires.delivers.loaded (λ m loaded. made.1.operational m loaded refl))
      c.deliver.ensures.size;
}

pub returns-in-Ok-Refused : goal.returns-in-Ok-Refused
returns-in-Ok-Refused g c = record {
  settles = λ role form rows.
      let key_length = c.key_length_of-length.result in
      let v = first_refusal (generate_questions c.args.kind key_length) in
      let broken = c.judge_one-broken in
      let request = asked CsnbkgnOp (role ∷ form ∷ c.args.length.now ∷ type_name c.args.kind ∷ c.args.to.now ∷ []) in
      let before = source c.args.entropy.now (g.E.Entropy.left c.args.entropy.now) (g.E.Entropy.faults c.args.entropy.now) in
      let now = source c.draw.new.entropy (g.E.Entropy.left c.draw.new.entropy) (g.E.Entropy.faults c.draw.new.entropy) in
      drawn_refused {request = request} {before = before} {now = now} (ap KeyBytes (sym c.key_length_of-length.ensures))
      (λ s. one_verdict c.args.kind c.args.length.now key_length c.key_length_of-length.ensures)
      c.draw.ensures.fault (λ some. c.draw.ensures.untouched (some_broken v broken.result broken.ensures some))
      (keys_within c.args.lease.now c.draw.new.lease c.draw.ensures.stays)
      c.in-Ok-Refused.is
      (subst (λ (d : Drawn). MakesKeys v c.args.held.now (bench_of c.args.lease.now) Op key_length c.args.kind c.args.kind None None (g.E.Entropy.left c.args.entropy.now) (g.E.Entropy.left c.draw.new.entropy) d) c.in-Ok-Refused.field-0-is (c.in-Ok-Refused.ensures.drawn v broken.ensures))
      c.requires.delivers.empty;
}

pub returns-in-Err : goal.returns-in-Err
returns-in-Err g c = record {
  settles = λ role form rows.
      let key_length = c.key_length_of-length.result in
      let v = first_refusal (generate_questions c.args.kind key_length) in
      let broken = c.judge_one-broken in
      let request = asked CsnbkgnOp (role ∷ form ∷ c.args.length.now ∷ type_name c.args.kind ∷ c.args.to.now ∷ []) in
      let before = source c.args.entropy.now (g.E.Entropy.left c.args.entropy.now) (g.E.Entropy.faults c.args.entropy.now) in
      let now = source c.draw.new.entropy (g.E.Entropy.left c.draw.new.entropy) (g.E.Entropy.faults c.draw.new.entropy) in
      drawn_stopped {request = request} {before = before} {now = now} (ap KeyBytes (sym c.key_length_of-length.ensures))
      (λ s. one_verdict c.args.kind c.args.length.now key_length c.key_length_of-length.ensures)
      c.draw.ensures.fault (λ some. c.draw.ensures.untouched (some_broken v broken.result broken.ensures some))
      (keys_within c.args.lease.now c.draw.new.lease c.draw.ensures.stays)
      c.in-Err.is c.in-Err.ensures.stops (none_broken v broken.result broken.ensures c.in-Err.ensures.permitted) c.requires.delivers.empty;
}
