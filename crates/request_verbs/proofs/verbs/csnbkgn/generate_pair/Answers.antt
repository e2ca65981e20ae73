use Rattle.std.proofs.Common.{◌≡◌, ◌∙◌, [], ◌∷◌, List, None, Some, codes, false, sym, ap, subst}
use Rattle.std.specs.Prelude.{◌||◌, is_some}
use Rattle.cca_vectors.specs.KeyTypes.{type_name}
use Rattle.cca_vectors.specs.declared.key_length.Length.{Length}
use Rattle.cca_vectors.specs.declared.key_type.KeyType.{KeyType}
use Rattle.key_cells.specs.Lease.{bench_of}
use Rattle.key_cells.specs.declared.leases.Lease.{Lease}
use Rattle.key_tokens.specs.Denotes.{ClearKey}
use Rattle.key_transport.specs.Generated.{HaveLength, generated_key, generated_tokens, is_operational}
use Rattle.key_transport.specs.Tokens.{as_current, current_token, external_token}
use Rattle.key_transport.specs.declared.generating.Form.{Form}
use Rattle.key_transport.specs.declared.generating.Generated.{Generated}
use Rattle.master_registers.specs.Loaded.{masters_in}
use Rattle.line_service.specs.Replies.{Field, Hex}
use Rattle.verb_rules.specs.Keys.{opened}
use Rattle.verb_script.specs.declared.rows.RequestName.TheVariants.{CsnbkgnPair}
use Rattle.verb_script.specs.Named.{label_named}
use Rattle.cca_machine.specs.Act.{delivered_with}
use Rattle.cca_machine.specs.Choices.{key_length_named, type_in}
use Rattle.cca_machine.specs.Draws.{KeyBytes}
use Rattle.cca_machine.specs.Keys.{key_in_field, key_in_text}
use Rattle.cca_machine.specs.State.{State}
use Rattle.cca_machine.specs.Verdict.{first_refusal, pair_questions}
use Rattle.cca_machine.specs.Decided.{asked, source}
use Rattle.cca_machine.specs.Deciding.{IsDelivered, token2_fields}
use Rattle.request_verbs.specs.Drawing.{MakesKeys}
use Rattle.cca_machine.proofs.Acting.{key_is}
use Rattle.request_verbs.specs.declared.verbs.csnbkgn.Drawn.{Drawn}
use Rattle.request_verbs.specs.declared.verbs.csnbkgn.Drawn.TheVariants.{Keys}
use Rattle.request_verbs.proofs.Delivering.{either_left, either_right, stands_after, target_place}
use Rattle.request_verbs.proofs.DrawnKeys.{drawn_delivered, drawn_refused, drawn_stopped, none_broken, some_broken}
use Rattle.request_verbs.proofs.Generating.{pair_lengths, pair_operational, pair_tokens, two_lengths, two_verdict, type_is}
use Rattle.cca_machine.proofs.Settling.{keys_within}
use Rattle.request_verbs.proofs.verbs.csnbkgn.generate_pair.Goals as goal

pub draw-requires-clause-lengths : goal.draw-requires-clause-lengths
draw-requires-clause-lengths g c = λ unbroken.
    let key_length = c.key_length_of-length.result in
    let broken = c.judge_two-broken in
    subst (λ (f : Form). HaveLength f c.args.first c.args.second key_length) (sym c.pair_form_of.ensures)
    (pair_lengths c.args.form.now c.args.first c.args.second key_length (two_lengths c.args.first c.args.second key_length
    (none_broken (first_refusal (pair_questions c.args.first c.args.second key_length)) broken.result broken.ensures unbroken)))

pub returns-in-Ok-Keys : goal.returns-in-Ok-Keys
returns-in-Ok-Keys g c = record {
  settles = λ role transport rows.
      let held = c.args.held.now in
      let bench = bench_of c.args.lease.now in
      let named = label_named c.args.to.now in
      let text = c.args.form.now in
      let length = key_length_named c.args.length.now in
      let key_length = c.key_length_of-length.result in
      let judged = c.double_key_in-transport.result.now in
      let under = opened bench judged in
      let request = asked CsnbkgnPair (role ∷ text ∷ c.args.length.now ∷ type_name c.args.first ∷ type_name c.args.second ∷ transport ∷ c.args.to.now ∷ []) in
      let v = first_refusal (pair_questions c.args.first c.args.second key_length) in
      let broken = c.judge_two-broken in
      let made : MakesKeys v c.args.held.now (bench_of c.args.lease.now) c.pair_form_of.result key_length c.args.first c.args.second None (Some judged) (g.E.Entropy.left c.args.entropy.now) (g.E.Entropy.left c.draw.new.entropy) (Keys c.in-Ok-Keys.keys) =
      subst (λ (d : Drawn). MakesKeys v c.args.held.now (bench_of c.args.lease.now) c.pair_form_of.result key_length c.args.first c.args.second None (Some judged) (g.E.Entropy.left c.args.entropy.now) (g.E.Entropy.left c.draw.new.entropy) d) c.in-Ok-Keys.field-0-is (c.in-Ok-Keys.ensures.drawn v broken.ensures) in
      let drawn = made.1.draw.drawn in
      let operational = ap is_operational c.pair_form_of.ensures ∙ pair_operational text in
      let makes = λ (s : State) (one two : KeyType) (n : Length) (k : ClearKey). IsDelivered s (delivered_with s (codes "token1") named (as_current (generated_key one n drawn))
      (Hex (codes "token2") (external_token k.key (generated_key two n drawn)) ∷ [])) c.deliver.result c.deliver.new.reply in
      let kept : masters_in held (bench_of c.draw.new.lease) ≡ masters_in held (bench_of c.args.lease.now) = ap (λ (l : Lease). masters_in held (bench_of l)) c.draw.ensures.stays in
      let before = source c.args.entropy.now (g.E.Entropy.left c.args.entropy.now) (g.E.Entropy.faults c.args.entropy.now) in
      let now = source c.draw.new.entropy (g.E.Entropy.left c.draw.new.entropy) (g.E.Entropy.faults c.draw.new.entropy) in
      drawn_delivered {request = request} {before = before} {now = now} (ap KeyBytes (sym c.key_length_of-length.ensures))
      (λ s. two_verdict c.args.first c.args.second c.args.length.now key_length c.key_length_of-length.ensures)
      c.draw.ensures.fault (λ some. c.draw.ensures.untouched (some_broken v broken.result broken.ensures some))
      (keys_within c.args.lease.now c.draw.new.lease c.draw.ensures.stays)
      named c.args.granted.now.second.place c.in-Ok-Keys.keys.first c.in-Ok-Keys.is made.0 made.1.draw
      (λ some. either_right (is_some (label_named transport)) (is_some named || false) (either_left (is_some named) false some))
      (λ s is.
      let one = generated_key c.args.first key_length drawn in
      let two = generated_key c.args.second key_length drawn in
      let key : key_in_field s request (codes "transport2") ≡ under =
      key_is bench (key_in_text s transport) c.args.granted.now.first judged is.grants.0 c.double_key_in-transport.ensures.key.is c.double_key_in-transport.ensures.key.under in
      let tokens : c.in-Ok-Keys.keys ≡ record { first = current_token s.registers one; second = Some (external_token under.key two) } =
      made.1.tokens s.registers is.loaded ∙ (ap (λ (f : Form). generated_tokens s.registers f [] under.key one two) c.pair_form_of.ensures ∙ pair_tokens s.registers text [] under.key one two) in
      let delivered = c.deliver.ensures.delivered s (as_current one) (ap (λ (k : Generated). k.first) tokens) (made.1.operational s.registers is.loaded operational) is.grants.1.0 in
      subst (λ (k : ClearKey). makes s (type_in (type_name c.args.first)) (type_in (type_name c.args.second)) length k) (sym key)
      (subst (λ (k : KeyType). makes s (type_in (type_name c.args.first)) k length under) (sym (type_is c.args.second))
      (subst (λ (k : KeyType). makes s k c.args.second length under) (sym (type_is c.args.first))
      (subst (λ (n : Length). makes s c.args.first c.args.second n under) c.key_length_of-length.ensures
      (subst (λ (fields : List Field). IsDelivered s (delivered_with s (codes "token1") named (as_current one) fields) c.deliver.result c.deliver.new.reply)
      (ap (λ (k : Generated). token2_fields k.second) tokens) delivered)))))
      (λ shaped. target_place rows named c.args.granted.now.second shaped.1)
      c.requires.delivers.target c.deliver.ensures.delivery
      (stands_after (bench_of c.draw.new.lease) c.in-Ok-Keys.keys.first kept c.requires.delivers.loaded (λ m loaded. made.1.operational m loaded operational))
      c.deliver.ensures.size;
}

pub returns-in-Ok-Refused : goal.returns-in-Ok-Refused
returns-in-Ok-Refused g c = record {
  settles = λ role transport rows.
      let key_length = c.key_length_of-length.result in
      let v = first_refusal (pair_questions c.args.first c.args.second key_length) in
      let broken = c.judge_two-broken in
      let request = asked CsnbkgnPair (role ∷ c.args.form.now ∷ c.args.length.now ∷ type_name c.args.first ∷ type_name c.args.second ∷ transport ∷ c.args.to.now ∷ []) in
      let before = source c.args.entropy.now (g.E.Entropy.left c.args.entropy.now) (g.E.Entropy.faults c.args.entropy.now) in
      let now = source c.draw.new.entropy (g.E.Entropy.left c.draw.new.entropy) (g.E.Entropy.faults c.draw.new.entropy) in
      drawn_refused {request = request} {before = before} {now = now} (ap KeyBytes (sym c.key_length_of-length.ensures))
      (λ s. two_verdict c.args.first c.args.second c.args.length.now key_length c.key_length_of-length.ensures)
      c.draw.ensures.fault (λ some. c.draw.ensures.untouched (some_broken v broken.result broken.ensures some))
      (keys_within c.args.lease.now c.draw.new.lease c.draw.ensures.stays)
      c.in-Ok-Refused.is
      (subst (λ (d : Drawn). MakesKeys v c.args.held.now (bench_of c.args.lease.now) c.pair_form_of.result key_length c.args.first c.args.second None (Some c.double_key_in-transport.result.now) (g.E.Entropy.left c.args.entropy.now) (g.E.Entropy.left c.draw.new.entropy) d) c.in-Ok-Refused.field-0-is (c.in-Ok-Refused.ensures.drawn v broken.ensures))
      c.requires.delivers.empty;
}

pub returns-in-Err : goal.returns-in-Err
returns-in-Err g c = record {
  settles = λ role transport rows.
      let key_length = c.key_length_of-length.result in
      let v = first_refusal (pair_questions c.args.first c.args.second key_length) in
      let broken = c.judge_two-broken in
      let request = asked CsnbkgnPair (role ∷ c.args.form.now ∷ c.args.length.now ∷ type_name c.args.first ∷ type_name c.args.second ∷ transport ∷ c.args.to.now ∷ []) in
      let before = source c.args.entropy.now (g.E.Entropy.left c.args.entropy.now) (g.E.Entropy.faults c.args.entropy.now) in
      let now = source c.draw.new.entropy (g.E.Entropy.left c.draw.new.entropy) (g.E.Entropy.faults c.draw.new.entropy) in
      drawn_stopped {request = request} {before = before} {now = now} (ap KeyBytes (sym c.key_length_of-length.ensures))
      (λ s. two_verdict c.args.first c.args.second c.args.length.now key_length c.key_length_of-length.ensures)
      c.draw.ensures.fault (λ some. c.draw.ensures.untouched (some_broken v broken.result broken.ensures some))
      (keys_within c.args.lease.now c.draw.new.lease c.draw.ensures.stays)
      c.in-Err.is c.in-Err.ensures.stops (none_broken v broken.result broken.ensures c.in-Err.ensures.permitted) c.requires.delivers.empty;
}
