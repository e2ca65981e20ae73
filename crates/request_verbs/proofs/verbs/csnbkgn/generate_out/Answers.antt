use Rattle.std.proofs.Common.{◌≡◌, ◌∙◌, [], ◌∷◌, Some, codes, refl, sym, ap, subst}
use Rattle.cca_vectors.specs.KeyTypes.{type_name}
use Rattle.cca_vectors.specs.declared.key_length.Length.{Length}
use Rattle.cca_vectors.specs.declared.key_type.KeyType.{KeyType}
use Rattle.key_cells.specs.Lease.{bench_of}
use Rattle.key_tokens.specs.Denotes.{ClearKey}
use Rattle.key_transport.specs.Generated.{HaveLength, generated_key, generated_tokens}
use Rattle.key_transport.specs.Tokens.{external_token}
use Rattle.key_transport.specs.declared.generating.Form.{Form}
use Rattle.key_transport.specs.declared.generating.Generated.{Generated}
use Rattle.line_service.specs.Replies.{Hex, written}
use Rattle.verb_rules.specs.Keys.{opened}
use Rattle.verb_script.specs.declared.rows.RequestName.TheVariants.{CsnbkgnOut}
use Rattle.cca_machine.specs.Act.{Show}
use Rattle.cca_machine.specs.Choices.{key_length_named, type_in}
use Rattle.cca_machine.specs.Draws.{KeyBytes}
use Rattle.cca_machine.specs.Keys.{key_in_field, key_in_text}
use Rattle.cca_machine.specs.Verdict.{first_refusal, pair_questions}
use Rattle.cca_machine.specs.Decided.{asked, source}
use Rattle.cca_machine.specs.Deciding.{IsShown, token2_fields}
use Rattle.request_verbs.specs.Drawing.{MakesKeys}
use Rattle.request_verbs.specs.declared.verbs.csnbkgn.Drawn.{Drawn}
use Rattle.request_verbs.specs.declared.verbs.csnbkgn.Drawn.TheVariants.{Keys}
use Rattle.cca_machine.proofs.Acting.{key_is}
use Rattle.request_verbs.proofs.DrawnKeys.{drawn_left, drawn_refused, drawn_stopped, none_broken, some_broken}
use Rattle.request_verbs.proofs.Generating.{out_lengths, out_tokens, two_lengths, two_verdict, type_is}
use Rattle.cca_machine.proofs.Settling.{keys_within}
use Rattle.request_verbs.proofs.verbs.csnbkgn.generate_out.Goals as goal

pub draw-requires-clause-lengths : goal.draw-requires-clause-lengths
draw-requires-clause-lengths g c = λ unbroken.
    let key_length = c.key_length_of-length.result in
    let broken = c.judge_two-broken in
    subst (λ (f : Form). HaveLength f c.args.first c.args.second key_length) (sym c.out_form_of.ensures)
    (out_lengths c.args.form.now c.args.first c.args.second key_length (two_lengths c.args.first c.args.second key_length
    (none_broken (first_refusal (pair_questions c.args.first c.args.second key_length)) broken.result broken.ensures unbroken)))

pub returns-in-Ok-Keys : goal.returns-in-Ok-Keys
returns-in-Ok-Keys g c = record {
  settles = λ role transport1 transport2 rows.
      let bench = bench_of c.args.lease.now in
      let text = c.args.form.now in
      let length = key_length_named c.args.length.now in
      let key_length = c.key_length_of-length.result in
      let out = opened bench c.double_key_in-one.result.now in
      let other = opened bench c.double_key_in-two.result.now in
      let request = asked CsnbkgnOut (role ∷ text ∷ c.args.length.now ∷ type_name c.args.first ∷ type_name c.args.second ∷ transport1 ∷ transport2 ∷ []) in
      let v = first_refusal (pair_questions c.args.first c.args.second key_length) in
      let broken = c.judge_two-broken in
      let made : MakesKeys v c.args.held.now (bench_of c.args.lease.now) c.out_form_of.result key_length c.args.first c.args.second (Some c.double_key_in-one.result.now) (Some c.double_key_in-two.result.now) (g.E.Entropy.left c.args.entropy.now) (g.E.Entropy.left c.draw.new.entropy) (Keys c.in-Ok-Keys.keys) =
      subst (λ (d : Drawn). MakesKeys v c.args.held.now (bench_of c.args.lease.now) c.out_form_of.result key_length c.args.first c.args.second (Some c.double_key_in-one.result.now) (Some c.double_key_in-two.result.now) (g.E.Entropy.left c.args.entropy.now) (g.E.Entropy.left c.draw.new.entropy) d) c.in-Ok-Keys.field-0-is (c.in-Ok-Keys.ensures.drawn v broken.ensures) in
      let drawn = made.1.draw.drawn in
      let makes = λ (one two : KeyType) (n : Length) (a b : ClearKey). IsShown (Show (Hex (codes "token1") (external_token a.key (generated_key one n drawn))
      ∷ Hex (codes "token2") (external_token b.key (generated_key two n drawn)) ∷ [])) c.show_keys.new.reply in
      let before = source c.args.entropy.now (g.E.Entropy.left c.args.entropy.now) (g.E.Entropy.faults c.args.entropy.now) in
      let now = source c.draw.new.entropy (g.E.Entropy.left c.draw.new.entropy) (g.E.Entropy.faults c.draw.new.entropy) in
      drawn_left {request = request} {before = before} {now = now} (ap KeyBytes (sym c.key_length_of-length.ensures))
      (λ s. two_verdict c.args.first c.args.second c.args.length.now key_length c.key_length_of-length.ensures)
      c.draw.ensures.fault (λ some. c.draw.ensures.untouched (some_broken v broken.result broken.ensures some))
      (keys_within c.args.lease.now c.draw.new.lease c.draw.ensures.stays)
      c.in-Ok-Keys.is made.0 made.1.draw
      (λ s is.
      let one = generated_key c.args.first key_length drawn in
      let two = generated_key c.args.second key_length drawn in
      let key : key_in_field s request (codes "transport1") ≡ out =
      key_is bench (key_in_text s transport1) c.args.granted.now.first c.double_key_in-one.result.now is.grants.0 c.double_key_in-one.ensures.key.is c.double_key_in-one.ensures.key.under in
      let second : key_in_field s request (codes "transport2") ≡ other =
      key_is bench (key_in_text s transport2) c.args.granted.now.second c.double_key_in-two.result.now is.grants.1 c.double_key_in-two.ensures.key.is c.double_key_in-two.ensures.key.under in
      let tokens : c.in-Ok-Keys.keys ≡ record { first = external_token out.key one; second = Some (external_token other.key two) } =
      made.1.tokens s.registers is.loaded ∙ (ap (λ (f : Form). generated_tokens s.registers f out.key other.key one two) c.out_form_of.ensures ∙ out_tokens s.registers text out.key other.key one two) in
      subst (λ (k : ClearKey). makes (type_in (type_name c.args.first)) (type_in (type_name c.args.second)) length k (key_in_field s request (codes "transport2"))) (sym key)
      (subst (λ (k : ClearKey). makes (type_in (type_name c.args.first)) (type_in (type_name c.args.second)) length out k) (sym second)
      (subst (λ (k : KeyType). makes (type_in (type_name c.args.first)) k length out other) (sym (type_is c.args.second))
      (subst (λ (k : KeyType). makes k c.args.second length out other) (sym (type_is c.args.first))
      (subst (λ (n : Length). makes c.args.first c.args.second n out other) c.key_length_of-length.ensures (record {
        fields = _;
        is = refl;
        reply_is = c.show_keys.ensures.is ∙ ap (λ (k : Generated). written (Hex (codes "token1") k.first ∷ token2_fields k.second)) tokens;
      }))))))
      (λ shaped. c.show_keys.ensures.size) (λ writes. absurd writes) (λ through. absurd through);
}

pub returns-in-Ok-Refused : goal.returns-in-Ok-Refused
returns-in-Ok-Refused g c = record {
  settles = λ role transport1 transport2 rows.
      let key_length = c.key_length_of-length.result in
      let v = first_refusal (pair_questions c.args.first c.args.second key_length) in
      let broken = c.judge_two-broken in
      let request = asked CsnbkgnOut (role ∷ c.args.form.now ∷ c.args.length.now ∷ type_name c.args.first ∷ type_name c.args.second ∷ transport1 ∷ transport2 ∷ []) in
      let before = source c.args.entropy.now (g.E.Entropy.left c.args.entropy.now) (g.E.Entropy.faults c.args.entropy.now) in
      let now = source c.draw.new.entropy (g.E.Entropy.left c.draw.new.entropy) (g.E.Entropy.faults c.draw.new.entropy) in
      drawn_refused {request = request} {before = before} {now = now} (ap KeyBytes (sym c.key_length_of-length.ensures))
      (λ s. two_verdict c.args.first c.args.second c.args.length.now key_length c.key_length_of-length.ensures)
      c.draw.ensures.fault (λ some. c.draw.ensures.untouched (some_broken v broken.result broken.ensures some))
      (keys_within c.args.lease.now c.draw.new.lease c.draw.ensures.stays)
      c.in-Ok-Refused.is
      (subst (λ (d : Drawn). MakesKeys v c.args.held.now (bench_of c.args.lease.now) c.out_form_of.result key_length c.args.first c.args.second (Some c.double_key_in-one.result.now) (Some c.double_key_in-two.result.now) (g.E.Entropy.left c.args.entropy.now) (g.E.Entropy.left c.draw.new.entropy) d) c.in-Ok-Refused.field-0-is (c.in-Ok-Refused.ensures.drawn v broken.ensures))
      c.requires.empty;
}

pub returns-in-Err : goal.returns-in-Err
returns-in-Err g c = record {
  settles = λ role transport1 transport2 rows.
      let key_length = c.key_length_of-length.result in
      let v = first_refusal (pair_questions c.args.first c.args.second key_length) in
      let broken = c.judge_two-broken in
      let request = asked CsnbkgnOut (role ∷ c.args.form.now ∷ c.args.length.now ∷ type_name c.args.first ∷ type_name c.args.second ∷ transport1 ∷ transport2 ∷ []) in
      let before = source c.args.entropy.now (g.E.Entropy.left c.args.entropy.now) (g.E.Entropy.faults c.args.entropy.now) in
      let now = source c.draw.new.entropy (g.E.Entropy.left c.draw.new.entropy) (g.E.Entropy.faults c.draw.new.entropy) in
      drawn_stopped {request = request} {before = before} {now = now} (ap KeyBytes (sym c.key_length_of-length.ensures))
      (λ s. two_verdict c.args.first c.args.second c.args.length.now key_length c.key_length_of-length.ensures)
      c.draw.ensures.fault (λ some. c.draw.ensures.untouched (some_broken v broken.result broken.ensures some))
      (keys_within c.args.lease.now c.draw.new.lease c.draw.ensures.stays)
      c.in-Err.is c.in-Err.ensures.stops (none_broken v broken.result broken.ensures c.in-Err.ensures.permitted) c.requires.empty;
}
