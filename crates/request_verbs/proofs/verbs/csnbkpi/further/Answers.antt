use Rattle.std.proofs.Common.{◌≡◌, ◌∙◌, [], ◌∷◌, Bool, false, codes, refl, sym, ap, subst}
use Rattle.std.specs.Prelude.{◌/◌, ◌||◌, is_some, length}
use Rattle.key_cells.specs.Lease.{bench_of}
use Rattle.key_cells.specs.declared.leases.Lease.{Lease}
use Rattle.key_parts.specs.Parts.{combined_key}
use Rattle.key_tokens.specs.Denotes.{ClearKey}
use Rattle.key_transport.specs.Tokens.{as_current}
use Rattle.master_registers.specs.Loaded.{masters_in}
use Rattle.verb_rules.specs.Keys.{opened}
use Rattle.verb_script.specs.declared.rows.RequestName.TheVariants.{CsnbkpiMiddle}
use Rattle.verb_script.specs.Values.{hex_value}
use Rattle.verb_script.specs.Named.{label_named}
use Rattle.cca_machine.specs.Act.{delivered}
use Rattle.cca_machine.specs.Choices.{is_last_part}
use Rattle.cca_machine.specs.Keys.{key_in_text, key_of_request}
use Rattle.cca_machine.specs.Verdict.{first_refusal, further_part_questions}
use Rattle.cca_machine.specs.Decided.{asked}
use Rattle.cca_machine.specs.Deciding.{IsDelivered}
use Rattle.cca_machine.specs.Refusals.{HasRefused}
use Rattle.cca_machine.proofs.Acting.{key_is}
use Rattle.request_verbs.proofs.Delivering.{either_left, either_right, stands_after, target_place}
use Rattle.cca_machine.proofs.Settling.{refused_settles}
use Rattle.request_verbs.proofs.Delivered.{delivery_settles}
use Rattle.request_verbs.proofs.verbs.csnbkpi.further.Goals as goal

pub returns-in-Some : goal.returns-in-Some
returns-in-Some c = record {
  settles = λ role key rows.
      let bench = bench_of c.args.lease.now in
      let request = asked CsnbkpiMiddle (role ∷ c.args.rule.now ∷ key ∷ c.args.part.now ∷ c.args.to.now ∷ []) in
      let judged = c.key_in-key.result.now in
      refused_settles refl refl
      (λ s is.
      let same : key_of_request s request ≡ opened bench judged =
      key_is bench (key_in_text s key) c.args.granted.now.first judged is.grants.0 c.key_in-key.ensures.is c.key_in-key.ensures.under in
      ap (λ (k : ClearKey). first_refusal (further_part_questions k.vector (length c.args.part.now / 2))) same ∙ c.in-Some.ensures.is)
      c.requires.delivers.empty c.in-Some.ensures.short;
}

pub returns : goal.returns
returns c = record {
  settles = λ role key rows.
      let held = c.args.held.now in
      let bench = bench_of c.args.lease.now in
      let named = label_named c.args.to.now in
      let part = hex_value c.args.part.now in
      let size = length c.args.part.now / 2 in
      let request = asked CsnbkpiMiddle (role ∷ c.args.rule.now ∷ key ∷ c.args.part.now ∷ c.args.to.now ∷ []) in
      let judged = c.key_in-key.result.now in
      let none = subst (HasRefused (first_refusal (further_part_questions judged.token.vector size))) c.in_default.is c.judge.ensures in
      let kept : masters_in held (bench_of c.combined_token-token.new.lease) ≡ masters_in held (bench_of c.args.lease.now) = ap (λ (l : Lease). masters_in held (bench_of l)) c.combined_token-token.ensures.places in
      delivery_settles c.combined_token-token.ensures.places named c.args.granted.now.second.place c.combined_token-token.result refl
      (λ some. either_right (is_some (label_named key)) (is_some named || false) (either_left (is_some named) false some))
      (λ s is.
      let same : key_of_request s request ≡ opened bench judged =
      key_is bench (key_in_text s key) c.args.granted.now.first judged is.grants.0 c.key_in-key.ensures.is c.key_in-key.ensures.under in
      ap (λ (k : ClearKey). first_refusal (further_part_questions k.vector size)) same ∙ none)
      (λ s is.
      let same : key_of_request s request ≡ opened bench judged =
      key_is bench (key_in_text s key) c.args.granted.now.first judged is.grants.0 c.key_in-key.ensures.is c.key_in-key.ensures.under in
      let makes = λ (last : Bool) (k : ClearKey). IsDelivered s (delivered s (codes "token") named (as_current (combined_key last k part))) c.deliver.result c.deliver.new.reply in
      subst (makes (is_last_part c.args.rule.now)) (sym same)
      (subst (λ (last : Bool). makes last (opened bench judged)) c.is_last_part.ensures
      (c.deliver.ensures.delivered s (as_current (combined_key c.is_last_part.result (opened bench judged) part)) (c.combined_token-token.ensures.made s.registers is.loaded)
      (c.combined_token-token.ensures.stands s.registers is.loaded) is.grants.1.0)))
      (λ shaped. target_place rows named c.args.granted.now.second shaped.1)
      c.requires.delivers.target c.deliver.ensures.delivery
      (stands_after (bench_of c.combined_token-token.new.lease) c.combined_token-token.result kept c.requires.delivers.loaded c.combined_token-token.ensures.stands)
      c.deliver.ensures.size;
}
