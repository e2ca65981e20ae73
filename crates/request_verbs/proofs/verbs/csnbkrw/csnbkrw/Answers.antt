use Rattle.std.proofs.Common.{◌≡◌, [], ◌∷◌, ℕ, List, Option, refl, sym, subst, ◌∙◌}
use Rattle.std.specs.Prelude.{IsSome}
use Rattle.std.proofs.lemmas.Option.{same_Some}
use Rattle.key_cells.specs.Lease.{bench_of}
use Rattle.key_tokens.specs.Denotes.{Denoted}
use Rattle.verb_rules.specs.declared.judging.Judged.{Judged}
use Rattle.cca_machine.specs.Keys.{key_of_token, or_no_key}
use Rattle.line_service.specs.Replies.{written}
use Rattle.verb_script.specs.declared.rows.RequestName.TheVariants.{Csnbkrw}
use Rattle.verb_script.specs.Values.{hex_value}
use Rattle.cca_machine.specs.Decided.{Settles, asked}
use Rattle.cca_machine.specs.declared.effects.Effect.TheVariants as code
use Rattle.request_verbs.proofs.Delivering.{held_at, no_fields_short}
use Rattle.request_verbs.proofs.Fields.{no_fields}
use Rattle.cca_machine.proofs.Settling.{settles}
use Rattle.cca_machine.proofs.Acting.{decides, opens, or_none_is}
use Rattle.request_verbs.proofs.verbs.csnbkrw.csnbkrw.Goals as goal

pub returns : goal.returns
returns c = record {
  settles = λ role label held rows lease keyed.
      let bench = bench_of lease in
      let place = c.place_in.result in
      let request = asked Csnbkrw (role ∷ label ∷ c.args.token.now ∷ []) in
      let effect = code.Write place (hex_value c.args.token.now) in
      subst (λ (token : List ℕ). Settles request c.args.granted.now held rows lease lease (code.Write place token) c.ok.new.self) (sym c.token_bytes.ensures)
      (subst (λ (reply : List ℕ). Settles request c.args.granted.now held rows lease lease effect reply) (sym (no_fields c.args.reply.now c.ok.new.self c.requires.empty c.ok.ensures.bytes))
      (settles refl
      (λ shaped s is left.
      let key = key_of_token s (hex_value c.args.token.now) in
      let has = is.grants.1 in
      let same : shaped.1.judged ≡ has.judged = same_Some shaped.1.judged has.judged (sym shaped.1.is ∙ has.is) in
      let under = subst (λ (j : Judged). IsSome j.age) same shaped.1.under in
      let some = subst (λ (k : Option Denoted). IsSome k) (sym has.key_is) (opens bench has.judged under) in
      decides s bench request effect (written []) left refl (
        refl,
        record {
          label = label;
          key = or_no_key key;
          fields = [];
          is = refl;
          placed = sym is.grants.0.0 ∙ c.place_in.ensures;
          stands = or_none_is key some;
          reply_is = refl;
        },
      ))
      (λ shaped. (held_at rows label c.args.granted.now.first place shaped.0 c.place_in.ensures, keyed, no_fields_short))
      (λ writes. refl) (λ through. absurd through)));
}
