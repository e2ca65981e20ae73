use Rattle.std.proofs.Common.{◌≡◌, ◌∙◌, [], ◌∷◌, None, codes, sym, refl, ap, rules}
use Rattle.std.specs.Prelude.{◌≢◌, ◌≤◌, length}
use Rattle.key_cells.specs.Lease.{bench_of}
use Rattle.key_tokens.specs.Denotes.{ClearKey}
use Rattle.key_transport.specs.Tokens.{changed_token}
use Rattle.key_transport.specs.declared.changing.Target.{Target}
use Rattle.key_transport.specs.declared.changing.Target.TheVariants.{New}
use Rattle.master_registers.specs.Masters.{Masters}
use Rattle.master_registers.specs.declared.registers.NewState.TheVariants as state
use Rattle.line_service.specs.Replies.{Hex, written}
use Rattle.verb_rules.specs.Keys.{opened}
use Rattle.verb_script.specs.Values.{hex_value}
use Rattle.verb_script.specs.declared.rows.RequestName.TheVariants.{Csnbktc}
use Rattle.cca_machine.specs.Choices.{target_named}
use Rattle.cca_machine.specs.Keys.{key_of_token, or_no_key}
use Rattle.cca_machine.specs.Decided.{asked}
use Rattle.cca_machine.specs.declared.effects.Effect.TheVariants as code
use Rattle.cca_machine.proofs.Acting.{key_is, shows_or}
use Rattle.request_verbs.proofs.Changing.{change_permitted, change_refused}
use Rattle.request_verbs.proofs.Fields.{one_hex}
use Rattle.cca_machine.proofs.Settling.{key_within, settles, whole_settles}
use Rattle.request_verbs.proofs.verbs.csnbktc.csnbktc.Goals as goal

pub returns-then-ne : goal.returns-then-ne
returns-then-ne c =
    let new : c.target_of-target.result ≡ New = search rules in
    let other : c.args.held.now.new_state ≢ state.Full = search rules in
    record {
      settles = λ role token rows.
          whole_settles c.of_request.ensures refl refl
          (λ s is. change_refused s c.args.held.now (bench_of c.args.lease.now) (target_named c.args.rule.now) is.loaded (sym c.target_of-target.ensures ∙ new) other)
          c.requires.empty;
    }

pub returns : goal.returns
returns c =
    let bench = bench_of c.args.lease.now in
    let target = target_named c.args.rule.now in
    let judged = c.key_in.result.now in
    let named = c.target_of-target.ensures in
    let full : c.target_of-target.result ≡ New → c.args.held.now.new_state ≡ state.Full = search rules in
    let short : length c.hex.new.self ≤ 69000 = search rules in
    record {
      settles = λ role token rows.
          let fields = λ (m : Masters) (t : Target) (k : ClearKey). Hex (codes "token") (changed_token m t k) ∷ [] in
          let shown = one_hex (codes "token") c.token_change-changed.result c.args.reply.now c.ok.new.self c.hex.new.self c.requires.empty c.ok.ensures.bytes c.hex.ensures.bytes in
          settles (key_within c.args.lease.now c.token_change-changed.new.lease c.token_change-changed.ensures.stays)
          (λ shaped s is left.
          let key = (or_no_key (key_of_token s (hex_value token))).clear in
          let same : key ≡ opened bench judged =
          key_is bench (key_of_token s (hex_value token)) c.args.granted.now.first judged is.grants.0 c.key_in.ensures.is c.key_in.ensures.under in
          shows_or s (bench_of c.token_change-changed.new.lease) (asked Csnbktc (role ∷ c.args.rule.now ∷ token ∷ [])) None (fields s.registers target key) code.Shown c.hex.new.self left refl
          (change_permitted s c.args.held.now bench target is.loaded (λ new. full (named ∙ new))) refl (
            refl,
            record {
              is = shown ∙ (ap (λ t. written (Hex (codes "token") t ∷ [])) (c.token_change-changed.ensures.token s.registers is.loaded)
                  ∙ (ap (λ (t : Target). written (fields s.registers t (opened bench judged))) named
                  ∙ ap (λ (k : ClearKey). written (fields s.registers target k)) (sym same)));
              size = short;
            },
          ))
          (λ shaped. short) (λ writes. absurd writes) (λ through. absurd through);
    }
