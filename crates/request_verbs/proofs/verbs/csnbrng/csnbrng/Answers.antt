use Rattle.std.proofs.Common.{[], ◌∷◌, ◌∙◌, codes, refl, sym, ap, rules, true≢false}
use Rattle.cipher_verbs.specs.RandomBytes.{in_form}
use Rattle.line_service.specs.Replies.{Hex, written}
use Rattle.request_verbs.proofs.Fields.{one_hex}
use Rattle.cca_machine.proofs.Settling.{stopped_decides, takes_drawn, takes_failed}
use Rattle.request_verbs.proofs.verbs.csnbrng.csnbrng.Goals as goal

pub returns-in-Ok : goal.returns-in-Ok
returns-in-Ok g c = record {
  settles = λ role granted held rows lease.
      let drawn = c.in-Ok.ensures.drawn in
      record {
        decided = λ shaped. record {
          decides = λ s is. record {
            drawn = drawn.drawn;
            decided = (
              refl,
              record {
                fields = _;
                is = refl;
                reply_is = one_hex (codes "random") c.in-Ok.bytes c.args.reply.now c.ok.new.self c.hex.new.self c.requires.empty c.ok.ensures.bytes c.hex.ensures.bytes
                    ∙ ap (λ b. written (Hex (codes "random") b ∷ [])) (drawn.formed ∙ ap (λ f. in_form f drawn.drawn) c.random_form_of.ensures);
              },
            );
            random = record { consumed = drawn.consumed; size = drawn.size };
          };
          ready = search rules;
          named = λ writes. absurd writes;
          through = λ through. absurd through;
          silent = tt;
          stops = tt;
        };
        takes = takes_drawn c.in-Ok.ensures.cause.quiet (λ s refused. absurd (true≢false (sym refused))) refl;
        places = refl;
      };
}

pub returns-in-Err : goal.returns-in-Err
returns-in-Err g c = record {
  settles = λ role granted held rows lease. record {
    decided = λ shaped. stopped_decides (λ s. refl) refl c.requires.empty;
    takes = takes_failed c.random_number.ensures.cause.later c.in-Err.ensures.cause.failed (λ s refused. absurd (true≢false (sym refused))) refl;
    places = refl;
  };
}
