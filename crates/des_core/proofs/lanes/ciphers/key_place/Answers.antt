use Rattle.std.proofs.Common.{◌∙◌, ◌-◌, refl, sym, true≢false}
use Rattle.des_blocks.proofs.GroupLemmas.{ordered-key}
use Rattle.des_core.proofs.lanes.ciphers.key_place.Goals as goal

pub returns-then-reversed-clause-key : goal.returns-then-reversed-clause-key
returns-then-reversed-clause-key c keys =
    sym (ordered-key c.args.reversed keys c.args.round (15 - c.args.round) c.requires (λ e. refl)
    (λ e. absurd (true≢false (sym c.if-reversed.true ∙ e))))

pub returns-else-reversed-clause-key : goal.returns-else-reversed-clause-key
returns-else-reversed-clause-key c keys =
    sym (ordered-key c.args.reversed keys c.args.round c.args.round c.requires
    (λ e. absurd (true≢false (sym e ∙ c.if-reversed.false))) (λ e. refl))
