use Rattle.std.proofs.Common.{ℕ, replicate, sym, ap, ◌∙◌}
use Rattle.record_bodies.specs.RecordBody.{blank_body}
use Rattle.record_bodies.proofs.bodies.is_blank.Goals as goal

pub returns : goal.returns
unfolding blank_body
returns c = (
  λ yes. c.is_zero.ensures.zero.0 yes ∙ ap (λ (n : ℕ). replicate n 0) c.told-body,
  λ is. c.is_zero.ensures.zero.1 (is ∙ ap (λ (n : ℕ). replicate n 0) (sym c.told-body)),
)
