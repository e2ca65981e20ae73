use Rattle.std.proofs.Common.{ℕ, replicate, sym, ap, ◌∙◌}
use Rattle.record_bodies.specs.RecordBody.{no_token}
use Rattle.record_bodies.proofs.bodies.has_no_token.Goals as goal

pub returns : goal.returns
unfolding no_token
returns c = (
  λ yes. c.is_zero.ensures.zero.0 yes ∙ ap (λ (n : ℕ). replicate n 0) c.told-token,
  λ is. c.is_zero.ensures.zero.1 (is ∙ ap (λ (n : ℕ). replicate n 0) (sym c.told-token)),
)
