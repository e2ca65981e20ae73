use Rattle.std.proofs.Common.{ℕ, replicate, ap, ◌∙◌}
use Rattle.record_bodies.proofs.BodyLaws.{blank_is}
use Rattle.record_bodies.proofs.bodies.write_blank.Goals as goal

pub returns : goal.returns
returns c = blank_is c.fill.new.self (c.fill.ensures.after (λ y is. is) ∙ ap (λ (n : ℕ). replicate n 0) c.told-body)
