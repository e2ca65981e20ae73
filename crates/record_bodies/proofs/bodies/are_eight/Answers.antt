use Rattle.std.proofs.Common.{◌<◌, ℕ, subst}
use Rattle.std.proofs.lemmas.List.{get_or_default}
use Rattle.record_bodies.proofs.bodies.are_eight.Goals as goal

pub returns : goal.returns
returns c = record { size = c.told-bytes; each = λ k d inside. subst (λ (b : ℕ). b < 256) (get_or_default c.args.bytes.now k 0 d inside) (c.fits-bytes k) }
