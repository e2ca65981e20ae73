use Rattle.cca_vectors.proofs.Validity.{even_byte_even}
use Rattle.verb_rules.proofs.parity.even.Goals as goal

pub returns-clause-even : goal.returns-clause-even
returns-clause-even c = even_byte_even c.args.byte c.ranges.byte.fits
