use Rattle.verb_rules.proofs.ParityLemmas.{odd_byte_odd}
use Rattle.verb_rules.proofs.parity.odd.Goals as goal

pub returns-clause-odd : goal.returns-clause-odd
returns-clause-odd c = odd_byte_odd c.args.byte c.ranges.byte.fits
