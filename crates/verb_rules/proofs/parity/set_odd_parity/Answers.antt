use Rattle.verb_rules.specs.Parity.{odd_byte}
use Rattle.verb_rules.proofs.ParityLemmas.{mapped_more}
use Rattle.verb_rules.proofs.parity.set_odd_parity.Goals as goal

pub loop-byte-preserved : goal.loop-byte-preserved
loop-byte-preserved c =
    mapped_more odd_byte c.args.bytes.now c.loop-byte.bytes c.loop-byte.byte-index c.odd.result c.loop-byte-test.true c.loop-byte.invariant c.odd.ensures.value
