use Rattle.cca_vectors.specs.Bits.{even_byte}
use Rattle.verb_rules.proofs.ParityLemmas.{mapped_more}
use Rattle.verb_rules.proofs.parity.set_even_parity.Goals as goal

pub loop-byte-preserved : goal.loop-byte-preserved
loop-byte-preserved c =
    mapped_more even_byte c.args.bytes.now c.loop-byte.bytes c.loop-byte.byte-index c.even.result c.loop-byte-test.true c.loop-byte.invariant c.even.ensures.value
