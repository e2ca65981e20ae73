use Rattle.std.proofs.Common.{◌≡◌, ◌++◌, take, drop, map}
use Rattle.cca_vectors.specs.Bits.{even_byte}
use Rattle.verb_rules.proofs.parity.set_even_parity.Given as goal

abbrev pub invariant-loop-byte : goal.invariant-loop-byte
invariant-loop-byte l = l.bytes ≡ map even_byte (take l.byte-index l.fn.bytes) ++ drop l.byte-index l.fn.bytes
