use Rattle.std.proofs.Common.{◌≡◌, ◌++◌, take, drop, map}
use Rattle.verb_rules.specs.Parity.{odd_byte}
use Rattle.verb_rules.proofs.parity.set_odd_parity.Given as goal

abbrev pub invariant-loop-byte : goal.invariant-loop-byte
invariant-loop-byte l = l.bytes ≡ map odd_byte (take l.byte-index l.fn.bytes) ++ drop l.byte-index l.fn.bytes
