use Rattle.std.proofs.Common.{◌<◌, sym, arith}
use Rattle.key_transport.proofs.HalfLemmas.{key_apart, key_same}
use Rattle.key_transport.proofs.generating.has_same_halves.Goals as goal

pub returns-then-key-i : goal.returns-then-key-i
returns-then-key-i c = sym (key_apart c.args.key.now c.loop-i.i c.told-key c.loop-i-test.true c.if-key-i.true)

pub returns : goal.returns
returns c =
    sym (key_same c.args.key.now c.told-key (λ k below. let within : k < c.loop-i.i = omega arith in c.loop-i.invariant k within))
