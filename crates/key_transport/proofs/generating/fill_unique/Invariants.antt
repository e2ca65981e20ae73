use Rattle.std.proofs.Common.{◌≡◌, ◌-◌}
use Rattle.key_transport.proofs.HalfLemmas.{HaveDrawn}
use Rattle.key_transport.proofs.generating.fill_unique.Given as goal

abbrev pub invariant-loop-again : goal.invariant-loop-again
invariant-loop-again g l = record {
  drawn : HaveDrawn (l._again - 1) (g.E.Entropy.left l.fn.entropy) (g.E.Entropy.left l.entropy) l.key;
  quiet : g.E.Entropy.faults l.entropy ≡ g.E.Entropy.faults l.fn.entropy;
}
