-- The bytes before `at` are combined, and the rest is as before.
use Rattle.key_cells.proofs.ByteLemmas.{IsCombined}
use Rattle.key_cells.proofs.combining.xor.Given as goal

abbrev pub invariant-loop-at : goal.invariant-loop-at
invariant-loop-at l = IsCombined l.initial.into l.other l.into l.at
