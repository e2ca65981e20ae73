-- The bytes before `at` are combined, and the rest is as before.
use Rattle.key_cells.specs.Secret.{bytes_of}
use Rattle.key_cells.proofs.ByteLemmas.{IsCombined}
use Rattle.master_registers.proofs.combining.xor_secret.Given as goal

abbrev pub invariant-loop-at : goal.invariant-loop-at
invariant-loop-at g l = IsCombined l.initial.into (bytes_of l.secret) l.into l.at
