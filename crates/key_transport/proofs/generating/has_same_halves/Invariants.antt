use Rattle.std.proofs.Common.{◌≡◌, ℕ, ◌+◌, ◌/◌, ◌<◌, get_or}
use Rattle.key_transport.proofs.generating.has_same_halves.Given as goal

abbrev pub invariant-loop-i : goal.invariant-loop-i
invariant-loop-i l = (k : ℕ) → k < l.i → get_or l.key k 0 / 2 ≡ get_or l.key (8 + k) 0 / 2
