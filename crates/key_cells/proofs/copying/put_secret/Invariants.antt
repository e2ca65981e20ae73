-- The bytes that were put so far.
use Rattle.std.proofs.Common.{◌≡◌, ◌+◌, ◌++◌, take, drop}
use Rattle.key_cells.specs.Secret.{bytes_of}
use Rattle.key_cells.proofs.copying.put_secret.Given as goal

abbrev pub invariant-loop-byte : goal.invariant-loop-byte
invariant-loop-byte g l = l.into ≡ take l.at l.initial.into ++ take l.byte (bytes_of l.secret) ++ drop (l.at + l.byte) l.initial.into
