-- Each place before holds a name.
use Rattle.std.proofs.Common.{◌≡◌, drop}
use Rattle.cca_roles.specs.Directory.{free_from}
use Rattle.cca_roles.specs.Roles.{names}
use Rattle.cca_roles.proofs.roles.free_in.Given as goal

abbrev pub invariant-loop-place : goal.invariant-loop-place
invariant-loop-place l = free_from l.place (drop l.place (names l.places)) ≡ free_from 0 (names l.places)
