-- The name is none of the places before.
use Rattle.std.proofs.Common.{◌≡◌, drop}
use Rattle.cca_roles.specs.Directory.{place_from}
use Rattle.cca_roles.specs.Roles.{names}
use Rattle.cca_roles.proofs.roles.find_in.Given as goal

abbrev pub invariant-loop-place : goal.invariant-loop-place
invariant-loop-place l = place_from l.place l.name (drop l.place (names l.places)) ≡ place_from 0 l.name (names l.places)
