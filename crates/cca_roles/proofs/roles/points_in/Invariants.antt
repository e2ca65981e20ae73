-- The name is none of the places before.
use Rattle.std.proofs.Common.{◌≡◌, drop}
use Rattle.cca_roles.specs.Roles.{points_of}
use Rattle.cca_roles.proofs.roles.points_in.Given as goal

abbrev pub invariant-loop-place : goal.invariant-loop-place
invariant-loop-place l = points_of l.name (drop l.place l.places) ≡ points_of l.name l.places
