-- The memory knows the roles of the places before, and no others.
use Rattle.std.proofs.Common.{◌≡◌}
use Rattle.device_cells.specs.Medium.{Told, Keeps}
use Rattle.cca_roles.specs.Changes.{KeepsAllButBody}
use Rattle.cca_roles.specs.Opening.{OpenedTo}
use Rattle.cca_roles.specs.Roles.{AreRoles}
use Rattle.cca_roles.proofs.opening.open_roles.Given as goal

abbrev pub invariant-loop-place : goal.invariant-loop-place
invariant-loop-place g l = record {
  opened : Told (g.M.Disk.medium l.fn.«module») (λ image. OpenedTo image l.place l.opened);
  roles : AreRoles l.opened;
  keeps : Keeps (g.M.Disk.medium l.fn.«module») (g.M.Disk.medium l.«module»);
  quiet : g.M.Disk.faults l.«module» ≡ g.M.Disk.faults l.fn.«module»;
  rest : KeepsAllButBody l.fn.lease l.lease;
}
