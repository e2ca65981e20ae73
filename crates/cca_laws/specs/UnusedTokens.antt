-- Two states that differ in tokens that records no longer use, and in nothing else.
use Rattle.std.specs.Prelude.{◌≡◌, Option, None, Some, map}
use Rattle.record_bodies.specs.Entries.{Entry}
use Rattle.cca_machine.specs.State.{State}

-- a label without the token that it doesn't use
abbrev pub without_unused : Option Entry → Option Entry
without_unused None = None
without_unused (Some e) = Some (record e { unused = None })

-- the same registers, the same roles, and the same labels but for unused tokens
pub record SameButUnused (s t : State) : Type 0 where
  pub registers : s.registers ≡ t.registers
  pub roles : s.roles ≡ t.roles
  pub labels : map without_unused s.labels ≡ map without_unused t.labels
