-- What opening the disks leaves, and the stops of a session.
use Rattle.cca_tool.proofs.StopLemmas.{stops_in}
use Rattle.cca_tool.proofs.session.Session.begin.Goals as goal

pub returns-clause-known : goal.returns-clause-known
returns-clause-known g c = c.open.ensures.ready

pub returns-clause-left : goal.returns-clause-left
returns-clause-left g c = c.open.ensures.left

pub returns-clause-damage : goal.returns-clause-damage
returns-clause-damage g c = c.open.ensures.damage

pub returns-clause-stops : goal.returns-clause-stops
returns-clause-stops g c = stops_in c.open.result c.open.ensures.damage.cells

pub returns-clause-opening : goal.returns-clause-opening
returns-clause-opening g c = c.open.ensures.stops

pub returns-clause-bench : goal.returns-clause-bench
returns-clause-bench g c = c.open.ensures.bench

pub open-requires-clause-disks : goal.open-requires-clause-disks
open-requires-clause-disks g c = c.requires
