-- A session stops as its lines do, and names no cell that a disk hasn't.
use Rattle.cca_tool.proofs.StopLemmas.{stops_in}
use Rattle.cca_tool.proofs.session.Session.serve.Goals as goal

pub returns-clause-ends : goal.returns-clause-ends
returns-clause-ends g c = c.serve.ensures.ends

pub returns-clause-stops : goal.returns-clause-stops
returns-clause-stops g c = stops_in c.serve.result c.serve.ensures.ends.damage.cells
