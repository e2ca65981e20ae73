-- A request's row is computed.
use Rattle.cca_machine.proofs.TableLaws.{of_table}
use Rattle.cca_machine.proofs.tables.requests_need_points_of_the_table.Goals as goal

pub returns : goal.returns
returns c = of_table
