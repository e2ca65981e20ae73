use Rattle.cca_laws.proofs.PointLaws.{no_role, no_point, roles_over, registers_over, labels_over, nobody_over}
use Rattle.cca_laws.proofs.points.no_point_no_effect.Goals as goal

pub returns-clause-no_role : goal.returns-clause-no_role
returns-clause-no_role c = no_role

pub returns-clause-no_point : goal.returns-clause-no_point
returns-clause-no_point c = no_point

pub returns-clause-roles : goal.returns-clause-roles
returns-clause-roles c = roles_over

pub returns-clause-registers : goal.returns-clause-registers
returns-clause-registers c = registers_over

pub returns-clause-labels : goal.returns-clause-labels
returns-clause-labels c = labels_over

pub returns-clause-nobody : goal.returns-clause-nobody
returns-clause-nobody c = nobody_over
