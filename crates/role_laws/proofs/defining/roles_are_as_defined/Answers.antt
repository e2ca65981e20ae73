use Rattle.role_laws.proofs.Requests.{refused}
use Rattle.role_laws.proofs.RoleLaws.{defined, others, removed, table}
use Rattle.role_laws.proofs.defining.roles_are_as_defined.Goals as goal

pub returns-clause-defined : goal.returns-clause-defined
returns-clause-defined c = defined

pub returns-clause-removed : goal.returns-clause-removed
returns-clause-removed c = removed

pub returns-clause-others : goal.returns-clause-others
returns-clause-others c = others

pub returns-clause-refused : goal.returns-clause-refused
returns-clause-refused c = refused

pub returns-clause-table : goal.returns-clause-table
returns-clause-table c = table
