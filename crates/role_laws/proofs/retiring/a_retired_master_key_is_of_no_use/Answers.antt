use Rattle.role_laws.proofs.RetiredLaws.{labels, refused, retires, rule, unchanged}
use Rattle.role_laws.proofs.retiring.a_retired_master_key_is_of_no_use.Goals as goal

pub returns-clause-refused : goal.returns-clause-refused
returns-clause-refused c = refused

pub returns-clause-unchanged : goal.returns-clause-unchanged
returns-clause-unchanged c = unchanged

pub returns-clause-rule : goal.returns-clause-rule
returns-clause-rule c = rule

pub returns-clause-labels : goal.returns-clause-labels
returns-clause-labels c = labels

pub returns-clause-retires : goal.returns-clause-retires
returns-clause-retires c = retires
