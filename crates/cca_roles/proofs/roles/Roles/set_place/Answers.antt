use Rattle.cca_roles.proofs.TableLaws.{table_set}
use Rattle.cca_roles.proofs.roles.Roles.set_place.Goals as goal

pub invariant_of-self : goal.invariant_of-self
invariant_of-self c = table_set c.self.inside.places c.args.self.now c.args.place c.args.slot c.self.invariant c.self.view_is c.requires.first c.requires.apart

pub returns-clause-roles : goal.returns-clause-roles
returns-clause-roles c = table_set c.self.inside.places c.args.self.now c.args.place c.args.slot c.self.invariant c.self.view_is c.requires.first c.requires.apart
