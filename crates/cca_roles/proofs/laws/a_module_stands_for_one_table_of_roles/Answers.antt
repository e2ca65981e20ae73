use Rattle.std.proofs.Common.{sym, ◌∙◌}
use Rattle.cca_roles.proofs.StandLaws.{stands_one, stands_undamaged}
use Rattle.cca_roles.proofs.TotalLaws.{stands_or_damaged}
use Rattle.cca_roles.proofs.laws.a_module_stands_for_one_table_of_roles.Goals as goal

pub returns-clause-one : goal.returns-clause-one
returns-clause-one c image s t first second = stands_one image s first ∙ sym (stands_one image t second)

pub returns-clause-sound : goal.returns-clause-sound
returns-clause-sound c image s cell stands damaged = stands_undamaged image s damaged.place stands damaged.within damaged.damaged

pub returns-clause-whole : goal.returns-clause-whole
returns-clause-whole c = stands_or_damaged
