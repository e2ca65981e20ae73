use Rattle.std.proofs.Common.{refl, sym, subst, ◌∙◌}
use Rattle.cca_roles.specs.Points.{ArePoints}
use Rattle.cca_roles.proofs.PointLaws.{known_points}
use Rattle.cca_roles.proofs.access_points.AccessPoints.all.Goals as goal

pub returns : goal.returns
returns c = c.all.ensures tt ∙ known_points

pub invariant_of-result : goal.invariant_of-result
invariant_of-result c = subst ArePoints (sym (c.all.ensures tt ∙ known_points)) refl
