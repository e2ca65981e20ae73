use Rattle.std.proofs.Common.{sym, subst}
use Rattle.cca_roles.specs.Points.{ArePoints}
use Rattle.cca_roles.proofs.PointLaws.{points_union}
use Rattle.cca_roles.proofs.access_points.AccessPoints.union.Goals as goal

pub invariant_of-result : goal.invariant_of-result
invariant_of-result c = subst ArePoints (sym (c.union.ensures tt)) (points_union c.self.inside.points.0 c.other.inside.points.0 c.self.invariant c.other.invariant)
