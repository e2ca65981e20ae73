use Rattle.std.proofs.Common.{refl, sym, ap, subst, ◌∙◌, true≢false}
use Rattle.std.specs.Int.RustNames.{bit_and}
use Rattle.cca_roles.specs.Points.{ArePoints}
use Rattle.cca_roles.proofs.PointLaws.{known_points, points_kept, are_kept}
use Rattle.cca_roles.proofs.access_points.AccessPoints.from_bits.Goals as goal

pub returns-in-Some-clause-known : goal.returns-in-Some-clause-known
returns-in-Some-clause-known c = (
  λ _. are_kept c.args.bits (ap (bit_and c.args.bits) (sym known_points) ∙ (c.in-Some.ensures.known tt).0 refl),
  λ _. refl,
)

pub invariant_of-result : goal.invariant_of-result
invariant_of-result c = subst ArePoints (sym (c.in-Some.ensures.value tt)) ((returns-in-Some-clause-known c).0 refl)

pub returns-in-None-clause-known : goal.returns-in-None-clause-known
returns-in-None-clause-known c = (
  λ none. absurd (true≢false (sym none)),
  λ are. (c.in-None.ensures.known tt).1 (ap (bit_and c.args.bits) known_points ∙ points_kept c.args.bits are),
)
