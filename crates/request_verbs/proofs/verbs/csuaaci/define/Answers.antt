use Rattle.std.proofs.Common.{refl, ap}
use Rattle.cca_machine.specs.Act.{DefineRole}
use Rattle.request_verbs.proofs.Points.{same_points}
use Rattle.cca_machine.proofs.Settling.{left_settles}
use Rattle.request_verbs.proofs.verbs.csuaaci.define.Goals as goal

pub returns : goal.returns
returns c = record {
  settles = λ role action granted held rows lease.
      left_settles refl refl (λ s is. (refl, ap (DefineRole c.args.name.now) (same_points c.args.points.now c.bits-number.ensures.known), refl)) refl (λ writes. absurd writes) (λ through. absurd through);
}
