use Rattle.std.proofs.Common.{refl}
use Rattle.cca_machine.proofs.Settling.{left_settles}
use Rattle.request_verbs.proofs.verbs.csuaaci.remove.Goals as goal

pub returns : goal.returns
returns c = record {
  settles = λ role action granted held rows lease.
      left_settles refl refl (λ s is. (refl, refl, refl)) (refl, c.requires.name) (λ writes. absurd writes) (λ through. absurd through);
}
