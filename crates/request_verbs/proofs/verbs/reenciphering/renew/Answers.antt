use Rattle.std.proofs.Common.{◌≡◌, refl}
use Rattle.record_bodies.specs.declared.actions.StoreAction.TheVariants.{Ahead, Renew}
use Rattle.cca_machine.proofs.Settling.{left_settles}
use Rattle.request_verbs.proofs.verbs.reenciphering.renew.Goals as goal

-- the action isn't the one for the new master key
not_ahead : Renew ≡ Ahead → ⊥
not_ahead is = cc is

pub returns : goal.returns
returns c = record {
  settles = λ role granted held rows lease current loaded.
      left_settles refl refl (λ s is. (refl, refl, refl)) (refl, current, λ is. absurd (not_ahead is)) (λ writes. refl) (λ through. refl);
}
