use Rattle.std.proofs.Common.{◌∙◌, refl, sym}
use Rattle.key_cells.specs.Lease.{bench_of}
use Rattle.request_verbs.proofs.Delivering.{held_at}
use Rattle.cca_machine.proofs.Settling.{settles}
use Rattle.cca_machine.proofs.Acting.{decides}
use Rattle.cca_machine.specs.Decided.{asked}
use Rattle.verb_script.specs.declared.rows.RequestName.TheVariants.{Csnbkrd}
use Rattle.std.proofs.Common.{[], ◌∷◌}
use Rattle.cca_machine.specs.declared.effects.Effect.TheVariants as code
use Rattle.request_verbs.proofs.verbs.csnbkrd.csnbkrd.Goals as goal

pub returns : goal.returns
returns c = record {
  settles = λ role label held rows lease.
      let place = c.place_in.result in
      settles refl
      (λ shaped s is left. decides s (bench_of lease) (asked Csnbkrd (role ∷ label ∷ [])) (code.Delete place) [] left refl
      (refl, record { label = label; is = refl; placed = sym is.grants.0.0 ∙ c.place_in.ensures }, refl))
      (λ shaped. (refl, held_at rows label c.args.granted.now.first place shaped.0 c.place_in.ensures))
      (λ writes. refl) (λ through. absurd through);
}
