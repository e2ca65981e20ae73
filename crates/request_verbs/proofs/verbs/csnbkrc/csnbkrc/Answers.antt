use Rattle.std.proofs.Common.{[], ◌∷◌, ℕ, List, refl, subst, sym}
use Rattle.verb_script.specs.declared.rows.RequestName.TheVariants.{Csnbkrc}
use Rattle.cca_machine.specs.Decided.{Settles, asked}
use Rattle.cca_machine.specs.declared.effects.Effect.TheVariants as code
use Rattle.cca_machine.proofs.Settling.{left_settles}
use Rattle.request_verbs.proofs.verbs.csnbkrc.csnbkrc.Goals as goal

pub returns : goal.returns
returns c = record {
  settles = λ role granted held rows lease.
      subst (λ (label : List ℕ). Settles (asked Csnbkrc (role ∷ c.args.label.now ∷ [])) granted held rows lease lease (code.Create label) []) (sym c.of.ensures)
      (left_settles refl refl (λ s is. (refl, refl, refl)) refl (λ writes. refl) (λ through. absurd through));
}
