-- What the row shows of its key, which computes.
use Rattle.std.proofs.Common.{List, [], ◌∷◌, ℕ, None, codes, refl, rules}
use Rattle.cipher_verbs.specs.CipherTexts.{test_value}
use Rattle.line_service.specs.Replies.{Hex}
use Rattle.verb_script.specs.declared.rows.RequestName.TheVariants.{Csnbkyt}
use Rattle.cca_machine.specs.Decided.{asked}
use Rattle.cca_machine.proofs.KeyedVerbs.{IsKeyed}
use Rattle.cca_machine.proofs.Settling.{keyed_settles}
use Rattle.request_verbs.proofs.verbs.csnbkyt.csnbkyt.Goals as goal

keyed : (role key : List ℕ) → IsKeyed (asked Csnbkyt (role ∷ key ∷ [])) (λ k. None) (λ k. Hex (codes "value") (test_value k) ∷ [])
keyed role key = record { undrawn = refl; has = λ s bench g is. is.0; verdict = λ s. refl; makes = λ s. refl }

pub returns : goal.returns
returns c = record {
  settles = λ role key held rows.
      keyed_settles (keyed role key) c.key_in.ensures.is c.key_in.ensures.under (search rules);
}
