use Rattle.std.proofs.Common.{◌≡◌, Some, subst, ◌↔◌, sym}
use Rattle.cca_vectors.specs.KeyTypes.{type_name}
use Rattle.cca_vectors.proofs.TypeLemmas.{names_type}
use Rattle.cca_vectors.proofs.key_type.KeyType.read.Goals as goal

pub returns-clause-named : goal.returns-clause-named
returns-clause-named c = λ kind.
    subst (λ o. (o ≡ Some kind) ↔ (c.args.text.now ≡ type_name kind)) (sym c.type_named.ensures) (names_type c.args.text.now kind)
