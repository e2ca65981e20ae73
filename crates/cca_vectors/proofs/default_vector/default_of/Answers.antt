use Rattle.std.proofs.Common.{◌≡◌, ◌∙◌, Some, sym, subst}
use Rattle.std.specs.Prelude.{IfSome}
use Rattle.cca_vectors.specs.DefaultVectors.{default_for, size_of}
use Rattle.cca_vectors.specs.Vectors.{length_of}
use Rattle.cca_vectors.proofs.DefaultLemmas.{Passes, accepted, default_for_length, default_for_passes}
use Rattle.cca_vectors.proofs.default_vector.default_of.Goals as goal

pub returns-in-Some-clause-vector : goal.returns-in-Some-clause-vector
returns-in-Some-clause-vector c =
    let found : default_for c.args.kind c.args.length ≡ Some c.in-Some.bytes = sym c.bytes_for.ensures ∙ c.in-Some.is in
    let passes : Passes (size_of c.args.length) c.in-Some.bytes = subst (λ o. IfSome o (Passes (size_of c.args.length))) found (default_for_passes c.args.kind c.args.length) in
    c.ok.ensures.value ∙ accepted c.in-Some.bytes passes.none c.vector_of.result c.vector_of.ensures.vector c.vector_of.ensures.refused ∙ sym found

pub returns-in-Some-clause-length : goal.returns-in-Some-clause-length
returns-in-Some-clause-length c =
    subst (λ o. IfSome o (λ vector. length_of vector ≡ size_of c.args.length)) (sym (returns-in-Some-clause-vector c)) (default_for_length c.args.kind c.args.length)
