use Rattle.std.proofs.Common.{◌≡◌, ◌∙◌, Some, sym, subst}
use Rattle.std.specs.Prelude.{IfSome}
use Rattle.cca_vectors.specs.DefaultVectors.{default_vector}
use Rattle.cca_vectors.specs.Vectors.{length_of}
use Rattle.cca_vectors.proofs.DefaultLemmas.{Passes, accepted, default_length, default_passes}
use Rattle.cca_vectors.proofs.default_vector.default_of_size.Goals as goal

pub returns-in-Some-clause-vector : goal.returns-in-Some-clause-vector
returns-in-Some-clause-vector c =
    let found : default_vector c.args.kind c.args.size ≡ Some c.in-Some.bytes = sym c.default_bytes.ensures ∙ c.in-Some.is in
    let passes : Passes c.args.size c.in-Some.bytes = subst (λ o. IfSome o (Passes c.args.size)) found (default_passes c.args.kind c.args.size) in
    c.ok.ensures.value ∙ accepted c.in-Some.bytes passes.none c.vector_of.result c.vector_of.ensures.vector c.vector_of.ensures.refused ∙ sym found

pub returns-in-Some-clause-length : goal.returns-in-Some-clause-length
returns-in-Some-clause-length c =
    subst (λ o. IfSome o (λ vector. length_of vector ≡ c.args.size)) (sym (returns-in-Some-clause-vector c)) (default_length c.args.kind c.args.size)
