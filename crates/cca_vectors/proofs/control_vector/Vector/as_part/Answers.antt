use Rattle.std.proofs.Common.{◌≡◌, ◌∙◌, ◌++◌, sym, ap, subst}
use Rattle.cca_vectors.specs.PartVectors.{as_part, part_half}
use Rattle.cca_vectors.specs.Vectors.{IsValid, left_of, length_of}
use Rattle.cca_vectors.proofs.PartLemmas.{part_length, part_valid}
use Rattle.cca_vectors.proofs.control_vector.Vector.as_part.Goals as goal

part_is : (c : goal.After-joined) → c.joined.result ≡ as_part c.self.inside.bytes
part_is c =
    c.joined.ensures
    ∙ (ap (λ l. l ++ c.part_half-right.result) (c.part_half-left.ensures ∙ ap part_half c.left_half.ensures)
    ∙ ap (λ r. part_half (left_of c.self.inside.bytes) ++ r) (c.part_half-right.ensures ∙ ap part_half c.right_half.ensures))

pub invariant_of-result : goal.invariant_of-result
invariant_of-result c = subst IsValid (sym (part_is c)) (part_valid c.self.inside.bytes c.self.invariant)

pub returns-clause-length : goal.returns-clause-length
returns-clause-length c =
    ap length_of (part_is c) ∙ (part_length c.self.inside.bytes c.self.invariant ∙ ap length_of c.self.view_is)

pub returns-clause-valid : goal.returns-clause-valid
returns-clause-valid c = subst IsValid (sym (part_is c)) (part_valid c.self.inside.bytes c.self.invariant)
