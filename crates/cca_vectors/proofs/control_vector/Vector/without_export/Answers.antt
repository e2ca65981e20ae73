use Rattle.std.proofs.Common.{◌≡◌, ◌++◌, ℕ, List, true, false, sym, ap, subst, ◌∙◌}
use Rattle.key_cells.specs.Bytes.{is_zero}
use Rattle.cca_vectors.specs.Closing.{closed_half, closed_to_export}
use Rattle.cca_vectors.specs.Permissions.{is_exportable}
use Rattle.cca_vectors.specs.Vectors.{IsValid, left_of, length_of, right_of}
use Rattle.cca_vectors.proofs.ClosingLemmas.{closed_by_halves, closed_zero_valid, closing_length, closing_off, closing_valid}
use Rattle.cca_vectors.proofs.control_vector.Vector.without_export.Goals as goal

pub invariant_of-result-then-is_zero : goal.invariant_of-result-then-is_zero
invariant_of-result-then-is_zero c = closed_zero_valid

pub returns-then-is_zero-clause-valid : goal.returns-then-is_zero-clause-valid
returns-then-is_zero-clause-valid c = closed_zero_valid

-- halves that were closed
halves : (vector left right closed_left closed_right joined : List ℕ) → left ≡ left_of vector → right ≡ right_of vector
    → closed_left ≡ closed_half left → closed_right ≡ closed_half right → joined ≡ closed_left ++ closed_right
    → true ≡ is_exportable vector → false ≡ is_zero vector → joined ≡ closed_to_export vector
halves vector left right closed_left closed_right joined l r cl cr is ex z =
    is ∙ (ap (λ half. half ++ closed_right) (cl ∙ ap closed_half l)
    ∙ (ap (λ half. closed_half (left_of vector) ++ half) (cr ∙ ap closed_half r) ∙ closed_by_halves vector ex z))

closed_is : (c : goal.After-joined) → c.joined.result ≡ closed_to_export c.self.inside.bytes
closed_is c =
    let same : c.args.self.now ≡ c.self.inside.bytes = sym c.self.view_is in
    halves c.self.inside.bytes c.left_half.result c.right_half.result c.closed_half-left.result c.closed_half-right.result c.joined.result
    c.left_half.ensures c.right_half.ensures c.closed_half-left.ensures c.closed_half-right.ensures c.joined.ensures
    (c.if-not-exportable.ensures ∙ ap is_exportable same) c.if-is_zero.ensures.value

pub invariant_of-result-2 : goal.invariant_of-result-2
invariant_of-result-2 c = subst IsValid (sym (closed_is c)) (closing_valid c.self.inside.bytes c.self.invariant)

pub returns-clause-closed : goal.returns-clause-closed
returns-clause-closed c =
    subst (λ v. is_exportable v ≡ false) (sym (closed_is c)) (closing_off c.self.inside.bytes c.self.invariant)

pub returns-clause-length : goal.returns-clause-length
returns-clause-length c =
    ap length_of (closed_is c) ∙ (closing_length c.self.inside.bytes c.self.invariant ∙ ap length_of c.self.view_is)

pub returns-clause-valid : goal.returns-clause-valid
returns-clause-valid c = subst IsValid (sym (closed_is c)) (closing_valid c.self.inside.bytes c.self.invariant)
