-- The checks come one list after another.
use Rattle.std.proofs.Common.{◌≡◌, true, [], ◌∷◌, ◌++◌, not, Some, None, sym, ap, ◌∙◌}
use Rattle.cca_vectors.specs.Checks.{check, first_failing}
use Rattle.cca_vectors.specs.Vectors.{length_of}
use Rattle.cca_vectors.specs.VectorChecks.{vector_checks}
use Rattle.cca_vectors.proofs.Judging.{passed_over, stopped_in}
use Rattle.key_tokens.specs.Fields.{vector_bytes_of}
use Rattle.key_tokens.specs.TokenChecks.{header_checks, has_right_half, rule_of}
use Rattle.key_tokens.proofs.Layouts.{accepts_right_half, names_right_half, right_half_is_zero, right_half_of_double}
use Rattle.key_tokens.proofs.reading.checked_vector.Goals.{else-length-eq8-via-then-length-eq8+else-not-is_zero, else-length-eq8-via-else-length-eq8}
use Rattle.key_tokens.proofs.reading.checked_vector.Goals as goal

pub returns-in-Some-clause-refused : goal.returns-in-Some-clause-refused
returns-in-Some-clause-refused c =
    stopped_in (header_checks c.args.asked c.args.bytes.now ++ vector_checks (vector_bytes_of c.args.bytes.now))
    (check 16 (not (has_right_half c.args.bytes.now)) ∷ [])
    (rule_of c.in-Some.fault)
    (stopped_in (header_checks c.args.asked c.args.bytes.now) (vector_checks (vector_bytes_of c.args.bytes.now)) (rule_of c.in-Some.fault) (sym c.in-Some.ensures))

pub returns-in-Err-clause-refused : goal.returns-in-Err-clause-refused
returns-in-Err-clause-refused c =
    stopped_in (header_checks c.args.asked c.args.bytes.now ++ vector_checks (vector_bytes_of c.args.bytes.now))
    (check 16 (not (has_right_half c.args.bytes.now)) ∷ [])
    (rule_of c.token_fault.result)
    (passed_over (header_checks c.args.asked c.args.bytes.now) (vector_checks (vector_bytes_of c.args.bytes.now)) (sym c.in_default.ensures)
    ∙ ap (λ v. first_failing (vector_checks v)) (sym c.vector_bytes.ensures)
    ∙ c.in-Err.ensures.refused
    ∙ ap (λ rule. Some rule) (sym c.token_fault.ensures))

pub returns-then-not-is_zero-clause-refused : goal.returns-then-not-is_zero-clause-refused
returns-then-not-is_zero-clause-refused c =
    let accepted : first_failing (vector_checks (vector_bytes_of c.args.bytes.now)) ≡ None =
    ap (λ v. first_failing (vector_checks v)) (sym c.vector_bytes.ensures) ∙ c.in-Ok.ensures.accepted in
    let single : length_of (vector_bytes_of c.args.bytes.now) ≡ 8 =
    ap length_of (sym (c.in-Ok.ensures.vector ∙ c.vector_bytes.ensures)) ∙ sym c.length.ensures.length ∙ c.if-length-eq8.true in
    names_right_half c.args.asked c.args.bytes.now (sym c.in_default.ensures) accepted single (sym c.is_zero.ensures.value ∙ c.if-not-is_zero.true)

pub returns-clause-vector : goal.returns-clause-vector
returns-clause-vector c = c.in-Ok.ensures.vector ∙ c.vector_bytes.ensures

pub returns-clause-accepted : goal.returns-clause-accepted
returns-clause-accepted c =
    let bytes = c.args.bytes.now in
    let accepted : first_failing (vector_checks (vector_bytes_of bytes)) ≡ None =
    ap (λ v. first_failing (vector_checks v)) (sym c.vector_bytes.ensures) ∙ c.in-Ok.ensures.accepted in
    let right : has_right_half bytes ≡ true = elim c.else-length-eq8.branch [
      | else-length-eq8-via-then-length-eq8+else-not-is_zero w ↦ right_half_is_zero bytes (sym w.is_zero.ensures.value ∙ w.if-not-is_zero.false)
      | else-length-eq8-via-else-length-eq8 w ↦ right_half_of_double bytes c.length.result (c.length.ensures.length ∙ ap length_of (c.in-Ok.ensures.vector ∙ c.vector_bytes.ensures)) w.if-length-eq8.false
    ] in
    accepts_right_half c.args.asked bytes (sym c.in_default.ensures) accepted right
