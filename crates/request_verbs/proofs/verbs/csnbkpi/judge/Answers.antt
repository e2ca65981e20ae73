-- The operand that breaks the first of the two rules.
use Rattle.std.proofs.Common.{◌∙◌, Some, not, sym, ap}
use Rattle.std.specs.Prelude.{◌==◌}
use Rattle.cca_vectors.specs.Vectors.{is_part_of, length_of}
use Rattle.verb_rules.specs.Rules.{rule_number}
use Rattle.cca_machine.specs.Verdict.{refusal}
use Rattle.request_verbs.proofs.KeyParts.{part_permitted, part_refusal}
use Rattle.request_verbs.proofs.verbs.csnbkpi.judge.Goals as goal

pub returns-in-Ok : goal.returns-in-Ok
returns-in-Ok c =
    let vector = c.args.key.now.token.vector in
    part_permitted (c.args.size == length_of vector) (not (is_part_of vector)) c.in-Ok.ensures

pub returns-in-Err : goal.returns-in-Err
returns-in-Err c =
    let vector = c.args.key.now.token.vector in
    record {
      is = part_refusal (c.args.size == length_of vector) (not (is_part_of vector)) (rule_number c.in-Err.rule) c.in-Err.ensures
          ∙ ap (λ operand. Some (refusal (rule_number c.in-Err.rule) operand)) (sym c.broken_by.ensures.operand);
      short = c.broken_by.ensures.short;
    }
