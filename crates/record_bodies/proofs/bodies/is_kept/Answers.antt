use Rattle.std.proofs.Common.{◌∙◌, sym}
use Rattle.std.proofs.lemmas.Slice.Eq.{bytes_eq-Decides}
use Rattle.record_bodies.proofs.bodies.is_kept.Goals as goal
use Rattle.key_cells.proofs.AnswerLemmas.{unless_err}

pub returns-clause-kept : goal.returns-clause-kept
returns-clause-kept c same = record {
  bytes = c.are_bytes.ensures;
  sound = unless_err c.read_token-read.result (sym c.is_err.ensures.value ∙ c.if-is_err.false) c.read_token-read.ensures.accepted;
  flag = c.if-token-ne-KEY_AND_VECTOR.false;
  under = sym c.pattern_in.ensures ∙ (bytes_eq-Decides c.pattern_in.result.bytes c.args.pattern.now.bytes).0 (sym c.eq.ensures ∙ same);
}
