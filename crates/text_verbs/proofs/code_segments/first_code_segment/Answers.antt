use Rattle.std.proofs.Common.{subst}
use Rattle.std.specs.Prelude.{◌/◌, length}
use Rattle.key_cells.specs.Lease.{bench_of}
use Rattle.text_segments.specs.declared.chains.Chain.{Chain}
use Rattle.verb_rules.specs.Keys.{opened}
use Rattle.verb_script.specs.Values.{hex_value}
use Rattle.cca_machine.specs.Act.{code_segment_fields}
use Rattle.cca_machine.specs.Choices.{mac_rule_named}
use Rattle.cca_machine.specs.Verdict.{first_refusal, code_key_questions, segment_questions}
use Rattle.cca_machine.specs.Deciding.{ShowsOver}
use Rattle.text_verbs.proofs.KeyedRows.{first_code_keyed}
use Rattle.cca_machine.proofs.Settling.{keyed_settles}
use Rattle.text_verbs.proofs.code_segments.first_code_segment.Goals as goal

pub returns : goal.returns
returns c = record {
  settles = λ verifies role key segment held rows.
      let clear = opened (bench_of c.args.lease.now) c.key_in-key.result.now in
      let text = c.args.text.now in
      let method = mac_rule_named c.args.rule.now in
      keyed_settles (first_code_keyed verifies role key c.args.rule.now segment text)
      c.key_in-key.ensures.is c.key_in-key.ensures.under
      (subst (λ (k : Chain). ShowsOver c.args.lease.now c.go_on.new.lease (first_refusal (code_key_questions method clear (segment_questions (length text / 2)))) (code_segment_fields clear method k (hex_value text)) c.go_on.result c.go_on.new.reply)
      c.first-start.ensures c.go_on.ensures.shows);
}
