use Rattle.std.proofs.Common.{◌∙◌, ap, subst}
use Rattle.std.specs.Prelude.{◌/◌, length}
use Rattle.key_cells.specs.Lease.{bench_of}
use Rattle.text_segments.specs.Chains.{first_chain}
use Rattle.text_segments.specs.declared.chains.Chain.{Chain}
use Rattle.verb_rules.specs.Keys.{opened}
use Rattle.verb_script.specs.Values.{hex_value}
use Rattle.cca_machine.specs.Act.{segment_fields}
use Rattle.cca_machine.specs.Verdict.{first_refusal, segment_questions}
use Rattle.cca_machine.specs.Deciding.{ShowsOver}
use Rattle.text_verbs.proofs.KeyedRows.{first_keyed}
use Rattle.cca_machine.proofs.Settling.{keyed_settles}
use Rattle.text_verbs.proofs.segments.first_segment.Goals as goal

pub returns : goal.returns
returns c = record {
  settles = λ role key segment held rows.
      let clear = opened (bench_of c.args.lease.now) c.key_in-key.result.now in
      let text = c.args.text.now in
      keyed_settles (first_keyed c.args.mode c.requires.mode role key segment c.args.iv.now text)
      c.key_in-key.ensures.is c.key_in-key.ensures.under
      (subst (λ (k : Chain). ShowsOver c.args.lease.now c.go_on.new.lease (first_refusal (segment_questions (length text / 2))) (segment_fields clear c.args.mode k (hex_value text)) c.go_on.result c.go_on.new.reply)
      (c.first.ensures ∙ ap first_chain c.block_of.ensures) c.go_on.ensures.shows);
}
