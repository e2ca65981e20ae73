use Rattle.std.proofs.Common.{refl, arith}
use Rattle.std.specs.Prelude.{◌/◌, length}
use Rattle.key_cells.specs.Lease.{bench_of}
use Rattle.text_segments.specs.Chains.{chain_of}
use Rattle.text_segments.specs.declared.chains.Chain.{Chain}
use Rattle.verb_rules.specs.Keys.{opened}
use Rattle.verb_script.specs.Values.{hex_value}
use Rattle.cca_machine.specs.Act.{code_segment_fields}
use Rattle.cca_machine.specs.Choices.{mac_rule_named}
use Rattle.cca_machine.specs.Verdict.{code_key_questions, segment_questions}
use Rattle.text_verbs.proofs.KeyedRows.{middle_code_keyed}
use Rattle.text_verbs.proofs.SegmentRules.{chain_refused, goes_on}
use Rattle.cca_machine.proofs.Settling.{keyed_settles}
use Rattle.text_verbs.proofs.code_segments.middle_code_segment.Goals as goal

pub returns-in-Some : goal.returns-in-Some
returns-in-Some c = record {
  settles = λ verifies role key segment held rows.
      let clear = opened (bench_of c.args.lease.now) c.key_in-key.result.now in
      let text = c.args.text.now in
      let word = c.args.rule.now in
      let others = λ (k : Chain). code_key_questions (mac_rule_named word) clear (segment_questions (length text / 2)) in
      let fields = λ (k : Chain). code_segment_fields clear (mac_rule_named word) k (hex_value text) in
      keyed_settles (middle_code_keyed verifies role key word segment c.args.chain.now text)
      c.key_in-key.ensures.is c.key_in-key.ensures.under
      (goes_on (hex_value c.args.chain.now) _ _ others fields c.in-Some.is c.chain_in.ensures.judges c.chain_in.ensures.chain c.go_on.ensures.shows);
}

pub returns-in-None : goal.returns-in-None
returns-in-None c = record {
  settles = λ verifies role key segment held rows.
      let clear = opened (bench_of c.args.lease.now) c.key_in-key.result.now in
      let text = c.args.text.now in
      let word = c.args.rule.now in
      let others = λ (k : Chain). code_key_questions (mac_rule_named word) clear (segment_questions (length text / 2)) in
      let chain = hex_value c.args.chain.now in
      keyed_settles (middle_code_keyed verifies role key word segment c.args.chain.now text)
      c.key_in-key.ensures.is c.key_in-key.ensures.under
      (record { shows = (record { is = chain_refused chain (others (chain_of chain)) c.in-None.is c.chain_in.ensures.judges; short = omega arith }, c.requires.given.empty); places = refl });
}
