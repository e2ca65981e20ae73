use Rattle.std.proofs.Common.{refl, arith}
use Rattle.std.specs.Prelude.{◌/◌, length}
use Rattle.cipher_verbs.specs.declared.padding.Pad.TheVariants as padding
use Rattle.key_cells.specs.Lease.{bench_of}
use Rattle.text_segments.specs.Chains.{chain_of}
use Rattle.text_segments.specs.Segments.{last_code}
use Rattle.text_segments.specs.declared.chains.Chain.{Chain}
use Rattle.text_segments.specs.declared.modes.Mode.TheVariants.{Mac}
use Rattle.verb_rules.specs.Keys.{opened}
use Rattle.verb_script.specs.Values.{hex_value}
use Rattle.cca_machine.specs.Choices.{mac_rule_named}
use Rattle.cca_machine.specs.Verdict.{code_key_questions, last_segment_questions}
use Rattle.text_verbs.specs.CodePurposes.{code_fields}
use Rattle.text_verbs.proofs.KeyedRows.{last_code_keyed}
use Rattle.text_verbs.proofs.SegmentRules.{chain_refused, goes_on}
use Rattle.cca_machine.proofs.Settling.{keyed_settles}
use Rattle.text_verbs.proofs.code_segments.last_code_segment.Goals as goal

pub returns-in-Some : goal.returns-in-Some
returns-in-Some c = record {
  settles = λ role key segment held rows.
      let clear = opened (bench_of c.args.lease.now) c.key_in-key.result.now in
      let text = c.args.text.now in
      let word = c.args.rule.now in
      let others = λ (k : Chain). code_key_questions (mac_rule_named word) clear (last_segment_questions (Mac (mac_rule_named word)) padding.None k (length text / 2)) in
      let fields = λ (k : Chain). code_fields c.args.purpose (last_code clear (mac_rule_named word) k (hex_value text)) in
      keyed_settles (last_code_keyed c.args.purpose role key word segment c.args.chain.now text)
      c.key_in-key.ensures.is c.key_in-key.ensures.under
      (goes_on (hex_value c.args.chain.now) _ _ others fields c.in-Some.is c.chain_in.ensures.judges c.chain_in.ensures.chain c.end_code.ensures.shows);
}

pub returns-in-None : goal.returns-in-None
returns-in-None c = record {
  settles = λ role key segment held rows.
      let clear = opened (bench_of c.args.lease.now) c.key_in-key.result.now in
      let text = c.args.text.now in
      let word = c.args.rule.now in
      let others = λ (k : Chain). code_key_questions (mac_rule_named word) clear (last_segment_questions (Mac (mac_rule_named word)) padding.None k (length text / 2)) in
      let chain = hex_value c.args.chain.now in
      keyed_settles (last_code_keyed c.args.purpose role key word segment c.args.chain.now text)
      c.key_in-key.ensures.is c.key_in-key.ensures.under
      (record { shows = (record { is = chain_refused chain (others (chain_of chain)) c.in-None.is c.chain_in.ensures.judges; short = omega arith }, c.requires.given.empty); places = refl });
}
