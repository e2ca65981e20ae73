use Rattle.std.proofs.Common.{refl, arith}
use Rattle.std.specs.Prelude.{◌/◌, length}
use Rattle.key_cells.specs.Lease.{bench_of}
use Rattle.text_segments.specs.Chains.{chain_of}
use Rattle.text_segments.specs.declared.chains.Chain.{Chain}
use Rattle.verb_rules.specs.Keys.{opened}
use Rattle.verb_script.specs.Values.{hex_value}
use Rattle.cca_machine.specs.Act.{last_text_fields}
use Rattle.cca_machine.specs.Choices.{pad_named}
use Rattle.cca_machine.specs.Verdict.{last_text_questions}
use Rattle.text_verbs.proofs.KeyedRows.{last_keyed}
use Rattle.text_verbs.proofs.SegmentRules.{chain_refused, goes_on}
use Rattle.cca_machine.proofs.Settling.{keyed_settles}
use Rattle.text_verbs.proofs.segments.last_segment.Goals as goal

pub returns-in-Some : goal.returns-in-Some
returns-in-Some c = record {
  settles = λ role key segment held rows.
      let clear = opened (bench_of c.args.lease.now) c.key_in-key.result.now in
      let text = c.args.text.now in
      let pad = c.args.pad.now in
      let others = λ (k : Chain). last_text_questions c.args.mode clear k (pad_named pad) (length text / 2) (hex_value text) in
      let fields = λ (k : Chain). last_text_fields clear c.args.mode k (pad_named pad) (hex_value text) in
      keyed_settles (last_keyed c.args.mode c.requires.mode role key segment c.args.chain.now pad text)
      c.key_in-key.ensures.is c.key_in-key.ensures.under
      (goes_on (hex_value c.args.chain.now) _ _ others fields c.in-Some.is c.chain_in.ensures.judges c.chain_in.ensures.chain c.end.ensures.shows);
}

pub returns-in-None : goal.returns-in-None
returns-in-None c = record {
  settles = λ role key segment held rows.
      let clear = opened (bench_of c.args.lease.now) c.key_in-key.result.now in
      let text = c.args.text.now in
      let pad = c.args.pad.now in
      let chain = hex_value c.args.chain.now in
      let others = last_text_questions c.args.mode clear (chain_of chain) (pad_named pad) (length text / 2) (hex_value text) in
      keyed_settles (last_keyed c.args.mode c.requires.mode role key segment c.args.chain.now pad text)
      c.key_in-key.ensures.is c.key_in-key.ensures.under
      (record { shows = (record { is = chain_refused chain others c.in-None.is c.chain_in.ensures.judges; short = omega arith }, c.requires.given.empty); places = refl });
}
