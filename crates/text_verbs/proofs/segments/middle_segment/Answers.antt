use Rattle.std.proofs.Common.{refl, arith}
use Rattle.std.specs.Prelude.{◌/◌, length}
use Rattle.key_cells.specs.Lease.{bench_of}
use Rattle.text_segments.specs.declared.chains.Chain.{Chain}
use Rattle.verb_rules.specs.Keys.{opened}
use Rattle.verb_script.specs.Values.{hex_value}
use Rattle.cca_machine.specs.Act.{segment_fields}
use Rattle.cca_machine.specs.Verdict.{segment_questions}
use Rattle.text_verbs.proofs.KeyedRows.{middle_keyed}
use Rattle.text_verbs.proofs.SegmentRules.{chain_refused, goes_on}
use Rattle.cca_machine.proofs.Settling.{keyed_settles}
use Rattle.text_verbs.proofs.segments.middle_segment.Goals as goal

pub returns-in-Some : goal.returns-in-Some
returns-in-Some c = record {
  settles = λ role key segment held rows.
      let clear = opened (bench_of c.args.lease.now) c.key_in-key.result.now in
      let text = c.args.text.now in
      keyed_settles (middle_keyed c.args.mode c.requires.mode role key segment c.args.chain.now text)
      c.key_in-key.ensures.is c.key_in-key.ensures.under
      (goes_on (hex_value c.args.chain.now) _ _ (λ k. segment_questions (length text / 2)) (λ (k : Chain). segment_fields clear c.args.mode k (hex_value text))
      c.in-Some.is c.chain_in.ensures.judges c.chain_in.ensures.chain c.go_on.ensures.shows);
}

pub returns-in-None : goal.returns-in-None
returns-in-None c = record {
  settles = λ role key segment held rows.
      keyed_settles (middle_keyed c.args.mode c.requires.mode role key segment c.args.chain.now c.args.text.now)
      c.key_in-key.ensures.is c.key_in-key.ensures.under
      (record { shows = (record { is = chain_refused (hex_value c.args.chain.now) (segment_questions (length c.args.text.now / 2)) c.in-None.is c.chain_in.ensures.judges; short = omega arith }, c.requires.given.empty); places = refl });
}
