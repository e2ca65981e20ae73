use Rattle.std.proofs.Common.{◌≡◌, sym, ap, subst, ◌∙◌, arith}
use Rattle.std.proofs.lemmas.Bool.{both_ways, true≢false}
use Rattle.audit_trail.specs.Entries.{IsEntry}
use Rattle.audit_trail.specs.RecordBody.{record_body}
use Rattle.audit_trail.specs.declared.bodies.Record.{Record}
use Rattle.audit_trail.proofs.BodyLaws.{made, spelled_in}
use Rattle.audit_trail.proofs.bodies.read_record.Goals as goal

pub returns-then-record-ge-NUMBERS-clause-none : goal.returns-then-record-ge-NUMBERS-clause-none
returns-then-record-ge-NUMBERS-clause-none c _ n e spells =
    let same : c.record_in-record.result.number ≡ n = ap (λ (r : Record). r.number) (c.record_in-record.ensures ∙ spelled_in c.args.body.now n e spells) in
    omega (arith, same, spells.below, c.if-record-ge-NUMBERS.true)

pub returns-then-not-is_whole-clause-none : goal.returns-then-not-is_whole-clause-none
returns-then-not-is_whole-clause-none c _ n e spells =
    let same : c.record_in-record.result.entry ≡ e = ap (λ (r : Record). r.entry) (c.record_in-record.ensures ∙ spelled_in c.args.body.now n e spells) in
    both_ways c.is_whole.result c.if-not-is_whole.true (c.is_whole.ensures.1 (subst IsEntry (sym same) spells.entry))

pub returns-else-is_record-clause-none : goal.returns-else-is_record-clause-none
returns-else-is_record-clause-none c _ n e spells =
    let same : c.record_in-record.result ≡ made n e = c.record_in-record.ensures ∙ spelled_in c.args.body.now n e spells in
    both_ways c.is_record.result c.if-is_record.false (c.is_record.ensures.1 (spells.body ∙ ap (λ (r : Record). record_body r.number r.entry) (sym same)))

pub returns-then-record-ge-NUMBERS-clause-reads : goal.returns-then-record-ge-NUMBERS-clause-reads
returns-then-record-ge-NUMBERS-clause-reads c = tt

pub returns-then-not-is_whole-clause-reads : goal.returns-then-not-is_whole-clause-reads
returns-then-not-is_whole-clause-reads c = tt

pub returns-else-is_record-clause-reads : goal.returns-else-is_record-clause-reads
returns-else-is_record-clause-reads c = tt

pub is_record-requires : goal.is_record-requires
is_record-requires c = c.is_whole.ensures.0 c.if-not-is_whole.false

pub returns-then-is_record-clause-reads : goal.returns-then-is_record-clause-reads
returns-then-is_record-clause-reads c = record {
  entry = c.is_whole.ensures.0 c.if-not-is_whole.false;
  below = omega (arith, c.if-record-ge-NUMBERS.false);
  body = c.is_record.ensures.0 c.if-is_record.true;
}

pub returns-then-is_record-clause-none : goal.returns-then-is_record-clause-none
returns-then-is_record-clause-none c none n e spells = true≢false none
