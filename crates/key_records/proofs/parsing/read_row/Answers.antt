use Rattle.std.proofs.Common.{◌≡◌, ◌∙◌, sym, ap, subst}
use Rattle.key_cells.specs.Lease.{bench_of}
use Rattle.verb_rules.specs.Keys.{keys_of}
use Rattle.record_bodies.specs.Entries.{remembered}
use Rattle.record_bodies.specs.RecordBody.{ReadsEntry, blank_body}
use Rattle.record_bodies.proofs.BodyLaws.{entry_blank}
use Rattle.key_records.proofs.parsing.read_row.Goals as goal

pub returns-then-is_blank-clause-reads : goal.returns-then-is_blank-clause-reads
returns-then-is_blank-clause-reads g c _ =
    let bytes = (bench_of c.args.lease.now).body in
    let blank : bytes ≡ blank_body = sym c.body.ensures ∙ c.is_blank.ensures.0 c.if-is_blank.true in
    subst (ReadsEntry (keys_of g.m) bytes) (sym (entry_blank (keys_of g.m) bytes blank)) blank

pub returns-then-is_blank-clause-row : goal.returns-then-is_blank-clause-row
returns-then-is_blank-clause-row g c = ap (remembered (keys_of g.m)) (sym (entry_blank (keys_of g.m) (bench_of c.args.lease.now).body (sym c.body.ensures ∙ c.is_blank.ensures.0 c.if-is_blank.true)))
