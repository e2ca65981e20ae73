use Rattle.std.proofs.Common.{◌∙◌, length, ap, sym}
use Rattle.key_cells.specs.Bench.{with_text}
use Rattle.key_cells.specs.Lease.{bench_of, holding}
use Rattle.text_segments.proofs.PlaceLemmas.{Before, before}
use Rattle.text_segments.proofs.places.put_carried.Goals as goal

written : (c : goal.After-lease-1)
    → Before (bench_of c.args.lease.now).text (bench_of c.set_text_length.new.self).text c.args.carried.now c.put_before.new.text
written c =
    before (bench_of c.args.lease.now).text (bench_of c.set_text_length.new.self).text c.args.carried.now c.bytes-bytes.result.now
    c.text-size.result.now
    c.text_mut.result.now c.put_before.new.text c.bytes-bytes.ensures.bytes c.text-size.ensures.value c.text-size.ensures.size
    (ap (λ l. (bench_of l).text) c.set_text_length.ensures) c.text_mut.ensures.value c.text_mut.ensures.size c.put_before.ensures

pub returns-clause-text : goal.returns-clause-text
returns-clause-text c = (written c).text

pub returns-clause-size : goal.returns-clause-size
returns-clause-size c = (written c).size

pub returns-clause-long : goal.returns-clause-long
returns-clause-long c = sym (ap (λ xs. length xs) c.text-size.ensures.value) ∙ c.text-size.ensures.size

pub returns-clause-few : goal.returns-clause-few
returns-clause-few c = c.bytes-bytes.ensures.few

pub returns-clause-past : goal.returns-clause-past
returns-clause-past c = (written c).past

pub returns-clause-stays : goal.returns-clause-stays
returns-clause-stays c =
    let place = with_text (bench_of c.set_text_length.new.self).text c.put_before.new.text in
    ap (λ l. holding l (record (bench_of l) { text = place })) c.set_text_length.ensures
