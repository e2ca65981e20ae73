use Rattle.std.proofs.Common.{◌++◌, ◌-◌, length, take, ap, arith}
use borrow.Rule.Slice.PartMut.{post_of}
use Rattle.key_cells.specs.Lease.{bench_of, holding}
use Rattle.key_cells.specs.Bench.{with_text}
use Rattle.text_segments.proofs.PlaceLemmas.{Filled, filled}
use Rattle.text_segments.proofs.places.fill_text.Goals as goal

abbrev Written : goal.After-lease-1 → Type 0
Written c =
    let text = c.text-size.result.now in
    let lent = c.text_mut.result.now in
    Filled (bench_of c.args.lease.now).text (bench_of c.set_text_length.new.self).text
    (take (length text) lent ++ (c.fill.new.self ++ post_of (length text) (length lent - length text) lent))

written : (c : goal.After-lease-1) → Written c
written c =
    filled (bench_of c.args.lease.now).text (bench_of c.set_text_length.new.self).text c.text-size.result.now c.text_mut.result.now c.fill.new.self
    c.div_ceil.result
    c.text-size.ensures.value c.text-size.ensures.size c.div_ceil.ensures (ap (λ l. (bench_of l).text) c.set_text_length.ensures)
    c.text_mut.ensures.value c.text_mut.ensures.size (c.fill.ensures.after (λ y e. e))

pub returns-clause-text : goal.returns-clause-text
returns-clause-text c = (written c).text

pub returns-clause-size : goal.returns-clause-size
returns-clause-size c = (written c).size

pub returns-clause-room : goal.returns-clause-room
returns-clause-room c = omega (arith, (written c).size, c.requires)

pub returns-clause-past : goal.returns-clause-past
returns-clause-past c = (written c).past

pub returns-clause-stays : goal.returns-clause-stays
returns-clause-stays c =
    let text = c.text-size.result.now in
    let lent = c.text_mut.result.now in
    let place = with_text (bench_of c.set_text_length.new.self).text
    (take (length text) lent ++ (c.fill.new.self ++ post_of (length text) (length lent - length text) lent)) in
    ap (λ l. holding l (record (bench_of l) { text = place })) c.set_text_length.ensures
