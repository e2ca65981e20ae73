use Rattle.std.proofs.Common.{ap}
use Rattle.key_cells.specs.Bench.{with_text}
use Rattle.key_cells.specs.Lease.{bench_of, holding}
use Rattle.cipher_verbs.proofs.PaddingLemmas.{Padded, padded_place}
use Rattle.cipher_verbs.proofs.padding.add_padding.Goals as goal

written : (c : goal.After-lease-1) → Padded (bench_of c.args.lease.now).text (bench_of c.set_text_length.new.self).text c.put_padding.new.text
written c =
    padded_place (bench_of c.args.lease.now).text (bench_of c.set_text_length.new.self).text c.text-size.result.now c.text_mut.result.now
    c.put_padding.new.text
    c.text-size.ensures.value c.text-size.ensures.size (ap (λ l. (bench_of l).text) c.set_text_length.ensures) c.text_mut.ensures.value
    c.text_mut.ensures.size c.put_padding.ensures

pub returns-clause-whole : goal.returns-clause-whole
returns-clause-whole c = (written c).whole

pub returns-clause-text : goal.returns-clause-text
returns-clause-text c = (written c).text

pub returns-clause-room : goal.returns-clause-room
returns-clause-room c = (written c).room c.requires

pub returns-clause-stays : goal.returns-clause-stays
returns-clause-stays c =
    let place = with_text (bench_of c.set_text_length.new.self).text c.put_padding.new.text in
    ap (λ l. holding l (record (bench_of l) { text = place })) c.set_text_length.ensures
