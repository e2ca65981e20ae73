use Rattle.std.proofs.Common.{◌∙◌, ◌*◌, ◌/◌, ap, arith}
use Rattle.des_blocks.specs.Texts.{text_in}
use Rattle.key_cells.specs.Bench.{with_size}
use Rattle.key_cells.specs.Lease.{bench_of, holding}
use Rattle.text_segments.proofs.PlaceLemmas.{rest_is, whole_place}
use Rattle.text_segments.proofs.places.take_rest.Goals as goal

pub returns-clause-rest : goal.returns-clause-rest
returns-clause-rest c =
    c.of-rest.ensures ∙ rest_is c.text.result.now c.text-2.result.now (text_in c.args.lease.now) c.text.ensures.value c.text-2.ensures.value

pub returns-clause-text : goal.returns-clause-text
returns-clause-text c =
    whole_place (bench_of c.args.lease.now).text (bench_of c.set_text_length.new.self).text c.text.result.now c.text.ensures.value c.text.ensures.size
    (ap (λ l. (bench_of l).text) c.set_text_length.ensures)

pub returns-clause-whole : goal.returns-clause-whole
returns-clause-whole c = omega (arith, ap (λ l. (bench_of l).text.size) c.set_text_length.ensures)

pub returns-clause-stays : goal.returns-clause-stays
returns-clause-stays c =
    c.set_text_length.ensures ∙ ap (λ n. holding c.args.lease.now (with_size (bench_of c.args.lease.now) (n / 8 * 8))) c.text.ensures.size
