use Rattle.std.proofs.Common.{◌≡◌, ◌∙◌, ◌++◌, length, drop, ap, subst, sym, arith}
use Rattle.std.proofs.lemmas.List.{length-append}
use Rattle.des_blocks.specs.Texts.{text_in}
use Rattle.key_cells.specs.Lease.{bench_of, holding}
use Rattle.verb_rules.specs.Keys.{opened}
use Rattle.cipher_verbs.specs.CipherTexts.{ChangesText, cleared}
use Rattle.text_segments.proofs.CodeLemmas.{coded, same_key}
use Rattle.text_segments.proofs.PlaceLemmas.{cleared_is, past_further, rest_is}
use Rattle.text_segments.proofs.codes.code_segment.Goals as goal

pub returns-clause-chain : goal.returns-clause-chain
returns-clause-chain c =
    let old = c.args.lease.now in
    let new = c.put_carried.new.lease in
    let key = c.args.key.now in
    let hand = c.args.chain.now.carried ++ text_in old in
    let read : c.text.result.now ≡ hand = c.text.ensures.value ∙ c.put_carried.ensures.text in
    coded c.args.rule (opened (bench_of old) key) (opened (bench_of new) key) c.args.chain.now.block hand c.text.result.now (text_in new)
    c.chained_block-block.result c.of-carried.result
    (same_key old new (bench_of new).text key c.put_carried.ensures.stays) read c.put_carried.ensures.text c.chained_block-block.ensures.block
    (c.of-carried.ensures ∙ rest_is c.text.result.now c.text-2.result.now hand read (c.text-2.ensures.value ∙ c.put_carried.ensures.text))

pub returns-clause-text : goal.returns-clause-text
returns-clause-text c = ap text_in c.clear_text.ensures

pub returns-clause-spent : goal.returns-clause-spent
returns-clause-spent c =
    let carried = c.args.chain.now.carried in
    let text = text_in c.args.lease.now in
    let place = (bench_of c.args.lease.now).text in
    let one = (bench_of c.put_carried.new.lease).text in
    let two = (bench_of c.chained_block-block.new.lease).text in
    let count = length (carried ++ text) in
    let size : two.size ≡ count
    = omega (arith, c.chained_block-block.ensures.size, c.put_carried.ensures.size, c.put_carried.ensures.long, length-append carried text) in
    let past : drop count two.bytes ≡ drop count place.bytes
    = past_further two.size count two.bytes one.bytes (omega (arith, size)) c.chained_block-block.ensures.past
    ∙ past_further one.size count one.bytes place.bytes (omega (arith, size, c.chained_block-block.ensures.size)) c.put_carried.ensures.past in
    ap (λ l. (bench_of l).text) c.clear_text.ensures ∙ cleared_is place two count size past

pub returns-clause-stays : goal.returns-clause-stays
returns-clause-stays c =
    let coded = bench_of c.chained_block-block.new.lease in
    let none = cleared coded.text in
    subst (λ l. ChangesText c.args.lease.now l) (sym c.clear_text.ensures)
    (ap (λ l. holding l (record (bench_of l) { text = none })) c.chained_block-block.ensures.stays
    ∙ ap (λ l. holding l (record (bench_of l) { key = coded.key; schedules = coded.schedules; text = none })) c.put_carried.ensures.stays)
