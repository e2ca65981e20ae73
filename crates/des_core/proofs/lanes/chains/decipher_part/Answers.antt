use Rattle.std.proofs.Common.{◌≡◌, ◌+◌, ◌-◌, length, take, drop, sym, ap, ◌∙◌, arith, rules}
use Rattle.std.specs.Int.{to_be_bytes, w64}
use borrow.Rule.Slice.PartMut.{put_mid, same_len_mid}
use Rattle.key_cells.specs.Bench.{text_of}
use Rattle.key_cells.specs.Lease.{bench_of}
use Rattle.des_blocks.specs.Texts.{uncbc_text, with_text_in}
use Rattle.des_core.specs.Ciphers.{undone_bytes}
use Rattle.des_core.proofs.ChainLemmas.{text-kept}
use Rattle.des_core.specs.Chains.{part_at}
use Rattle.des_core.proofs.LaneChainLemmas.{part-deciphered, part-last, part-put}
use Rattle.des_core.proofs.lanes.chains.decipher_part.Goals as goal

pub returns-clause-block : goal.returns-clause-block
returns-clause-block c =
    let at = c.args.at in
    let size : at + 1024 - at ≡ 1024 = omega arith in
    c.put_chained.ensures.block ∙ part-last (text_of (bench_of c.args.lease.now).text) c.text_mut-text.result.now at (at + 1024 - at) size c.text_mut-text.ensures.value

pub returns-clause-text : goal.returns-clause-text
returns-clause-text c =
    let at = c.args.at in
    let bench = bench_of c.args.lease.now in
    let text = text_of bench.text in
    let now = c.text_mut-text.result.now in
    let part = c.put_chained.new.part in
    let n = at + 1024 - at in
    let size : n ≡ 1024 = omega arith in
    let kept : length part ≡ length (take n (drop at now)) = search rules in
    let long : length (put_mid at n now part) ≡ bench.text.size = same_len_mid at n now part kept ∙ c.text_mut-text.ensures.size in
    text-kept bench.text (put_mid at n now part) long
    ∙ part-put text now part (uncbc_text (undone_bytes c.args.cipher bench.schedules) (to_be_bytes w64 c.args.chain) (part_at text at)) at n size c.text_mut-text.ensures.value
    (part-deciphered c.args.cipher bench.schedules c.schedules.result.now text c.text.result.now now at n c.words_of-words.result c.decipher_words.new.words (to_be_bytes w64 c.args.chain) part size c.schedules.ensures c.text.ensures.value c.text_mut-text.ensures.value
    c.words_of-words.ensures.words c.decipher_words.ensures.words c.put_chained.ensures.bytes)

pub returns-clause-stays : goal.returns-clause-stays
returns-clause-stays c =
    let at = c.args.at in
    let bench = bench_of c.args.lease.now in
    let now = c.text_mut-text.result.now in
    let part = c.put_chained.new.part in
    let n = at + 1024 - at in
    let kept : length part ≡ length (take n (drop at now)) = search rules in
    let long : length (put_mid at n now part) ≡ bench.text.size = same_len_mid at n now part kept ∙ c.text_mut-text.ensures.size in
    ap (λ w. with_text_in c.args.lease.now w) (sym (text-kept bench.text (put_mid at n now part) long))
