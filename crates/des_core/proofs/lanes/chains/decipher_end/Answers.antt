use Rattle.std.proofs.Common.{◌≡◌, ◌-◌, ◌%◌, ◌++◌, drop, length, replicate, take, refl, sym, ap, ◌∙◌, arith, rules}
use Rattle.std.specs.Int.{to_be_bytes, w64}
use Rattle.std.proofs.lemmas.List.{length-drop, take_all}
use borrow.Rule.Slice.PartMut.{put_mid, same_len_mid}
use Rattle.key_cells.specs.Bench.{text_of}
use Rattle.key_cells.specs.Lease.{bench_of}
use Rattle.des_blocks.specs.Texts.{uncbc_text, with_text_in}
use Rattle.des_core.specs.Ciphers.{undone_bytes}
use Rattle.des_core.proofs.ChainLemmas.{text-kept}
use Rattle.des_core.proofs.PartLemmas.{end-deciphered, end-put}
use Rattle.des_core.proofs.lanes.chains.decipher_end.Goals as goal

pub returns-clause-text : goal.returns-clause-text
returns-clause-text c =
    let at = c.args.at in
    let bench = bench_of c.args.lease.now in
    let text = text_of bench.text in
    let now = c.text_mut-text.result.now in
    let n = length now - at in
    let end = drop at text in
    let chain = to_be_bytes w64 c.args.chain in
    let out = uncbc_text (undone_bytes c.args.cipher bench.schedules) chain end in
    let copied = c.copy_from_slice.new.self in
    let count : n ≡ length end = omega (arith, ap length c.text_mut-text.ensures.value, length-drop at text) in
    let long : length text ≡ bench.text.size = sym (ap length c.text.ensures.value) ∙ c.text.ensures.size in
    let whole : length end % 8 ≡ 0 = omega (arith, length-drop at text, long, c.requires.whole) in
    let fill = replicate (1024 - length end) 0 in
    let given : take (length c.text.result.now - at) (drop at c.text.result.now) ≡ end = take_all (length c.text.result.now - at) (drop at c.text.result.now) (omega (arith, length-drop at c.text.result.now)) ∙ ap (drop at) c.text.ensures.value in
    let filled : c.filled-part.result ≡ end ++ fill = c.filled-part.ensures ∙ ap (λ t. t ++ replicate (1024 - length t) 0) given in
    let deciphered : copied ≡ out
    = c.copy_from_slice.ensures.after
    ∙ end-deciphered c.args.cipher bench.schedules c.schedules.result.now c.words_of-words.result c.decipher_words.new.words chain end fill c.put_chained.new.part c.filled-part.result n count refl whole c.schedules.ensures filled
    c.words_of-words.ensures.words c.decipher_words.ensures.words c.put_chained.ensures.bytes in
    let kept : length copied ≡ length (take n (drop at now)) = search rules in
    let kept_long : length (put_mid at n now copied) ≡ bench.text.size = same_len_mid at n now copied kept ∙ c.text_mut-text.ensures.size in
    text-kept bench.text (put_mid at n now copied) kept_long ∙ end-put text now copied out at n refl c.text_mut-text.ensures.value deciphered

pub returns-clause-stays : goal.returns-clause-stays
returns-clause-stays c =
    let at = c.args.at in
    let bench = bench_of c.args.lease.now in
    let now = c.text_mut-text.result.now in
    let n = length now - at in
    let copied = c.copy_from_slice.new.self in
    let kept : length copied ≡ length (take n (drop at now)) = search rules in
    let long : length (put_mid at n now copied) ≡ bench.text.size = same_len_mid at n now copied kept ∙ c.text_mut-text.ensures.size in
    ap (λ w. with_text_in c.args.lease.now w) (sym (text-kept bench.text (put_mid at n now copied) long))
