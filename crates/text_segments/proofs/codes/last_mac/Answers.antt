use Rattle.std.proofs.Common.{◌≡◌, ◌∙◌, ◌+◌, ◌++◌, length, take, drop, ap, sym, arith}
use Rattle.std.proofs.lemmas.List.{length-append}
use Rattle.key_cells.specs.Bytes.{xor}
use Rattle.des_blocks.specs.Modes.{fill}
use Rattle.des_blocks.specs.Texts.{text_in}
use Rattle.key_cells.specs.Lease.{bench_of}
use Rattle.verb_rules.specs.Keys.{opened}
use Rattle.cipher_verbs.specs.CipherTexts.{cleared}
use Rattle.mac_verbs.specs.Codes.{code_of}
use Rattle.text_segments.specs.Segments.{code_cipher, finished}
use Rattle.text_segments.proofs.BlockLemmas.{combined, fill_length}
use Rattle.text_segments.proofs.CutLaws.{code_from-zeros}
use Rattle.text_segments.proofs.PlaceLemmas.{cleared_is, mac_lengths, past_further}
use Rattle.text_segments.proofs.codes.last_mac.Goals as goal

pub returns-clause-code : goal.returns-clause-code
returns-clause-code c =
    let key = c.args.key.now in
    let rule = c.args.rule in
    let start = c.args.chain.now.block in
    let carried = c.args.chain.now.carried in
    let text = text_in c.args.lease.now in
    let clear = opened (bench_of c.args.lease.now) key in
    let filled = fill (carried ++ text) in
    let hand : length (carried ++ text) ≡ length carried + (bench_of c.args.lease.now).text.size = length-append carried text ∙ ap (λ n. length carried + n) c.put_carried.ensures.long in
    let some = (mac_lengths (length carried) (bench_of c.args.lease.now).text.size c.requires.text).1 in
    let same_key = ap (λ l. opened (bench_of l) key) c.combine_start.ensures.stays ∙ ap (λ l. opened (bench_of l) key) c.fill_text.ensures.stays ∙ ap (λ l. opened (bench_of l) key) c.put_carried.ensures.stays in
    let given : text_in c.combine_start.new.lease ≡ xor (take 8 filled) start ++ drop 8 filled
    = c.combine_start.ensures.text ∙ ap (λ t. xor (take 8 t) start ++ drop 8 t) (c.fill_text.ensures.text ∙ ap fill c.put_carried.ensures.text) in
    c.mac_generate-code.ensures.code
    ∙ ap (λ k. code_of rule k (text_in c.combine_start.new.lease)) same_key
    ∙ ap (code_of rule clear) given
    ∙ sym (code_from-zeros clear rule (xor (take 8 filled) start ++ drop 8 filled))
    ∙ ap (finished rule clear) (combined (code_cipher rule clear) start filled c.combine_start.ensures.block (omega (arith, fill_length (carried ++ text))) (omega (arith, fill_length (carried ++ text), hand, some)))

pub returns-clause-spent : goal.returns-clause-spent
returns-clause-spent c =
    let carried = c.args.chain.now.carried in
    let text = text_in c.args.lease.now in
    let place = (bench_of c.args.lease.now).text in
    let one = (bench_of c.put_carried.new.lease).text in
    let two = (bench_of c.fill_text.new.lease).text in
    let three = (bench_of c.combine_start.new.lease).text in
    let count = length (fill (carried ++ text)) in
    let size : three.size ≡ count
    = omega (arith, c.combine_start.ensures.size, c.fill_text.ensures.size, c.put_carried.ensures.size, c.put_carried.ensures.long, length-append carried text, fill_length (carried ++ text)) in
    let past : drop count three.bytes ≡ drop count place.bytes
    = past_further three.size count three.bytes two.bytes (omega (arith, size)) c.combine_start.ensures.past
    ∙ past_further two.size count two.bytes one.bytes (omega (arith, size, c.combine_start.ensures.size)) c.fill_text.ensures.past
    ∙ past_further one.size count one.bytes place.bytes (omega (arith, size, c.combine_start.ensures.size, c.fill_text.ensures.size)) c.put_carried.ensures.past in
    ap (λ l. (bench_of l).text) c.clear_text.ensures
    ∙ ap (λ l. cleared (bench_of l).text) c.mac_generate-code.ensures.stays
    ∙ cleared_is place three count size past
