use Rattle.std.proofs.Common.{◌∙◌, ap, take, drop, bit_xor}
use Rattle.std.specs.Int.{to_be_bytes, w64}
use Rattle.key_cells.specs.Bench.{text_of, with_text_of}
use Rattle.key_cells.specs.Lease.{bench_of, holding}
use Rattle.des_blocks.specs.Bits.{bits}
use Rattle.des_blocks.specs.Texts.{put_at}
use Rattle.des_core.specs.Ciphers.{undone}
use Rattle.des_core.proofs.ChainLemmas.{deciphered-word}
use Rattle.des_core.proofs.chaining.decipher_one.Goals as goal

pub returns-clause-lease : goal.returns-clause-lease
returns-clause-lease c =
    let l = c.args.lease.now in
    let text = text_of (bench_of l).text in
    ap (λ w. holding l (with_text_of (bench_of l) w)) (c.put_word.ensures
    ∙ ap (λ t. put_at t c.args.at (to_be_bytes w64 (bit_xor c.decipher_word.result c.args.chain))) c.text_mut.ensures.value
    ∙ ap (put_at text c.args.at) (deciphered-word (undone c.args.cipher (bench_of l).schedules) (take 8 (drop c.args.at text)) c.word_at-sealed.result c.args.chain c.decipher_word.result
    (c.word_at-sealed.ensures ∙ ap (λ t. take 8 (drop c.args.at t)) c.text.ensures.value)
    (c.decipher_word.ensures ∙ ap (λ keys. undone c.args.cipher keys (bits 64 c.word_at-sealed.result)) c.schedules.ensures)))
