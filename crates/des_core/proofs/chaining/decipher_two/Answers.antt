use Rattle.std.proofs.Common.{◌≡◌, ◌+◌, length, ◌∙◌, sym, ap, take, drop, bit_xor, refl, arith}
use Rattle.std.specs.Int.{to_be_bytes, w64}
use Rattle.key_cells.specs.Bench.{text_of}
use Rattle.key_cells.specs.Lease.{bench_of}
use Rattle.des_blocks.specs.Bits.{bits, xor}
use Rattle.des_blocks.specs.Texts.{put_at}
use Rattle.des_core.specs.Ciphers.{undone, undone_bytes}
use Rattle.des_core.proofs.ChainLemmas.{deciphered-word, length-put, puts-again, text-kept}
use Rattle.des_core.proofs.chaining.decipher_two.Goals as goal

pub returns-clause-lease : goal.returns-clause-lease
returns-clause-lease c =
    let l = c.args.lease.now in
    let text = text_of (bench_of l).text in
    let at = c.args.at in
    let keys = (bench_of l).schedules in
    let p = take 8 (drop at text) in
    let q = take 8 (drop (at + 8) text) in
    let first = c.word_at-first.result in
    let second = c.word_at-second.result in
    let size : length text ≡ (bench_of l).text.size = sym (ap length c.text.ensures.value) ∙ c.text.ensures.size in
    let p_is : to_be_bytes w64 first ≡ p = c.word_at-first.ensures ∙ ap (λ t. take 8 (drop at t)) c.text.ensures.value in
    let q_is : to_be_bytes w64 second ≡ q = c.word_at-second.ensures ∙ ap (λ t. take 8 (drop (at + 8) t)) c.text-2.ensures.value in
    let one : to_be_bytes w64 (bit_xor c.decipher_words-one.result.0 c.args.chain) ≡ xor (undone_bytes c.args.cipher keys p) (to_be_bytes w64 c.args.chain)
    = deciphered-word (undone c.args.cipher keys) p first c.args.chain c.decipher_words-one.result.0 p_is (c.decipher_words-one.ensures.first ∙ ap (λ ks. undone c.args.cipher ks (bits 64 first)) c.schedules.ensures) in
    let two : to_be_bytes w64 (bit_xor c.decipher_words-one.result.1 first) ≡ xor (undone_bytes c.args.cipher keys q) p
    = deciphered-word (undone c.args.cipher keys) q second first c.decipher_words-one.result.1 q_is (c.decipher_words-one.ensures.second ∙ ap (λ ks. undone c.args.cipher ks (bits 64 second)) c.schedules.ensures) ∙ ap (xor (undone_bytes c.args.cipher keys q)) p_is in
    let put : c.put_word.new.text ≡ put_at text at (to_be_bytes w64 (bit_xor c.decipher_words-one.result.0 c.args.chain))
    = c.put_word.ensures ∙ ap (λ t. put_at t at (to_be_bytes w64 (bit_xor c.decipher_words-one.result.0 c.args.chain))) c.text_mut.ensures.value in
    let long : length c.put_word.new.text ≡ (bench_of l).text.size = ap length put ∙ length-put text (to_be_bytes w64 (bit_xor c.decipher_words-one.result.0 c.args.chain)) at (omega (arith, size, c.requires)) refl ∙ size in
    let again : c.put_word-2.new.text ≡ put_at (put_at text at (xor (undone_bytes c.args.cipher keys p) (to_be_bytes w64 c.args.chain))) (at + 8) (xor (undone_bytes c.args.cipher keys q) p)
    = c.put_word-2.ensures
    ∙ ap (λ t. put_at t (at + 8) (to_be_bytes w64 (bit_xor c.decipher_words-one.result.1 first))) (c.text_mut-2.ensures.value ∙ text-kept (bench_of l).text c.put_word.new.text long ∙ put ∙ ap (put_at text at) one)
    ∙ ap (put_at (put_at text at (xor (undone_bytes c.args.cipher keys p) (to_be_bytes w64 c.args.chain))) (at + 8)) two in
    puts-again l c.put_word.new.text c.put_word-2.new.text _ long again
