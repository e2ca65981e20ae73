use Rattle.std.proofs.Common.{◌≡◌, ap, ◌∙◌, subst, take, drop}
use Rattle.std.specs.Int.{to_be_bytes, w64}
use Rattle.key_cells.specs.Bench.{with_text_of}
use Rattle.key_cells.specs.Lease.{bench_of, holding}
use Rattle.des_blocks.specs.Bits.{byte_bits, xor}
use Rattle.des_blocks.specs.Des.{places}
use Rattle.des_blocks.specs.Halves.{AreHalves}
use Rattle.des_blocks.specs.Schedules.{enciphered_under, schedule_at}
use Rattle.des_blocks.specs.Tables.{initial_permutation}
use Rattle.des_blocks.specs.Texts.{put_at, text_in}
use Rattle.des_blocks.proofs.ValueLemmas.{block-length}
use Rattle.des_core.specs.Chains.{chained_block}
use Rattle.des_core.proofs.MacLemmas.{bytes-of_enciphered, next-bits, word-of_halves}
use Rattle.des_core.proofs.chaining.encipher_halves.Goals as goal

pub returns : goal.returns
returns c before bytes are =
    let l = c.args.lease.now in
    let at = c.args.at in
    let text = text_in l in
    let held = schedule_at c.schedules.result.now 0 in
    let keys = schedule_at (bench_of l).schedules 0 in
    let left = c.encipher_next-next.result.left in
    let right = c.encipher_next-next.result.right in
    let word = c.word_at.result in
    let block = chained_block l at before in
    let given : to_be_bytes w64 word ≡ take 8 (drop at text) = c.word_at.ensures ∙ ap (λ t. take 8 (drop at t)) c.text.ensures.value in
    let is : enciphered_under held (xor (to_be_bytes w64 word) before) ≡ block
    = ap (λ ks. enciphered_under (schedule_at ks 0) (xor (to_be_bytes w64 word) before)) c.schedules.ensures ∙ ap (λ p. enciphered_under keys (xor p before)) given in
    let halves : AreHalves left right (places initial_permutation (byte_bits block))
    = subst (λ xs. AreHalves left right (places initial_permutation xs)) (next-bits held word before bytes ∙ ap byte_bits is) (c.encipher_next-next.ensures (byte_bits before) (block-length before bytes) are) in
    let sealed : to_be_bytes w64 c.final_block.result ≡ block
    = word-of_halves left right c.final_block.result block (bytes-of_enciphered keys (xor (take 8 (drop at text)) before)) halves c.final_block.ensures in
    record {
      text = ap (λ w. holding l (with_text_of (bench_of l) w)) (c.put_word.ensures ∙ ap (λ t. put_at t at (to_be_bytes w64 c.final_block.result)) c.text_mut.ensures.value ∙ ap (put_at text at) sealed);
      halves = halves;
    }
