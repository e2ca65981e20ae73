use Rattle.std.proofs.Common.{◌+◌, bit_xor, slice_index, ap, ◌∙◌}
use Rattle.std.specs.Int.{to_be_bytes, w64}
use Rattle.des_blocks.specs.Bits.{xor}
use Rattle.des_blocks.specs.Texts.{put_at}
use Rattle.des_core.proofs.ChainLemmas.{bytes-xor}
use Rattle.des_core.proofs.lanes.chains.put_pair.Goals as goal

pub returns-clause-bytes : goal.returns-clause-bytes
returns-clause-bytes c =
    let part = c.args.part.now in
    let at = c.args.at in
    let a = slice_index c.args.pair 0 in
    let b = slice_index c.args.pair 1 in
    let first = c.word_at-first.result in
    c.put_word-2.ensures
    ∙ ap (λ text. put_at text (at + 8) (to_be_bytes w64 (bit_xor b first))) (c.put_word.ensures ∙ ap (put_at part at) (bytes-xor a c.args.chain))
    ∙ ap (put_at (put_at part at (xor (to_be_bytes w64 a) (to_be_bytes w64 c.args.chain))) (at + 8)) (bytes-xor b first ∙ ap (xor (to_be_bytes w64 b)) c.word_at-first.ensures)
