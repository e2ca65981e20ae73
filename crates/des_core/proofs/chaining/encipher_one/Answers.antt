use Rattle.std.proofs.Common.{◌∙◌, ap, take, drop, bit_xor}
use Rattle.key_cells.specs.Bench.{text_of}
use Rattle.key_cells.specs.Lease.{bench_of}
use Rattle.des_blocks.specs.Bits.{bits}
use Rattle.des_blocks.specs.Schedules.{ede_under}
use Rattle.des_core.proofs.ChainLemmas.{cipher-word}
use Rattle.des_core.proofs.chaining.encipher_one.Goals as goal

pub returns-clause-block : goal.returns-clause-block
returns-clause-block c =
    let l = c.args.lease.now in
    cipher-word (ede_under (bench_of l).schedules) (take 8 (drop c.args.at (text_of (bench_of l).text))) c.word_at.result c.args.chain c.ede_word-word.result
    (c.word_at.ensures ∙ ap (λ text. take 8 (drop c.args.at text)) c.text.ensures.value)
    (c.ede_word-word.ensures ∙ ap (λ keys. ede_under keys (bits 64 (bit_xor c.word_at.result c.args.chain))) c.schedules.ensures)
