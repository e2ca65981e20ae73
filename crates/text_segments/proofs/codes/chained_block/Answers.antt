use Rattle.std.proofs.Common.{◌≡◌, ◌∙◌, ◌≤◌, length, take, ap, sym, arith}
use Rattle.std.proofs.lemmas.List.{length-take, length-take-le}
use Rattle.des_blocks.specs.Modes.{blocks, cbc, fill, last_block, zero_block}
use Rattle.des_blocks.specs.Texts.{text_in}
use Rattle.key_cells.specs.Lease.{bench_of}
use Rattle.verb_rules.specs.Keys.{opened}
use Rattle.text_segments.specs.Segments.{code_cipher}
use Rattle.text_segments.proofs.BlockLemmas.{chain-none, combined, combined-front}
use Rattle.text_segments.proofs.codes.chained_block.Goals as goal

pub returns-then-count-eq0-clause-block : goal.returns-then-count-eq0-clause-block
returns-then-count-eq0-clause-block c =
    let text = text_in c.args.lease.now in
    let cipher = code_cipher c.args.rule (opened (bench_of c.args.lease.now) c.args.key.now) in
    sym (chain-none cipher c.args.start.now (take c.args.count text) (omega (arith, length-take c.args.count text, c.if-count-eq0.true)))

pub returns-clause-block : goal.returns-clause-block
returns-clause-block c =
    let text = text_in c.args.lease.now in
    let start = c.args.start.now in
    let count = c.args.count in
    let rule = c.args.rule in
    let cipher = code_cipher rule (opened (bench_of c.args.lease.now) c.args.key.now) in
    let some : 8 ≤ count = omega (arith, c.if-count-eq0.false, c.requires.blocks) in
    let within : count ≤ length text = omega (arith, c.combine_start.ensures.long, c.requires.within) in
    let long : length (take count text) ≡ count = length-take-le count text within in
    c.last_of_chain.ensures.block
    ∙ ap (λ l. last_block zero_block (cbc (code_cipher rule (opened (bench_of l) c.args.key.now)) zero_block (blocks (fill (take count (text_in c.combine_start.new.lease)))))) c.combine_start.ensures.stays
    ∙ ap (λ xs. last_block zero_block (cbc cipher zero_block (blocks (fill (take count xs))))) c.combine_start.ensures.text
    ∙ ap (λ xs. last_block zero_block (cbc cipher zero_block (blocks (fill xs)))) (combined-front text start count some within c.combine_start.ensures.block)
    ∙ combined cipher start (take count text) c.combine_start.ensures.block (omega (arith, long, c.requires.blocks)) (omega (arith, long, some))
