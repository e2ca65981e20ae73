use Rattle.std.proofs.Common.{◌≡◌, ◌∙◌, ◌++◌, List, ℕ, ap}
use Rattle.des_blocks.specs.Modes.{blocks, cbc, e, last_block}
use Rattle.des_blocks.specs.Texts.{cbc_text, text_in}
use Rattle.key_cells.specs.Lease.{bench_of}
use Rattle.verb_rules.specs.Keys.{opened}
use Rattle.text_segments.specs.Segments.{rest_part, whole_part}
use Rattle.text_segments.specs.declared.chains.Chain.{Chain}
use Rattle.text_segments.proofs.BlockLemmas.{blocks-joined, cbc-eight}
use Rattle.text_segments.proofs.CutLaws.{e_length}
use Rattle.text_segments.proofs.ciphering.encipher_segment.Goals as goal

abbrev made : List ℕ → List ℕ → Chain
made block carried = record { block = block; carried = carried }

pub returns-clause-chain : goal.returns-clause-chain
returns-clause-chain c =
    let key = c.args.key.now in
    let start = c.args.chain.now.block in
    let cipher = e (opened (bench_of c.args.lease.now) key).key in
    let whole = whole_part (c.args.chain.now.carried ++ text_in c.args.lease.now) in
    let same_key = ap (λ l. opened (bench_of l) key) c.take_rest-carried.ensures.stays ∙ ap (λ l. opened (bench_of l) key) c.put_carried.ensures.stays in
    let input : text_in c.take_rest-carried.new.lease ≡ whole = c.take_rest-carried.ensures.text ∙ ap whole_part c.put_carried.ensures.text in
    let output : text_in c.encipher_blocks.new.lease ≡ cbc_text cipher start whole
    = c.encipher_blocks.ensures.text ∙ ap (λ k. cbc_text (e k.key) start (text_in c.take_rest-carried.new.lease)) same_key ∙ ap (cbc_text cipher start) input in
    let block : c.last_block-block.result ≡ last_block start (cbc cipher start (blocks whole))
    = c.last_block-block.ensures ∙ ap (λ t. last_block start (blocks t)) (c.text.ensures.value ∙ output)
    ∙ ap (last_block start) (blocks-joined (cbc cipher start (blocks whole)) (cbc-eight cipher (e_length (opened (bench_of c.args.lease.now) key).key) start (blocks whole))) in
    ap (λ b. made b c.take_rest-carried.result) block
    ∙ ap (made (last_block start (cbc cipher start (blocks whole)))) (c.take_rest-carried.ensures.rest ∙ ap rest_part c.put_carried.ensures.text)
