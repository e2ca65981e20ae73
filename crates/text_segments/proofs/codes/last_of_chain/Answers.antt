use Rattle.std.proofs.Common.{◌≡◌, ◌∙◌, take, ap}
use Rattle.cca_vectors.specs.Vectors.{length_of}
use Rattle.des_blocks.specs.Modes.{mac_x99}
use Rattle.key_cells.specs.Bench.{text_of}
use Rattle.key_cells.specs.Lease.{bench_of}
use Rattle.verb_rules.specs.Keys.{opened}
use Rattle.mac_verbs.proofs.CodeLemmas.{mac_length}
use Rattle.text_segments.proofs.CodeLemmas.{code_under}
use Rattle.text_segments.proofs.codes.last_of_chain.Goals as goal

pub returns-clause-block : goal.returns-clause-block
returns-clause-block c =
    let clear = opened (bench_of c.args.lease.now) c.args.key.now in
    let text = text_of (bench_of c.args.lease.now).text in
    let read : c.text.result.now ≡ text = c.text.ensures.value ∙ ap (λ l. text_of (bench_of l).text) c.schedule_key.ensures.stays in
    code_under c.args.rule clear c.schedules.result.now (bench_of c.schedule_key.new.lease).schedules (take c.args.count text) c.cbc_mac.result
    (c.schedule_key.ensures.length.size ∙ mac_length c.args.rule (length_of c.args.key.now.token.vector) c.requires.key)
    c.schedules.ensures c.schedule_key.ensures.schedules
    (λ key of. c.cbc_mac.ensures.key key of ∙ ap (λ xs. mac_x99 key (take c.args.count xs)) read)
