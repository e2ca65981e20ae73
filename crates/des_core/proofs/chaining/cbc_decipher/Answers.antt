use Rattle.key_cells.specs.Bench.{text_of}
use Rattle.key_cells.specs.Lease.{bench_of}
use Rattle.des_blocks.specs.Modes.{blocks}
use Rattle.des_core.proofs.ChainLemmas.{uncbc-keys}
use Rattle.des_core.proofs.chaining.cbc_decipher.Goals as goal

pub returns : goal.returns
returns c =
    let l = c.args.lease.now in
    record {
      text = c.decipher_text.ensures.text;
      keys = λ a b d of. uncbc-keys (bench_of l).schedules a b d c.args.start.now _ (blocks (text_of (bench_of l).text)) of c.decipher_text.ensures.text;
      stays = c.decipher_text.ensures.stays;
    }
