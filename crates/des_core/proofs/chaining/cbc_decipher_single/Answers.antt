use Rattle.std.proofs.Common.{◌∙◌}
use Rattle.des_blocks.specs.Schedules.{schedule_at}
use Rattle.des_blocks.specs.Texts.{schedules_in, text_in}
use Rattle.des_core.proofs.SingleLemmas.{uncbc-key}
use Rattle.des_core.proofs.chaining.cbc_decipher_single.Goals as goal

pub returns : goal.returns
returns c =
    let l = c.args.lease.now in
    record {
      text = c.decipher_text.ensures.text;
      key = λ key of. c.decipher_text.ensures.text ∙ uncbc-key (schedule_at (schedules_in l) 0) key c.args.start.now (text_in l) of;
      stays = c.decipher_text.ensures.stays;
    }
