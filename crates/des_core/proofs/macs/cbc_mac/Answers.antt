use Rattle.std.proofs.Common.{◌∙◌, arith}
use Rattle.des_blocks.specs.Schedules.{enciphered_under}
use Rattle.des_core.proofs.MacLemmas.{blocks-count, coding-begun, coding-done, coding-more, mac-key}
use Rattle.des_core.proofs.macs.cbc_mac.Goals as goal

pub loop-i-init : goal.loop-i-init
loop-i-init c = record { coding = coding-begun (enciphered_under c.args.keys.now) _ _ c.args.text.now c.initial_halves-chain.ensures }

pub loop-i-preserved : goal.loop-i-preserved
loop-i-preserved c =
    let count = blocks-count c.args.text.now c.div_ceil-i-end.result c.div_ceil-i-end.ensures in
    record {
      coding = coding-more c.args.keys.now _ _ _ _ c.filled_word_at.result c.loop-i.i c.args.text.now (omega (arith, count)) c.filled_word_at.ensures c.encipher_next-chain.ensures c.loop-i.invariant.coding;
    }

pub returns-clause-schedule : goal.returns-clause-schedule
returns-clause-schedule c =
    let count = blocks-count c.args.text.now c.div_ceil-i-end.result c.div_ceil-i-end.ensures in
    c.to_be_bytes.ensures ∙ coding-done (enciphered_under c.args.keys.now) _ _ c.final_block.result c.loop-i.i c.args.text.now (omega (arith, count)) c.final_block.ensures c.loop-i.invariant.coding

pub returns-clause-key : goal.returns-clause-key
returns-clause-key c key of = returns-clause-schedule c ∙ mac-key c.args.keys.now key c.args.text.now of
