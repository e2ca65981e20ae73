use Rattle.std.proofs.Common.{get_or, refl, arith, rules, ◌∙◌}
use Rattle.std.specs.Int.{to_le_bytes, w64}
use Rattle.des_blocks.proofs.KeyLemmas.{key-at_numbers, no-keys, schedule-more, schedule-size, schedule-done}
use Rattle.des_blocks.proofs.key_schedule.put_keys.Goals as goal

pub loop-round-init : goal.loop-round-init
loop-round-init c = record { size = search rules; value = λ key are. no-keys c.args.out.now.groups key }

pub loop-round-preserved : goal.loop-round-preserved
loop-round-preserved c =
    let round = c.loop-round.round in
    let word = to_le_bytes w64 (get_or c.args.words.now round 0) in
    record {
      size = schedule-size c.loop-round.out.groups _ word round (omega arith) c.loop-round.invariant.size refl c.put_key.ensures;
      value = λ key are. schedule-more key c.loop-round.out.groups _ word round (omega arith) c.loop-round.invariant.size refl c.put_key.ensures
          (are round (omega arith) ∙ key-at_numbers key round (omega arith))
          (c.loop-round.invariant.value key are);
    }

pub returns : goal.returns
returns c = λ key are. schedule-done c.loop-round.out key c.loop-round.round (omega arith) c.loop-round.invariant.size (c.loop-round.invariant.value key are)
