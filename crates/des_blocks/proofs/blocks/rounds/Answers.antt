use Rattle.std.proofs.Common.{◌*◌, ◌+◌, arith}
use Rattle.des_blocks.specs.Schedules.{keys_of, ordered}
use Rattle.des_blocks.proofs.GroupLemmas.{length-ordered}
use Rattle.des_blocks.proofs.RoundLemmas.{keyed-begun, keyed-more, keyed-round, rounds-begun, rounds-more, rounds-done}
use Rattle.des_blocks.proofs.blocks.rounds.Goals as goal

pub loop-two-init : goal.loop-two-init
loop-two-init c =
    let keys = ordered c.args.reversed (keys_of c.args.keys.now) in
    record { value = λ both are. rounds-begun keys _ _ both are; keyed = keyed-begun keys c.args.halves.right c.round_key.result c.round_key.ensures }

pub loop-two-preserved : goal.loop-two-preserved
loop-two-preserved c =
    let long = length-ordered c.args.reversed c.args.keys.now in
    let keys = ordered c.args.reversed (keys_of c.args.keys.now) in
    let two = c.loop-two.two in
    let left = c.loop-two.left in
    let right = c.loop-two.right in
    let one = c.next_half-one.result in
    let next = c.next_half-next.result in
    record {
      value = λ both are. rounds-more keys left right one.half next.half two _ (omega arith)
          (keyed-round keys left right c.loop-two.groups one.half (2 * two) (omega arith) c.loop-two.invariant.keyed c.next_half-one.ensures.half)
          (keyed-round keys right one.half one.groups next.half (2 * two + 1) (omega arith) c.next_half-one.ensures.groups c.next_half-next.ensures.half)
          (c.loop-two.invariant.value both are);
      keyed = keyed-more keys next.half next.groups two c.next_half-next.ensures.groups;
    }

pub returns : goal.returns
returns c both are =
    let long = length-ordered c.args.reversed c.args.keys.now in
    rounds-done (ordered c.args.reversed (keys_of c.args.keys.now)) c.loop-two.left c.loop-two.right c.loop-two.two _ (omega arith) (c.loop-two.invariant.value both are)
