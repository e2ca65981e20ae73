use Rattle.std.proofs.Common.{◌<◌, ◌/◌, ◌^◌, bit_and, ◌∙◌, arith}
use Rattle.std.proofs.lemmas.Nat.Bits.{bit_at-lt, shr_and_one}
use Rattle.des_core.proofs.LaneHalfLemmas.{mask-lanes}
use Rattle.des_core.proofs.lanes.rounds.key_lanes.Goals as goal

pub returns-clause-bits : goal.returns-clause-bits
returns-clause-bits c e i h k =
    let bit = bit_and (c.args.group / 2 ^ c.args.place) 1 in
    let small : bit < 2 = omega (arith, shr_and_one c.args.group c.args.place, bit_at-lt c.args.group c.args.place) in
    mask-lanes bit e i h k small ∙ shr_and_one c.args.group c.args.place
