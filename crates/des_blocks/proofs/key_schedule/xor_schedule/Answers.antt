use Rattle.std.proofs.Common.{ap, ◌∙◌, arith}
use Rattle.des_blocks.specs.Bits.{pieces}
use Rattle.des_blocks.specs.Schedules.{group_bits, keys_of}
use Rattle.des_blocks.proofs.LinearLemmas.{groups-keys, keys-joined}
use Rattle.des_blocks.proofs.key_schedule.xor_schedule.Goals as goal

pub returns-clause-keys : goal.returns-clause-keys
unfolding keys_of
returns-clause-keys c =
    ap (λ groups. pieces 16 48 (group_bits groups)) c.xor.ensures.combined
    ∙ groups-keys c.args.into.now.groups c.args.other.now.groups (omega arith)

pub returns-clause-key : goal.returns-clause-key
returns-clause-key c = λ a b e p q. keys-joined a b _ _ _ e (returns-clause-keys c) p q
