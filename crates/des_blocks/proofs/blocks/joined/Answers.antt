use Rattle.std.proofs.Common.{◌∙◌, sym}
use Rattle.des_blocks.specs.Bits.{bits}
use Rattle.des_blocks.proofs.BitLemmas.{length-bits}
use Rattle.des_blocks.proofs.HalfLemmas.{halves-joined}
use Rattle.des_blocks.proofs.blocks.joined.Goals as goal

pub returns : goal.returns
returns c before size are =
    halves-joined _ _ _ _ (bits 64 c.args.block) before (length-bits 64 c.args.block ∙ sym size) c.initial_apart-own.ensures are
