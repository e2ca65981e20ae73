use Rattle.std.proofs.Common.{◌∙◌}
use Rattle.std.proofs.lemmas.Option.{MatchOption-at_some}
use Rattle.master_registers.proofs.BodyLaws.{first_piece, long_piece}
use Rattle.master_registers.proofs.moves.master_at.Goals as goal

pub unwrap-requires : goal.unwrap-requires
unwrap-requires c = c.first_chunk.ensures.variant.1 (long_piece c.args.body.now c.args.at c.told-body c.requires)

pub returns : goal.returns
returns c =
    (MatchOption-at_some _ _ c.unwrap.result c.unwrap.ensures c.first_chunk.ensures.cases).same
    ∙ first_piece c.args.body.now c.args.at c.told-body c.requires
