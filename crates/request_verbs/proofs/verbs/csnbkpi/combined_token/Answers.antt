-- A key that is combined with a further part is a part itself.
use Rattle.std.proofs.Common.{◌/◌, length}
use Rattle.std.specs.Prelude.{◌==◌}
use Rattle.cca_vectors.specs.Vectors.{is_part_of, length_of}
use Rattle.request_verbs.proofs.KeyParts.{makes_combined, part_meets}
use Rattle.request_verbs.proofs.verbs.csnbkpi.combined_token.Goals as goal

pub combine_part-requires-clause-part : goal.combine_part-requires-clause-part
combine_part-requires-clause-part c =
    let vector = c.args.key.now.token.vector in
    (part_meets (length c.args.part.now / 2 == length_of vector) (is_part_of vector) c.requires.permitted).1

pub returns : goal.returns
returns c =
    makes_combined c.args.held.now c.args.lease.now c.put_part.new.lease c.combine_part.new.lease c.args.key.now c.args.last c.args.part.now c.combine_part.result c.put_part.ensures.stays
    c.put_part.ensures.part c.requires.permitted c.combine_part.ensures.token c.combine_part.ensures.denoted c.combine_part.ensures.stays
