use Rattle.std.proofs.Common.{◌++◌, drop, take}
use Rattle.key_cells.specs.Bytes.{xor}
use Rattle.des_blocks.specs.Texts.{text_in}
use Rattle.key_cells.specs.Lease.{bench_of}
use Rattle.text_segments.proofs.PlaceLemmas.{Written, combined_place}
use Rattle.text_segments.proofs.places.combine_start.Goals as goal

written : (c : goal.After-lease-1)
    → Written (bench_of c.args.lease.now).text c.combine_front.new.text
    (xor (take 8 (text_in c.args.lease.now)) c.args.start.now ++ drop 8 (text_in c.args.lease.now))
written c =
    combined_place (bench_of c.args.lease.now).text c.text_mut.result.now c.args.start.now c.combine_front.new.text
    c.text_mut.ensures.value c.text_mut.ensures.size c.requires c.told-start c.combine_front.ensures

pub returns-clause-text : goal.returns-clause-text
returns-clause-text c = (written c).text

pub returns-clause-past : goal.returns-clause-past
returns-clause-past c = (written c).past
