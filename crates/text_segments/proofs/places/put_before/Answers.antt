use Rattle.std.proofs.Common.{◌∙◌, length, sym}
use Rattle.std.proofs.lemmas.Bool.{eqb-true}
use Rattle.text_segments.proofs.PlaceLemmas.{moved_up, none_before}
use Rattle.text_segments.proofs.places.put_before.Goals as goal

pub returns-then-is_empty : goal.returns-then-is_empty
returns-then-is_empty c =
    none_before c.args.text.now c.args.bytes.now (eqb-true (length c.args.bytes.now) 0 (sym c.is_empty.ensures ∙ c.if-is_empty.true))

pub returns : goal.returns
returns c =
    moved_up c.args.text.now c.args.bytes.now c.copy_within.new.self c.copy_from_slice.new.self c.requires c.copy_within.ensures.after
    c.copy_from_slice.ensures.after
