use Rattle.std.proofs.Common.{◌≡◌, ◌∙◌, ◌-◌, ◌<◌, length, drop, sym, arith}
use Rattle.std.proofs.lemmas.Bool.{eqb-false, eqb-true}
use Rattle.std.proofs.lemmas.List.{length-drop, take_all}
use Rattle.text_segments.proofs.BlockLemmas.{last-none, last-of}
use Rattle.text_segments.proofs.places.last_block.Goals as goal

pub returns-then-is_empty : goal.returns-then-is_empty
returns-then-is_empty c =
    sym (last-none c.args.start.now c.args.text.now (eqb-true (length c.args.text.now) 0 (sym c.is_empty.ensures ∙ c.if-is_empty.true)))

pub returns : goal.returns
returns c =
    let text = c.args.text.now in
    let apart : (length text ≡ 0) → ⊥ = eqb-false (length text) 0 (sym c.is_empty.ensures ∙ c.if-is_empty.false) in
    let some : 0 < length text = omega (arith, apart) in
    c.copy_from_slice.ensures.after
    ∙ take_all (length text - (length text - 8)) (drop (length text - 8) text) (omega (arith, length-drop (length text - 8) text))
    ∙ last-of c.args.start.now text c.requires some
