use Rattle.std.proofs.Common.{◌∙◌, None, map, sym, arith}
use Rattle.std.proofs.lemmas.List.{ext_get_or, get_or-map, length-map}
use Rattle.record_bodies.specs.Entries.{turned}
use Rattle.record_bodies.proofs.rows.turn_rows.Goals as goal

pub returns : goal.returns
returns c =
    ext_get_or None c.loop-row.rows (map turned c.args.rows.now) (c.loop-row.invariant.size ∙ sym (length-map c.args.rows.now turned))
    (λ n within. c.loop-row.invariant.done n (omega (arith, within, c.loop-row-test.false, c.loop-row.auto.rows)) ∙ sym (get_or-map turned c.args.rows.now n None None (omega (arith, within, c.loop-row.invariant.size))))
