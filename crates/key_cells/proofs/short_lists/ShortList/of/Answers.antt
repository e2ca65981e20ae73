use Rattle.std.proofs.Common.{◌≡◌, ◌-◌, ◌++◌, ◌≤◌, ℕ, List, length, take, replicate, refl, sym, ap, ◌∙◌}
use Rattle.std.proofs.lemmas.List.{take_at, drop-replicate}
use Rattle.key_cells.specs.ShortInside.{IsShort, filled_to}
use Rattle.key_cells.proofs.short_lists.ShortList.of.Goals as goal

-- bytes put to the front of zeros
put : (most : ℕ) (list room : List ℕ) → length list ≤ most → room ≡ filled_to most list → IsShort most (length list) room
put most list room few full =
    let shown : take (length list) room ≡ list = ap (take (length list)) full ∙ take_at list (replicate (most - length list) 0) (length list) refl in
    record { short = few; long = ap length shown; filled = full ∙ ap (filled_to most) (sym shown) }

pub invariant_of-result : goal.invariant_of-result
invariant_of-result g c =
    let list : List ℕ = c.args.bytes.now in
    put g.row.N list c.put_front.new.room c.requires.few (c.put_front.ensures ∙ ap (λ l. list ++ l) (drop-replicate (length list) g.row.N 0))
