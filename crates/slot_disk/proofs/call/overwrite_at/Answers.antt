use Rattle.std.proofs.Common.{◌≡◌, ℕ, ◌+◌, ◌-◌, List, ◌++◌, take, drop, sym, ◌∙◌, ap, append_assoc, arith}
use Rattle.std.proofs.lemmas.List.{drop-drop}
use Rattle.slot_disk.proofs.Overwriting.{overwrite-clipped}
use Rattle.slot_disk.proofs.call.overwrite_at.Goals as goal

pub returns : goal.returns
returns c =
    let start = c.min-start.result in
    let count = c.min-count.result in
    let cut : (start + count) - start ≡ count = omega arith in
    ap (λ (l : List ℕ). take start c.args.target.now ++ (l ++ drop ((start + count) - start) (drop start c.args.target.now))) c.copy_from_slice.ensures.after
    ∙ ap (λ (n : ℕ). take start c.args.target.now ++ (take count c.args.bytes.now ++ drop n (drop start c.args.target.now))) cut
    ∙ ap (λ (l : List ℕ). take start c.args.target.now ++ (take count c.args.bytes.now ++ l)) (drop-drop count start c.args.target.now)
    ∙ sym (append_assoc (take start c.args.target.now) (take count c.args.bytes.now) (drop (start + count) c.args.target.now))
    ∙ sym (overwrite-clipped c.args.target.now c.args.at c.args.bytes.now start count c.min-start.ensures c.min-count.ensures)
