use Rattle.std.proofs.Common.{◌≡◌, ◌++◌, length, take, drop, ap, ◌∙◌, arith}
use Rattle.std.specs.Prelude.{replicate}
use Rattle.std.proofs.lemmas.List.{drop_all, length-take, length-drop}
use Rattle.multi_encipher.proofs.sealing.put_zeros.Goals as goal

pub returns : goal.returns
returns c =
    let eight : length (take 8 (drop 8 c.args.place.now)) ≡ 8 = simp (length-take, length-drop) (omega arith) in
    let zeros : c.fill.new.self ≡ replicate 8 0 = c.fill.ensures.after (λ y e. e) ∙ ap (λ n. replicate n 0) eight in
    ap (λ back. take 8 c.args.place.now ++ back)
    (ap (λ back. back ++ drop 8 (drop 8 c.args.place.now)) zeros
    ∙ ap (λ rest. replicate 8 0 ++ rest) (drop_all 8 (drop 8 c.args.place.now) (simp length-drop (omega arith))))
