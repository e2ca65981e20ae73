use Rattle.std.proofs.Common.{◌≡◌, ◌+◌, ◌-◌, ℕ, List, ◌++◌, length, drop, replicate, sym, ap, ◌∙◌, arith, append_assoc}
use Rattle.std.proofs.lemmas.List.{take_at, drop_at, drop-replicate}
use borrow.Rule.Slice.PartMut.{put_mid}
use Rattle.audit_trail.proofs.bodies.put_next.Goals as goal

-- a piece behind the front of a body of which the others are zero
put : (front piece body : List ℕ) (at k : ℕ) → length front ≡ at → k ≡ length piece → body ≡ front ++ replicate (192 - at) 0
    → put_mid at k body piece ≡ (front ++ piece) ++ replicate (192 - (at + length piece)) 0
put front piece body at k long size is =
    let zeros : List ℕ = replicate (192 - at) 0 in
    ap (λ l. put_mid at k l piece) is
    ∙ ap (λ f. f ++ (piece ++ drop k (drop at (front ++ zeros)))) (take_at front zeros at long)
    ∙ ap (λ b. front ++ (piece ++ drop k b)) (drop_at front zeros at long)
    ∙ ap (λ b. front ++ (piece ++ b)) (drop-replicate k (192 - at) 0 ∙ ap (λ (n : ℕ). replicate n 0) (omega (arith, size)))
    ∙ sym (append_assoc front piece (replicate (192 - (at + length piece)) 0))

pub returns : goal.returns
returns c front long is =
    ap (λ p. put_mid c.args.at (c.args.at + length c.args.piece.now - c.args.at) c.args.body.now p) c.copy_from_slice.ensures.after
    ∙ put front c.args.piece.now c.args.body.now c.args.at (c.args.at + length c.args.piece.now - c.args.at) long (omega arith) is
