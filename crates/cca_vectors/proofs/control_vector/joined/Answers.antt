use Rattle.std.proofs.Common.{◌≡◌, ℕ, List, [], ◌++◌, length, take, drop, replicate, ap, ◌∙◌}
use Rattle.std.proofs.lemmas.List.{append-nil, take_at, drop_at}
use borrow.Rule.Slice.PartMut.{put_mid}
use Rattle.cca_vectors.proofs.control_vector.joined.Goals as goal

-- a half put behind another
put : (left right : List ℕ) → length left ≡ 8 → put_mid 8 8 (left ++ replicate 8 0) right ≡ left ++ right
put left right size =
    let front : take 8 (left ++ replicate 8 0) ≡ left = take_at left (replicate 8 0) 8 size in
    let back : drop 8 (drop 8 (left ++ replicate 8 0)) ≡ [] = ap (drop 8) (drop_at left (replicate 8 0) 8 size) in
    ap (λ f. f ++ (right ++ drop 8 (drop 8 (left ++ replicate 8 0)))) front
    ∙ ap (λ b. left ++ (right ++ b)) back
    ∙ ap (λ r. left ++ r) (append-nil right)

pub returns : goal.returns
returns c =
    put c.copy_from_slice.new.self c.copy_from_slice-2.new.self c.copy_from_slice.ensures.len
    ∙ (ap (λ l. l ++ c.copy_from_slice-2.new.self) c.copy_from_slice.ensures.after
    ∙ ap (λ r. c.args.left.now ++ r) c.copy_from_slice-2.ensures.after)
