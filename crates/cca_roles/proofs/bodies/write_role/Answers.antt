use Rattle.std.proofs.Common.{◌≡◌, ◌-◌, List, ℕ, ◌∷◌, ◌++◌, length, take, drop, set, replicate, refl, ap, ◌∙◌, rules}
use Rattle.std.specs.Int.{to_be_bytes, w32}
use Rattle.std.proofs.lemmas.List.{append_assoc, take_at, drop_at}
use borrow.Rule.Slice.PartMut.{put_mid}
use Rattle.cca_roles.specs.RoleBody.{role_body}
use Rattle.cca_roles.proofs.bodies.write_role.Goals as goal

-- a name filled with zeros and points put into a body
put : (len : ℕ) (filled points : List ℕ) → length filled ≡ 8 → put_mid 10 4 (put_mid 2 8 (1 ∷ len ∷ replicate 190 0) filled) points ≡ 1 ∷ len ∷ (filled ++ (points ++ replicate 178 0))
put len filled points long =
    let inner : put_mid 2 8 (1 ∷ len ∷ replicate 190 0) filled ≡ 1 ∷ len ∷ (filled ++ replicate 182 0) = refl in
    let front : take 8 (filled ++ replicate 182 0) ≡ filled = take_at filled (replicate 182 0) 8 long in
    let back : drop 4 (drop 8 (filled ++ replicate 182 0)) ≡ replicate 178 0 = ap (drop 4) (drop_at filled (replicate 182 0) 8 long) in
    ap (λ l. put_mid 10 4 l points) inner
    ∙ ap (λ f. 1 ∷ len ∷ (f ++ (points ++ drop 4 (drop 8 (filled ++ replicate 182 0))))) front
    ∙ ap (λ b. 1 ∷ len ∷ (filled ++ (points ++ b))) back

pub returns : goal.returns
unfolding role_body
returns c =
    let zeros : c.fill.new.self ≡ replicate 192 0 = c.fill.ensures.after (λ y is. is) ∙ ap (λ (n : ℕ). replicate n 0) c.told-body in
    let filled : List ℕ = c.copy_from_slice.new.self in
    let points : List ℕ = c.copy_from_slice-2.new.self in
    let name : List ℕ = c.args.role.now.name in
    let long : length filled ≡ 8 = search rules in
    record {
      name = c.length.ensures.form;
      points = c.bits.ensures.known;
      body =
          ap (λ l. put_mid 10 4 (put_mid 2 8 (set (set l 0 1) 1 c.length.result) filled) points) zeros
          ∙ put c.length.result filled points long
          ∙ ap (λ n. 1 ∷ n ∷ (filled ++ (points ++ replicate 178 0))) c.length.ensures.length
          ∙ ap (λ f. 1 ∷ length name ∷ (f ++ (points ++ replicate 178 0))) (c.copy_from_slice.ensures.after ∙ c.filled.ensures)
          ∙ ap (λ l. 1 ∷ length name ∷ l) (append_assoc name (replicate (8 - length name) 0) (points ++ replicate 178 0))
          ∙ ap (λ t. 1 ∷ length name ∷ (name ++ (replicate (8 - length name) 0 ++ (t ++ replicate 178 0)))) (c.copy_from_slice-2.ensures.after ∙ c.to_be_bytes-points.ensures ∙ ap (to_be_bytes w32) c.bits.ensures.bits);
    }
