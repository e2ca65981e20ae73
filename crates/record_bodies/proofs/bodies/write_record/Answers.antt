use Rattle.std.proofs.Common.{◌≡◌, ◌-◌, List, ℕ, ◌∷◌, ◌++◌, length, take, drop, set, replicate, refl, ap, ◌∙◌, arith, rules}
use Rattle.std.proofs.lemmas.List.{append_assoc, take_at, drop_at, length-append}
use borrow.Rule.Slice.PartMut.{put_mid}
use Rattle.record_bodies.specs.RecordBody.{record_body}
use Rattle.record_bodies.proofs.bodies.write_record.Goals as goal

-- a label filled with zeros and a token put into a body
put : (kind len : ℕ) (filled token : List ℕ) → length filled ≡ 64 → put_mid 66 64 (put_mid 2 64 (kind ∷ len ∷ replicate 190 0) filled) token ≡ kind ∷ len ∷ (filled ++ (token ++ replicate 62 0))
put kind len filled token long =
    let inner : put_mid 2 64 (kind ∷ len ∷ replicate 190 0) filled ≡ kind ∷ len ∷ (filled ++ replicate 126 0) = refl in
    let front : take 64 (filled ++ replicate 126 0) ≡ filled = take_at filled (replicate 126 0) 64 long in
    let back : drop 64 (drop 64 (filled ++ replicate 126 0)) ≡ replicate 62 0 = ap (drop 64) (drop_at filled (replicate 126 0) 64 long) in
    ap (λ l. put_mid 66 64 l token) inner
    ∙ ap (λ f. kind ∷ len ∷ (f ++ (token ++ drop 64 (drop 64 (filled ++ replicate 126 0))))) front
    ∙ ap (λ b. kind ∷ len ∷ (filled ++ (token ++ b))) back

-- and a piece of 8 bytes behind them
behind : (front piece zeros : List ℕ) (at : ℕ) → length front ≡ at → take at (front ++ zeros) ++ (piece ++ drop 8 (drop at (front ++ zeros))) ≡ (front ++ piece) ++ drop 8 zeros
behind front piece zeros at long =
    ap (λ f. f ++ (piece ++ drop 8 (drop at (front ++ zeros)))) (take_at front zeros at long)
    ∙ ap (λ b. front ++ (piece ++ drop 8 b)) (drop_at front zeros at long)
    ∙ ap (λ x. x) (append_back front piece (drop 8 zeros))
  where
    append_back : (a b c : List ℕ) → a ++ (b ++ c) ≡ (a ++ b) ++ c
    append_back a b c = simp append_assoc

together : (a b c : List ℕ) → a ++ (b ++ c) ≡ (a ++ b) ++ c
together a b c = simp append_assoc

apart : (f t p l r e : List ℕ) → (((f ++ t) ++ p) ++ l) ++ r ++ e ≡ f ++ (t ++ (p ++ (l ++ (r ++ e))))
apart f t p l r e = simp append_assoc

put_second : (kind len : ℕ) (filled token p l r : List ℕ) → length filled ≡ 64 → length token ≡ 64 → length p ≡ 8 → length l ≡ 8
    → put_mid 146 8 (put_mid 138 8 (put_mid 130 8 (kind ∷ len ∷ (filled ++ (token ++ replicate 62 0))) p) l) r ≡ kind ∷ len ∷ (filled ++ (token ++ (p ++ (l ++ (r ++ replicate 38 0)))))
put_second kind len filled token p l r long_filled long_token long_p long_l =
    let two : length (filled ++ token) ≡ 128 = length-append filled token ∙ omega (arith, long_filled, long_token) in
    let three : length ((filled ++ token) ++ p) ≡ 136 = length-append (filled ++ token) p ∙ omega (arith, two, long_p) in
    let four : length (((filled ++ token) ++ p) ++ l) ≡ 144 = length-append ((filled ++ token) ++ p) l ∙ omega (arith, three, long_l) in
    ap (λ x. put_mid 146 8 (put_mid 138 8 (put_mid 130 8 (kind ∷ len ∷ x) p) l) r) (together filled token (replicate 62 0))
    ∙ ap (λ x. put_mid 146 8 (put_mid 138 8 (kind ∷ len ∷ x) l) r) (behind (filled ++ token) p (replicate 62 0) 128 two)
    ∙ ap (λ x. put_mid 146 8 (kind ∷ len ∷ x) r) (behind ((filled ++ token) ++ p) l (replicate 54 0) 136 three)
    ∙ ap (λ x. kind ∷ len ∷ x) (behind (((filled ++ token) ++ p) ++ l) r (replicate 46 0) 144 four)
    ∙ ap (λ x. kind ∷ len ∷ x) (apart filled token p l r (replicate 38 0))

pub returns-clause-body : goal.returns-clause-body
unfolding record_body
returns-clause-body c =
    let zeros : c.fill.new.self ≡ replicate 192 0 = c.fill.ensures.after (λ y is. is) ∙ ap (λ (n : ℕ). replicate n 0) c.told-body in
    let filled : List ℕ = c.copy_from_slice.new.self in
    let token : List ℕ = c.copy_from_slice-2.new.self in
    let p : List ℕ = c.copy_from_slice-3.new.self in
    let l : List ℕ = c.copy_from_slice-4.new.self in
    let r : List ℕ = c.copy_from_slice-5.new.self in
    let long : length filled ≡ 64 = search rules in
    let long_token : length token ≡ 64 = search rules in
    let long_p : length p ≡ 8 = search rules in
    let long_l : length l ≡ 8 = search rules in
    ap (λ b. put_mid 146 8 (put_mid 138 8 (put_mid 130 8 (put_mid 66 64 (put_mid 2 64 (set (set b 0 c.args.kind) 1 c.length.result) filled) token) p) l) r) zeros
    ∙ ap (λ b. put_mid 146 8 (put_mid 138 8 (put_mid 130 8 b p) l) r) (put c.args.kind c.length.result filled token long)
    ∙ put_second c.args.kind c.length.result filled token p l r long long_token long_p long_l
    ∙ ap (λ n. c.args.kind ∷ n ∷ (filled ++ (token ++ (p ++ (l ++ (r ++ replicate 38 0)))))) c.length.ensures.length
    ∙ ap (λ f. c.args.kind ∷ length c.args.label.now ∷ (f ++ (token ++ (p ++ (l ++ (r ++ replicate 38 0)))))) (c.copy_from_slice.ensures.after ∙ c.filled.ensures)
    ∙ ap (λ x. c.args.kind ∷ length c.args.label.now ∷ x) (append_assoc c.args.label.now (replicate (64 - length c.args.label.now) 0) (token ++ (p ++ (l ++ (r ++ replicate 38 0)))))
    ∙ ap (λ x. c.args.kind ∷ length c.args.label.now ∷ (c.args.label.now ++ (replicate (64 - length c.args.label.now) 0 ++ x)))
    (ap (λ t. t ++ (p ++ (l ++ (r ++ replicate 38 0)))) c.copy_from_slice-2.ensures.after
    ∙ ap (λ x. c.args.token.now ++ (x ++ (l ++ (r ++ replicate 38 0)))) c.copy_from_slice-3.ensures.after
    ∙ ap (λ x. c.args.token.now ++ (c.args.second.now.pattern.bytes ++ (x ++ (r ++ replicate 38 0)))) c.copy_from_slice-4.ensures.after
    ∙ ap (λ x. c.args.token.now ++ (c.args.second.now.pattern.bytes ++ (c.args.second.now.sealed.left ++ (x ++ replicate 38 0)))) c.copy_from_slice-5.ensures.after)
