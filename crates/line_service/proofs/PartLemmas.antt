-- A part of a list that moves to the end of another, of which a number of elements is kept.
use Rattle.std.proofs.Common.{◌≡◌, ℕ, ◌+◌, ◌-◌, ◌≤◌, min, Bool, List, ◌++◌, length, take, drop, sym, ap, ◌∙◌, inl, inr, arith}
use Rattle.std.specs.List.{slice_range}
use Rattle.std.proofs.lemmas.Bool.{cases_lt}
use Rattle.std.proofs.lemmas.List.{take-take, drop-drop, drop-take, take_all, length-take}
use Rattle.std.proofs.Math.Seq.{take-append-add}
use Rattle.line_service.specs.Reading.{Reading}

-- readings with equal parts
pub same-reading : (l l' p p' : List ℕ) (e : Bool) (t : ℕ) → l ≡ l' → p ≡ p' → ◌≡◌ {A = Reading} (record { line = l; pending = p; ended = e; taken = t }) (record { line = l'; pending = p'; ended = e; taken = t })
same-reading l l' p p' e t same-l same-p = cc

-- the front of a front
take-take_min : (j c : ℕ) (xs : List ℕ) → take j (take c xs) ≡ take (min c j) xs
take-take_min j c xs =
    elim (cases_lt j c) [
      | inl less ↦ let is : min c j ≡ j = omega arith in rw is (take-take j c xs (omega arith))
      | inr more ↦ let is : min c j ≡ c = omega arith in rw is (take_all j (take c xs) (omega (arith, length-take c xs)))
    ]

-- the front of xs ++ ys, where xs isn't longer
pub take-append-over : (n : ℕ) (xs ys : List ℕ) → length xs ≤ n → take n (xs ++ ys) ≡ xs ++ take (n - length xs) ys
take-append-over n xs ys small =
    let is : n ≡ length xs + (n - length xs) = omega arith in
    ap (λ m. take m (xs ++ ys)) is ∙ take-append-add xs ys (n - length xs)

-- a part of `src` that moves to the end of xs, of which m elements are kept
pub kept_front : (xs src : List ℕ) (c s e m : ℕ) → length xs ≤ m → s + c ≤ e → xs ++ slice_range src s (s + min c (m - length xs)) ≡ take m (xs ++ take c (slice_range src s e))
kept_front xs src c s e m small within =
    let j = m - length xs in
    let width : s + min c j - s ≡ min c j = omega arith in
    let front : take c (take (e - s) (drop s src)) ≡ take c (drop s src) = take-take c (e - s) (drop s src) (omega arith) in
    ap (λ n. xs ++ take n (drop s src)) width
    ∙ ap (λ ys. xs ++ ys) (sym (take-take_min j c (drop s src)) ∙ ap (take j) (sym front))
    ∙ sym (take-append-over m xs (take c (slice_range src s e)) small)

-- what is left of a part of `src` whose first c elements were taken
pub rest_of_range : (src : List ℕ) (c s e : ℕ) → s + c ≤ e → slice_range src (s + c) e ≡ drop c (slice_range src s e)
rest_of_range src c s e within =
    let width : e - s ≡ c + (e - (s + c)) = omega arith in
    ap (take (e - (s + c))) (sym (drop-drop c s src))
    ∙ sym (drop-take c (e - (s + c)) (drop s src))
    ∙ ap (λ n. drop c (take n (drop s src))) (sym width)

-- a range is as long as its ends are apart
pub length-slice_range_le : (src : List ℕ) (s e : ℕ) → length (slice_range src s e) ≤ e - s
length-slice_range_le src s e = omega (arith, length-take (e - s) (drop s src))
