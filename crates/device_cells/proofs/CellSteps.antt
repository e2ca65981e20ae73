-- What writes to a cell's sectors do to its selected body and to the other cells'.
use Rattle.std.proofs.Common.{◌≡◌, ◌≢◌, ◌≤◌, ◌<◌, ◌⊎◌, inl, inr, ⊎_elim, ℕ, ◌+◌, ◌-◌, ◌*◌, ◌%◌, min, List, [], ◌∷◌, length, drop, get_or, slice_range, refl, sym, ◌∙◌, ap, subst, arith, length-drop}
use Rattle.std.proofs.lemmas.List.{length-take, places}
use Rattle.std.proofs.lemmas.Bool.{cases_lt, cases_eq}
use Rattle.std.proofs.lemmas.Grind.{same_number_lists}
use Rattle.device_cells.specs.Cells.{selected, body_place, body_at, body, other_body, IsUntouched, IsReplaced, IsReplacing}
use Rattle.device_cells.specs.Ranges.{SameOutside, HoldsPiece}

-- ---- ranges of lists

pub length-range : (xs : List ℕ) (i n : ℕ) → length (slice_range xs i (i + n)) ≡ min n (length xs - i)
length-range xs i n = length-take (i + n - i) (drop i xs) ∙ omega (arith, length-drop i xs)

pub get_or-range : (xs : List ℕ) (i n k : ℕ) → k < n → get_or (slice_range xs i (i + n)) k 0 ≡ get_or xs (i + k) 0
get_or-range xs i n k within = grind (arith, places)

-- lists of one length that agree in a range
range-same : (xs ys : List ℕ) (i n : ℕ) → length ys ≡ length xs → ((k : ℕ) → k < n → get_or ys (i + k) 0 ≡ get_or xs (i + k) 0) → slice_range ys i (i + n) ≡ slice_range xs i (i + n)
range-same xs ys i n long same = same_number_lists (slice_range ys i (i + n)) (slice_range xs i (i + n))
    (length-range ys i n ∙ ap (λ (l : ℕ). min n (l - i)) long ∙ sym (length-range xs i n))
    (λ k within. let below : k < n = omega (arith, length-range ys i n) in get_or-range ys i n k below ∙ same k below ∙ sym (get_or-range xs i n k below))

range-outside : (at n i m : ℕ) (old new : List ℕ) → SameOutside at n old new → (i + m ≤ at) ⊎ (at + n ≤ i) → slice_range new i (i + m) ≡ slice_range old i (i + m)
range-outside at n i m old new same (inl before) = range-same old new i m same.size (λ k within. same.before (i + k) (omega arith))
range-outside at n i m old new same (inr behind) = range-same old new i m same.size (λ k within. same.after (i + k) (omega arith))

range-holds : (at : ℕ) (bytes old new : List ℕ) → HoldsPiece at bytes old new → at + length bytes ≤ length old → slice_range new at (at + length bytes) ≡ bytes
range-holds at bytes old new holds within = same_number_lists (slice_range new at (at + length bytes)) bytes
    (length-range new at (length bytes) ∙ omega (arith, holds.outside.size))
    (λ k inside. let below : k < length bytes = omega (arith, length-range new at (length bytes)) in get_or-range new at (length bytes) k below ∙ holds.here k below)

-- ---- parts of a cell

-- a range within a wider one
pub outside_wider : (at n wide_at wide_n : ℕ) (old new : List ℕ) → SameOutside at n old new → wide_at ≤ at → at + n ≤ wide_at + wide_n → SameOutside wide_at wide_n old new
outside_wider at n wide_at wide_n old new same left right = record {
  size = same.size;
  before = λ k below. same.before k (omega arith);
  after = λ k above. same.after k (omega arith);
}

pub outside_then : (at n : ℕ) (a b c : List ℕ) → SameOutside at n a b → SameOutside at n b c → SameOutside at n a c
outside_then at n a b c one two = record {
  size = two.size ∙ one.size;
  before = λ k below. two.before k below ∙ one.before k below;
  after = λ k above. two.after k above ∙ one.after k above;
}

pub outside_same : (at n : ℕ) (a : List ℕ) → SameOutside at n a a
outside_same at n a = record { size = refl; before = λ k below. refl; after = λ k above. refl }

body-side : (image : List ℕ) (n : ℕ) → body image n ≡ body_at image n (selected image n)
unfolding body
body-side image n = refl

other-side : (image : List ℕ) (n : ℕ) → other_body image n ≡ body_at image n (1 - selected image n)
unfolding other_body
other-side image n = refl

selected-at : (old new : List ℕ) (n : ℕ) → get_or new (1536 * n) 0 ≡ get_or old (1536 * n) 0 → selected new n ≡ selected old n
unfolding selected
selected-at old new n same = ap (λ (b : ℕ). b % 2) same

pub selected_below : (image : List ℕ) (n : ℕ) → selected image n < 2
unfolding selected
selected_below image n = omega arith

selector-written : (n side : ℕ) (old new : List ℕ) → HoldsPiece (1536 * n) (side ∷ []) old new → get_or new (1536 * n) 0 ≡ side
selector-written n side old new holds = ap (λ (k : ℕ). get_or new k 0) (at_front (1536 * n)) ∙ holds.here 0 (omega arith)
  where
    at_front : (k : ℕ) → k ≡ k + 0
    at_front k = omega arith

selected-written : (n side : ℕ) (old new : List ℕ) → side < 2 → HoldsPiece (1536 * n) (side ∷ []) old new → selected new n ≡ side
unfolding selected
selected-written n side old new low holds = ap (λ (b : ℕ). b % 2) (selector-written n side old new holds) ∙ omega arith

-- a cell whose selector and whose selected body stay
body-stays : (old new : List ℕ) (n : ℕ) → selected new n ≡ selected old n → body_at new n (selected old n) ≡ body_at old n (selected old n) → body new n ≡ body old n
body-stays old new n turned same = body-side new n ∙ ap (λ (s : ℕ). body_at new n s) turned ∙ same ∙ sym (body-side old n)

pub elsewhere : (n m : ℕ) → m ≢ n → (1536 * m + 1536 ≤ 1536 * n) ⊎ (1536 * n + 1536 ≤ 1536 * m)
elsewhere n m other = ⊎_elim (λ below. inl (omega arith)) (λ above. inr (omega arith)) (cases_lt m n)

-- what is written in one cell leaves the others
pub body-others : (n m : ℕ) (old new : List ℕ) → SameOutside (1536 * n) 1536 old new → m ≢ n → body new m ≡ body old m
body-others n m old new same other =
    let s = selected old m in
    let low : s < 2 = selected_below old m in
    body-stays old new m
    (selected-at old new m (⊎_elim (λ before. same.before (1536 * m) (omega arith)) (λ behind. same.after (1536 * m) behind) (elsewhere n m other)))
    (range-outside (1536 * n) 1536 (body_place m s) 192 old new same (placed s low))
  where
    placed : (s : ℕ) → s < 2 → (body_place m s + 192 ≤ 1536 * n) ⊎ (1536 * n + 1536 ≤ body_place m s)
    placed s low = ⊎_elim (λ before. inl (omega arith)) (λ behind. inr (omega arith)) (elsewhere n m other)

-- the two bodies of a cell lie apart
sides_apart : (n s : ℕ) → s < 2 → (body_place n s + 192 ≤ body_place n (1 - s)) ⊎ (body_place n (1 - s) + 192 ≤ body_place n s)
sides_apart n s low = ⊎_elim (λ first. inl (omega arith)) (λ second. inr (omega arith)) (cases_lt s 1)

-- ---- the steps of a replacement

pub replacing_same : (n : ℕ) (bytes old : List ℕ) → IsReplacing n bytes old old
replacing_same n bytes old = record { outside = outside_same (1536 * n) 1536 old; others = λ m other. refl; here = inl refl; untouched = λ k away. refl }

-- the body that isn't selected holds the new bytes, and all that is looked at is as before
pub record Staged (n : ℕ) (bytes old new : List ℕ) : Type 0 where
  pub outside : SameOutside (1536 * n) 1536 old new
  pub untouched : (k : ℕ) → IsUntouched old n k → get_or new k 0 ≡ get_or old k 0
  pub spare : body_at new n (1 - selected old n) ≡ bytes
  pub kept : body_at new n (selected old n) ≡ body_at old n (selected old n)

-- what stays outside the body that isn't selected
spare_untouched : (n : ℕ) (old new : List ℕ) → SameOutside (body_place n (1 - selected old n)) 192 old new → (k : ℕ) → IsUntouched old n k → get_or new k 0 ≡ get_or old k 0
spare_untouched n old new same k away = ⊎_elim (same.before k) (same.after k) away.1

-- a write to the body that isn't selected leaves the selected one
pub spare_torn : (n : ℕ) (bytes old new : List ℕ) → SameOutside (body_place n (1 - selected old n)) 192 old new → IsReplacing n bytes old new
spare_torn n bytes old new same =
    let s = selected old n in
    let low : s < 2 = selected_below old n in
    let outside : SameOutside (1536 * n) 1536 old new = outside_wider (body_place n (1 - s)) 192 (1536 * n) 1536 old new same (omega arith) (omega arith) in
    record {
      outside = outside;
      others = λ m other. body-others n m old new outside other;
      here = inl (body-stays old new n
          (selected-at old new n (same.before (1536 * n) (omega arith)))
          (range-outside (body_place n (1 - s)) 192 (body_place n s) 192 old new same (sides_apart n s low)));
      untouched = spare_untouched n old new same;
    }

pub staged : (n : ℕ) (bytes old new : List ℕ) → length bytes ≡ 192 → 1536 * (n + 1) ≤ length old → HoldsPiece (body_place n (1 - selected old n)) bytes old new → Staged n bytes old new
staged n bytes old new long fits holds =
    let s = selected old n in
    let low : s < 2 = selected_below old n in
    let same : SameOutside (body_place n (1 - s)) 192 old new = subst (λ (l : ℕ). SameOutside (body_place n (1 - s)) l old new) long holds.outside in
    record {
      outside = outside_wider (body_place n (1 - s)) 192 (1536 * n) 1536 old new same (omega arith) (omega arith);
      untouched = spare_untouched n old new same;
      spare = subst (λ (l : ℕ). slice_range new (body_place n (1 - s)) (body_place n (1 - s) + l) ≡ bytes) long (range-holds (body_place n (1 - s)) bytes old new holds (omega arith));
      kept = range-outside (body_place n (1 - s)) 192 (body_place n s) 192 old new same (sides_apart n s low);
    }

module _ (n : ℕ) (bytes old mid new : List ℕ) (was : Staged n bytes old mid) where
  side_stays : (s : ℕ) → s < 2 → SameOutside (1536 * n) 1 mid new → body_at new n s ≡ body_at mid n s
  side_stays s low same = range-outside (1536 * n) 1 (body_place n s) 192 mid new same (inr (omega arith))

  -- whatever the selector holds, one of the two bodies is selected
  pub selector_torn : SameOutside (1536 * n) 1 mid new → IsReplacing n bytes old new
  selector_torn same = record {
    outside = outside;
    others = λ m other. body-others n m old new outside other;
    here = chosen (cases_eq (selected new n) (selected old n));
    untouched = λ k away. beside k away.0 ∙ was.untouched k away;
  }
    where
      beside : (k : ℕ) → k ≢ 1536 * n → get_or new k 0 ≡ get_or mid k 0
      beside k apart = ⊎_elim (λ below. same.before k below) (λ above. same.after k (omega (arith, apart))) (cases_lt k (1536 * n))

      outside : SameOutside (1536 * n) 1536 old new
      outside = outside_then (1536 * n) 1536 old mid new was.outside (outside_wider (1536 * n) 1 (1536 * n) 1536 mid new same (omega arith) (omega arith))

      chosen : (selected new n ≡ selected old n) ⊎ (selected new n ≡ selected old n → ⊥) → (body new n ≡ body old n) ⊎ (body new n ≡ bytes)
      chosen (inl as_before) = inl (body-stays old new n as_before (side_stays (selected old n) (selected_below old n) same ∙ was.kept))
      chosen (inr turned) = let side_is : selected new n ≡ 1 - selected old n = omega (arith, selected_below new n, selected_below old n) in
          inr (body-side new n ∙ ap (λ (s : ℕ). body_at new n s) side_is ∙ side_stays (1 - selected old n) (omega arith) same ∙ was.spare)

  -- the selector turned: the new body is selected
  pub selector_turned : 1536 * (n + 1) ≤ length old → HoldsPiece (1536 * n) ((1 - selected old n) ∷ []) mid new → IsReplaced n bytes old new
  selector_turned fits holds = record {
    outside = torn.outside;
    others = torn.others;
    here = body-side new n ∙ ap (λ (s : ℕ). body_at new n s) side_is ∙ side_stays (1 - selected old n) (omega arith) holds.outside ∙ was.spare;
    selector = omega (arith, selector-written n (1 - selected old n) mid new holds);
    other = other-side new n ∙ ap (λ (s : ℕ). body_at new n s) other_is ∙ side_stays (selected old n) (selected_below old n) holds.outside ∙ was.kept ∙ sym (body-side old n);
    untouched = torn.untouched;
  }
    where
      torn : IsReplacing n bytes old new
      torn = selector_torn holds.outside

      side_is : selected new n ≡ 1 - selected old n
      side_is = selected-written n (1 - selected old n) mid new (omega arith) holds

      other_is : 1 - selected new n ≡ selected old n
      other_is = omega (arith, side_is, selected_below old n)
