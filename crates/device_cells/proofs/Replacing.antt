-- The calls of a replacement, one behind the other: a read, a write and a sync of the spare body, and of the selector.
use Rattle.std.proofs.Common.{◌≡◌, ◌≤◌, ℕ, ◌+◌, ◌-◌, ◌*◌, ◌%◌, List, [], ◌∷◌, length, get_or, slice_range, Some, sym, ◌∙◌, ap, subst, arith}
use Rattle.device_cells.specs.Cells.{selected, body_place, body, IsReplaced, IsReplacing}
use Rattle.device_cells.specs.Ranges.{SameOutside, HoldsPiece}
use Rattle.device_cells.specs.Medium.{Medium, Told, IsSettled, From, Becomes, EachImage, Keeps}
use Rattle.device_cells.proofs.Media.{told_from, told_at, becomes_same, becomes_then, from_then, each_weaker, goes_on}
use Rattle.device_cells.proofs.CellSteps.{Staged, replacing_same, spare_torn, staged, selector_torn, selector_turned, get_or-range}

-- the selector that was read
pub selector_read : (n place : ℕ) (out : List ℕ) (m : Medium) → place ≡ 1536 * n → length out ≡ 1 → Told m (λ c. out ≡ slice_range c place (place + length out)) → Told m (λ c. get_or out 0 0 % 2 ≡ selected c n)
unfolding selected
selector_read n place out m at one told = told_from m.content (λ c. get_or out 0 0 % 2 ≡ selected c n) (λ c is. ap (λ (b : ℕ). b % 2) (first c (told_at m.content (λ d. out ≡ slice_range d place (place + length out)) c is told)))
  where
    first : (c : List ℕ) → out ≡ slice_range c place (place + length out) → get_or out 0 0 ≡ get_or c (1536 * n) 0
    first c read = ap (λ (l : List ℕ). get_or l 0 0) read ∙ get_or-range c place (length out) 0 (omega arith) ∙ ap (λ (k : ℕ). get_or c k 0) (omega (arith, at))

-- the body that was read
pub body_read : (n side place : ℕ) (out : List ℕ) (m0 m1 : Medium) → Keeps m0 m1 → Told m0 (λ c. side ≡ selected c n) → place ≡ body_place n side → length out ≡ 192 → Told m1 (λ c. out ≡ slice_range c place (place + length out)) → Told m0 (λ c. out ≡ body c n)
unfolding body
body_read n side place out m0 m1 kept side_is at long told = told_from m0.content (λ c. out ≡ body c n) (λ c is.
    let here : place ≡ body_place n (selected c n) = at ∙ ap (body_place n) (told_at m0.content (λ d. side ≡ selected d n) c is side_is) in
    told_at m1.content (λ d. out ≡ slice_range d place (place + length out)) c (kept.content ∙ is) told
    ∙ ap (λ (l : ℕ). slice_range c place (place + l)) long
    ∙ ap (λ (p : ℕ). slice_range c p (p + 192)) here)

-- the side was read, and nothing was written
module _ (n side : ℕ) (bytes : List ℕ) (m0 m1 : Medium) (settled : IsSettled m0) (kept : Keeps m0 m1) where
  pub read_moments : EachImage m0 m1 (From (IsReplacing n bytes) m0)
  read_moments = each_weaker m0 m1 m0.images (From (IsReplacing n bytes) m0) kept.moments (λ c image. (c, settled.only c image, replacing_same n bytes c))

  pub read_becomes : Becomes (IsReplacing n bytes) m0 m1
  read_becomes = becomes_same m0 m1 (IsReplacing n bytes) kept.moments.size kept.content (replacing_same n bytes)

  -- the spare body was written, and may be torn
  module _ (place : ℕ) (at : place ≡ body_place n (1 - side)) (long : length bytes ≡ 192) (side_is : Told m0 (λ c. side ≡ selected c n))
      (m2 : Medium) (moments : EachImage m1 m2 (From (SameOutside place (length bytes)) m1)) where
    is_torn : (d c : List ℕ) → m0.content ≡ Some d → SameOutside place (length bytes) d c → IsReplacing n bytes d c
    is_torn d c is same =
        let spare : place ≡ body_place n (1 - selected d n) = at ∙ ap (λ (s : ℕ). body_place n (1 - s)) (told_at m0.content (λ d. side ≡ selected d n) d is side_is) in
        let long_is : SameOutside place 192 d c = subst (λ (l : ℕ). SameOutside place l d c) long same in
        spare_torn n bytes d c (subst (λ (p : ℕ). SameOutside p 192 d c) spare long_is)

    from_start : (c : List ℕ) → From (SameOutside place (length bytes)) m1 c → From (IsReplacing n bytes) m0 c
    from_start c from = let is = sym kept.content ∙ from.1 in (from.0, is, is_torn from.0 c is from.2)

    pub spare_moments : EachImage m0 m2 (From (IsReplacing n bytes) m0)
    spare_moments = goes_on m0 m1 m2 (From (IsReplacing n bytes) m0) (From (SameOutside place (length bytes)) m1) (From (IsReplacing n bytes) m0) read_moments moments (λ c p. p) from_start

    pub spare_becomes : Becomes (SameOutside place (length bytes)) m1 m2 → Becomes (IsReplacing n bytes) m0 m2
    spare_becomes becomes = record {
      size = becomes.size ∙ kept.moments.size;
      told = λ c is. from_start c (becomes.told c is);
      still = λ some. becomes.still (read_becomes.still some);
    }

    -- it was written and synced, and then the selector
    module _ (fits : 1536 * (n + 1) ≤ m0.size) (top : ℕ) (at_top : top ≡ 1536 * n) (holds : Becomes (HoldsPiece place bytes) m1 m2) (m3 : Medium) where
      spare_staged : Becomes (Staged n bytes) m0 m2
      spare_staged = record {
        size = holds.size ∙ kept.moments.size;
        told = λ c is.
            let from = holds.told c is in
            let was : m0.content ≡ Some from.0 = sym kept.content ∙ from.1 in
            let spare : place ≡ body_place n (1 - selected from.0 n) = at ∙ ap (λ (s : ℕ). body_place n (1 - s)) (told_at m0.content (λ d. side ≡ selected d n) from.0 was side_is) in
            (from.0, was, staged n bytes from.0 c long (subst (λ (l : ℕ). 1536 * (n + 1) ≤ l) (sym (m0.sized from.0 was)) fits) (subst (λ (p : ℕ). HoldsPiece p bytes from.0 c) spare from.2));
        still = λ some. holds.still (read_becomes.still some);
      }

      turned_torn : (b c d : List ℕ) → Staged n bytes b c → SameOutside top 1 c d → IsReplacing n bytes b d
      turned_torn b c d was same = selector_torn n bytes b c d was (subst (λ (p : ℕ). SameOutside p 1 c d) at_top same)

      pub selector_moments : EachImage m2 m3 (From (SameOutside top 1) m2) → EachImage m0 m3 (From (IsReplacing n bytes) m0)
      selector_moments selector = goes_on m0 m2 m3 (From (IsReplacing n bytes) m0) (From (SameOutside top 1) m2) (From (IsReplacing n bytes) m0) spare_moments selector
          (λ c p. p)
          (from_then m0 m2 (Staged n bytes) (SameOutside top 1) (IsReplacing n bytes) spare_staged turned_torn)

      pub selector_becomes : Becomes (SameOutside top 1) m2 m3 → Becomes (IsReplacing n bytes) m0 m3
      selector_becomes selector = becomes_then m0 m2 m3 (Staged n bytes) (SameOutside top 1) (IsReplacing n bytes) spare_staged selector turned_torn

      pub replaced : Becomes (HoldsPiece top ((1 - side) ∷ [])) m2 m3 → Becomes (IsReplaced n bytes) m0 m3
      replaced selector = record {
        size = selector.size ∙ spare_staged.size;
        told = λ d is.
            let from = selector.told d is in
            let was = spare_staged.told from.0 from.1 in
            let turned : side ≡ selected was.0 n = told_at m0.content (λ d. side ≡ selected d n) was.0 was.1 side_is in
            let put : HoldsPiece (1536 * n) ((1 - side) ∷ []) from.0 d = subst (λ (p : ℕ). HoldsPiece p ((1 - side) ∷ []) from.0 d) at_top from.2 in
            (was.0, was.1, selector_turned n bytes was.0 from.0 d was.2 (subst (λ (l : ℕ). 1536 * (n + 1) ≤ l) (sym (m0.sized was.0 was.1)) fits) (subst (λ (s : ℕ). HoldsPiece (1536 * n) ((1 - s) ∷ []) from.0 d) turned put));
        still = λ some. selector.still (spare_staged.still some);
      }
