-- The lines of bytes that are put together.
use Rattle.std.proofs.Common.{◌≡◌, ℕ, ◌<◌, cond, List, [], ◌∷◌, ◌++◌, length, refl, sym, ap, ◌∙◌, subst, inl, inr, append_assoc, arith}
use Rattle.std.specs.List.{onto_first}
use Rattle.std.proofs.lemmas.Bool.{ne_eqb}
use Rattle.std.proofs.lemmas.List.Elements.{All-head, All-tail}
use Rattle.std.specs.Prelude.{◌≢◌, ◌==◌, Bool, true, false, if◌then◌else◌}
use Rattle.line_service.specs.Lines.{newline, lines, NoNewline, EndsLine}

pub lines-nil : lines [] ≡ []
unfolding lines
lines-nil = refl

-- a first byte that is no newline goes onto the first line
lines-cons : (b : ℕ) (bs : List ℕ) → b ≢ newline → lines (b ∷ bs) ≡ onto_first b (lines bs)
unfolding lines
lines-cons b bs other = ap (λ t. cond t ([] ∷ lines bs) (onto_first b (lines bs))) (ne_eqb b newline other)

-- a whole line stands before the lines of what follows its newline
pub lines-whole : (line rest : List ℕ) → NoNewline line → lines (line ++ newline ∷ rest) ≡ line ∷ lines rest
unfolding lines
lines-whole [] rest clean = refl
lines-whole (b ∷ bs) rest clean =
    lines-cons b (bs ++ newline ∷ rest) (All-head (λ x. x ≢ newline) b bs clean)
    ∙ ap (onto_first b) (lines-whole bs rest (All-tail (λ x. x ≢ newline) b bs clean))

-- what stands before the end, without a newline, is a line where it has a byte
pub lines-last : (line : List ℕ) → NoNewline line → 0 < length line → lines line ≡ line ∷ []
lines-last [] clean some = absurd (omega arith)
lines-last (b ∷ []) clean some = lines-cons b [] (All-head (λ x. x ≢ newline) b [] clean) ∙ ap (onto_first b) lines-nil
lines-last (b ∷ c ∷ bs) clean some =
    lines-cons b (c ∷ bs) (All-head (λ x. x ≢ newline) b (c ∷ bs) clean)
    ∙ ap (onto_first b) (lines-last (c ∷ bs) (All-tail (λ x. x ≢ newline) b (c ∷ bs) clean) (omega arith))

-- a byte that goes onto the first of some lines leaves those behind it
onto_first-append : (b : ℕ) (ls ms : List (List ℕ)) → 0 < length ls → onto_first b (ls ++ ms) ≡ onto_first b ls ++ ms
onto_first-append b [] ms some = absurd (omega arith)
onto_first-append b (l ∷ ls) ms some = refl

-- bytes have a line
length-lines : (b : ℕ) (bs : List ℕ) → 0 < length (lines (b ∷ bs))
unfolding lines
length-lines b bs = by_test (b == newline) (lines bs)
  where
    by_test : (t : Bool) (ls : List (List ℕ)) → 0 < length (if t then [] ∷ ls else onto_first b ls)
    by_test true ls = omega arith
    by_test false [] = omega arith
    by_test false (l ∷ ls) = omega arith

-- and so have bytes that end with a newline
length-lines_ended : (front : List ℕ) → 0 < length (lines (front ++ newline ∷ []))
length-lines_ended [] = length-lines newline []
length-lines_ended (b ∷ bs) = length-lines b (bs ++ newline ∷ [])

-- what stands before a newline, and the newline, go before the lines of what follows
lines-ended : (front more : List ℕ) → lines (front ++ newline ∷ more) ≡ lines (front ++ newline ∷ []) ++ lines more
unfolding lines
lines-ended [] more = refl
lines-ended (b ∷ bs) more = by_test (b == newline) (lines (bs ++ newline ∷ more)) (lines (bs ++ newline ∷ [])) (lines-ended bs more) (length-lines_ended bs)
  where
    by_test : (t : Bool) (all ended : List (List ℕ)) → all ≡ ended ++ lines more → 0 < length ended → (if t then [] ∷ all else onto_first b all) ≡ (if t then [] ∷ ended else onto_first b ended) ++ lines more
    by_test true all ended same some = ap (λ ls. [] ∷ ls) same
    by_test false all ended same some = ap (onto_first b) same ∙ onto_first-append b ended (lines more) some

-- the lines of bytes that end with a newline stand before the lines of what follows
pub lines-append : (whole more : List ℕ) → EndsLine whole → lines (whole ++ more) ≡ lines whole ++ lines more
lines-append whole more (inl none) =
    subst (λ w. lines (w ++ more) ≡ lines w ++ lines more) (sym none) (ap (λ ls. ls ++ lines more) (sym lines-nil))
lines-append whole more (inr ends) =
    subst (λ w. lines (w ++ more) ≡ lines w ++ lines more) (sym ends.1)
    (ap lines (append_assoc ends.0 (newline ∷ []) more) ∙ lines-ended ends.0 more)
