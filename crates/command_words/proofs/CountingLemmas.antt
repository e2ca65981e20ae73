-- The counts after some bytes are those of their lines.
use Rattle.std.proofs.Common.{◌≡◌, ◌≢◌, ℕ, ◌+◌, ◌-◌, ◌<◌, ◌≤◌, ◌^◌, ◌==◌, ◌⊎◌, Bool, true, false, cond, List, [], ◌∷◌, ◌++◌, length, take, drop, min, fold, codes, count_by, refl, sym, ap, ◌∙◌, subst, inl, inr, append_assoc, append-nil, length-append, take-append-drop, arith, slice_index, nat_lt}
use Rattle.std.specs.Prelude.{if◌then◌else◌, ◌&&◌}
use Rattle.std.proofs.lemmas.Bool.{ne_eqb, eqb-true, eqb-false, ltb-true}
use Rattle.std.proofs.lemmas.List.Elements.{All-append, All-nil, All-cons}
use Rattle.std.proofs.lemmas.List.{take_more}
use Rattle.std.proofs.lemmas.List.Sums.{fold-append}
use Rattle.std.proofs.lemmas.Slice.Eq.{bytes_eq-Decides}
use Rattle.line_service.specs.Lines.{newline, lines, NoNewline, EndsLine}
use Rattle.line_service.proofs.CutLines.{lines-nil, lines-whole}
use Rattle.command_words.specs.declared.counts.Begun.{Begun}
use Rattle.command_words.specs.declared.counts.Begun.TheVariants.{Empty, FirstO, FirstN, Done, Refused, Other}
use Rattle.command_words.specs.declared.counts.Counts.{Counts}
use Rattle.command_words.specs.Counting.{begun_after_lem, matched_after_lem, is_done, is_refused, one_more_where_lem, line_ended_lem, count_byte, blank_counts, counted}
use Rattle.command_words.specs.Demo.{begins_with, ends_with, count_of, are_ok, are_refused, are_old}

same_tests : (a b : Bool) → (a ≡ true → b ≡ true) → (b ≡ true → a ≡ true) → a ≡ b
same_tests true b first second = sym (first refl)
same_tests false true first second = second refl
same_tests false false first second = refl

-- ---- the lines that came to their end, where some bytes of one came before

abbrev whole : List ℕ → List ℕ → List (List ℕ)
whole p [] = []
whole p (b ∷ bs) = if b == newline then p ∷ whole [] bs else whole (p ++ b ∷ []) bs

whole-other : (p : List ℕ) (b : ℕ) (bs : List ℕ) → b ≢ newline → whole p (b ∷ bs) ≡ whole (p ++ b ∷ []) bs
whole-other p b bs other = ap (λ t. cond t (p ∷ whole [] bs) (whole (p ++ b ∷ []) bs)) (ne_eqb b newline other)

test_newline : (b : ℕ) (t : Bool) → (b == newline) ≡ t → (b ≡ newline) ⊎ (b ≢ newline)
test_newline b true is = inl (eqb-true b newline is)
test_newline b false is = inr (eqb-false b newline is)

lines-are_whole : (front p : List ℕ) → NoNewline p → lines (p ++ (front ++ newline ∷ [])) ≡ whole p (front ++ newline ∷ [])
lines-are_whole [] p clean = lines-whole p [] clean ∙ ap (λ ls. p ∷ ls) lines-nil
lines-are_whole (b ∷ bs) p clean =
    by_byte (test_newline b (b == newline) refl) (lines-are_whole bs [] (All-nil (λ x. x ≢ newline)))
    (λ other. lines-are_whole bs (p ++ b ∷ []) (All-append (λ x. x ≢ newline) p (b ∷ []) clean (All-cons (λ x. x ≢ newline) b [] other (All-nil (λ x. x ≢ newline)))))
  where
    by_byte : (b ≡ newline) ⊎ (b ≢ newline) → lines (bs ++ newline ∷ []) ≡ whole [] (bs ++ newline ∷ [])
        → (b ≢ newline → lines ((p ++ b ∷ []) ++ (bs ++ newline ∷ [])) ≡ whole (p ++ b ∷ []) (bs ++ newline ∷ []))
        → lines (p ++ (b ∷ (bs ++ newline ∷ []))) ≡ whole p (b ∷ (bs ++ newline ∷ []))
    by_byte (inl is) fresh longer =
        subst (λ (x : ℕ). lines (p ++ (x ∷ (bs ++ newline ∷ []))) ≡ whole p (x ∷ (bs ++ newline ∷ []))) (sym is)
        (lines-whole p (bs ++ newline ∷ []) clean ∙ ap (λ ls. p ∷ ls) fresh)
    by_byte (inr other) fresh longer =
        ap lines (sym (append_assoc p (b ∷ []) (bs ++ newline ∷ [])))
        ∙ (longer other ∙ sym (whole-other p b (bs ++ newline ∷ []) other))

lines-ended_whole : (bytes : List ℕ) → EndsLine bytes → lines bytes ≡ whole [] bytes
lines-ended_whole bytes (inl none) = subst (λ (x : List ℕ). lines x ≡ whole [] x) (sym none) lines-nil
lines-ended_whole bytes (inr ends) = subst (λ (x : List ℕ). lines x ≡ whole [] x) (sym ends.1) (lines-are_whole ends.0 [] (All-nil (λ x. x ≢ newline)))

-- ---- how a line begins and ends

abbrev begun_of : List ℕ → Begun
begun_of p = fold begun_after_lem Empty p

abbrev matched_of : List ℕ → ℕ
matched_of p = fold matched_after_lem 0 p

stays : (x : Begun) → ((b : ℕ) → begun_after_lem x b ≡ x) → (p : List ℕ) → fold begun_after_lem x p ≡ x
stays x still [] = refl
stays x still (b ∷ bs) = ap (λ y. fold begun_after_lem y bs) (still b) ∙ stays x still bs

-- from a state that stays, with either of two tests
either_done : (v : Bool) (rest : List ℕ) → is_done (fold begun_after_lem (if v then Done else Other) rest) ≡ v
either_done true rest = ap is_done (stays Done (λ b. refl) rest)
either_done false rest = ap is_done (stays Other (λ b. refl) rest)

never_done : (v : Bool) (rest : List ℕ) → is_done (fold begun_after_lem (if v then Refused else Other) rest) ≡ false
never_done true rest = ap is_done (stays Refused (λ b. refl) rest)
never_done false rest = ap is_done (stays Other (λ b. refl) rest)

either_refused : (v : Bool) (rest : List ℕ) → is_refused (fold begun_after_lem (if v then Refused else Other) rest) ≡ v
either_refused true rest = ap is_refused (stays Refused (λ b. refl) rest)
either_refused false rest = ap is_refused (stays Other (λ b. refl) rest)

never_refused : (v : Bool) (rest : List ℕ) → is_refused (fold begun_after_lem (if v then Done else Other) rest) ≡ false
never_refused true rest = ap is_refused (stays Done (λ b. refl) rest)
never_refused false rest = ap is_refused (stays Other (λ b. refl) rest)

and_true : (v : Bool) → (v && true) ≡ v
and_true true = refl
and_true false = refl

is_done-is : (p : List ℕ) → is_done (begun_of p) ≡ begins_with (codes "OK") p
is_done-is [] = refl
is_done-is (a ∷ []) = by_first (a == 79) (a == 78)
  where
    by_first : (t u : Bool) → is_done (if t then FirstO else (if u then FirstN else Other)) ≡ (t && false)
    by_first true true = refl
    by_first true false = refl
    by_first false true = refl
    by_first false false = refl
is_done-is (a ∷ b ∷ rest) = by_first (a == 79) (a == 78)
  where
    by_first : (t u : Bool) → is_done (fold begun_after_lem (begun_after_lem (if t then FirstO else (if u then FirstN else Other)) b) rest) ≡ (t && ((b == 75) && true))
    by_first true true = either_done (b == 75) rest ∙ sym (and_true (b == 75))
    by_first true false = either_done (b == 75) rest ∙ sym (and_true (b == 75))
    by_first false true = never_done (b == 79) rest
    by_first false false = ap is_done (stays Other (λ b. refl) rest)

is_refused-is : (p : List ℕ) → is_refused (begun_of p) ≡ begins_with (codes "NO") p
is_refused-is [] = refl
is_refused-is (a ∷ []) = by_first (a == 79) (a == 78) refl refl
  where
    by_first : (t u : Bool) → (a == 79) ≡ t → (a == 78) ≡ u → is_refused (if t then FirstO else (if u then FirstN else Other)) ≡ (u && false)
    by_first true true is also = refl
    by_first true false is also = refl
    by_first false true is also = refl
    by_first false false is also = refl
is_refused-is (a ∷ b ∷ rest) = by_first (a == 79) (a == 78) refl refl
  where
    by_first : (t u : Bool) → (a == 79) ≡ t → (a == 78) ≡ u
        → is_refused (fold begun_after_lem (begun_after_lem (if t then FirstO else (if u then FirstN else Other)) b) rest) ≡ (u && ((b == 79) && true))
    by_first true true is also = absurd (two_bytes (sym (eqb-true a 79 is) ∙ eqb-true a 78 also))
      where
        two_bytes : ◌≡◌ {A = ℕ} 79 78 → ⊥
        two_bytes h = omega (arith, h)
    by_first true false is also = never_refused (b == 75) rest
    by_first false true is also = either_refused (b == 79) rest ∙ sym (and_true (b == 79))
    by_first false false is also = ap is_refused (stays Other (λ b. refl) rest)

-- ---- the end of a line

abbrev mark : List ℕ
mark = codes " warn=old"

-- the line ends with so many bytes of the mark
abbrev EndsWith : List ℕ → ℕ → Type 0
EndsWith q k = (front : List ℕ) × (q ≡ front ++ take k mark) × (k ≤ 9)

ends_more : (q : List ℕ) (k b : ℕ) → EndsWith q k → EndsWith (q ++ b ∷ []) (matched_after_lem k b)
ends_more q k b ends = by_space (b == 32) refl
  where
    longer : nat_lt k 9 ≡ true → (slice_index mark k == b) ≡ true → EndsWith (q ++ b ∷ []) (k + 1)
    longer small same =
        let below : k < 9 = ltb-true k 9 small in
        let next : take (k + 1) mark ≡ take k mark ++ b ∷ [] =
        take_more mark k 0 below ∙ ap (λ x. take k mark ++ x ∷ []) (eqb-true (slice_index mark k) b same) in
        (ends.0, ap (λ l. l ++ b ∷ []) ends.1 ∙ (append_assoc ends.0 (take k mark) (b ∷ []) ∙ ap (λ l. ends.0 ++ l) (sym next)), omega (arith, below))

    none : EndsWith (q ++ b ∷ []) 0
    none = (q ++ b ∷ [], sym (append-nil (q ++ b ∷ [])), omega arith)

    by_match : (t u : Bool) → nat_lt k 9 ≡ t → (slice_index mark k == b) ≡ u → EndsWith (q ++ b ∷ []) (if t && u then k + 1 else 0)
    by_match true true small same = longer small same
    by_match true false small same = none
    by_match false u small same = none

    by_space : (t : Bool) → (b == 32) ≡ t → EndsWith (q ++ b ∷ []) (if t then 1 else (if nat_lt k 9 && slice_index mark k == b then k + 1 else 0))
    by_space true is = (q, ap (λ x. q ++ x ∷ []) (eqb-true b 32 is), omega arith)
    by_space false is = by_match (nat_lt k 9) (slice_index mark k == b) refl refl

ends_all : (p q : List ℕ) (k : ℕ) → EndsWith q k → EndsWith (q ++ p) (fold matched_after_lem k p)
ends_all [] q k ends = subst (λ x. EndsWith x k) (sym (append-nil q)) ends
ends_all (b ∷ bs) q k ends =
    subst (λ x. EndsWith x (fold matched_after_lem (matched_after_lem k b) bs)) (append_assoc q (b ∷ []) bs)
    (ends_all bs (q ++ b ∷ []) (matched_after_lem k b) (ends_more q k b ends))

matched_mark : (k : ℕ) → fold matched_after_lem k mark ≡ 9
matched_mark k = refl

drop-front : (front : List ℕ) → drop (length (front ++ mark) - length mark) (front ++ mark) ≡ mark
drop-front front = ap (λ n. drop n (front ++ mark)) (omega (arith, length-append front mark)) ∙ dropped front
  where
    dropped : (front : List ℕ) → drop (length front) (front ++ mark) ≡ mark
    dropped [] = refl
    dropped (b ∷ bs) = dropped bs

is_matched-is : (p : List ℕ) → (matched_of p == 9) ≡ ends_with mark p
is_matched-is p = same_tests (matched_of p == 9) (ends_with mark p) found matched
  where
    found : (matched_of p == 9) ≡ true → ends_with mark p ≡ true
    found is =
        let ends = ends_all p [] 0 ([], refl, omega arith) in
        let p_is : p ≡ ends.0 ++ mark = ends.1 ∙ ap (λ k. ends.0 ++ take k mark) (eqb-true (matched_of p) 9 is) in
        (bytes_eq-Decides (drop (length p - length mark) p) mark).1
        (subst (λ x. drop (length x - length mark) x ≡ mark) (sym p_is) (drop-front ends.0))

    matched : ends_with mark p ≡ true → (matched_of p == 9) ≡ true
    matched is =
        let n = length p - length mark in
        let p_is : p ≡ take n p ++ mark =
        sym (take-append-drop n p) ∙ ap (λ l. take n p ++ l) ((bytes_eq-Decides (drop n p) mark).0 is) in
        let all : matched_of p ≡ 9 =
        ap matched_of p_is ∙ (fold-append matched_after_lem 0 (take n p) mark ∙ matched_mark (fold matched_after_lem 0 (take n p))) in
        ap (λ k. k == 9) all

-- ---- the counts

count_from : (P : List ℕ → Bool) (a : ℕ) (ls : List (List ℕ)) → fold (λ (n : ℕ) (l : List ℕ). n + cond (P l) 1 0) a ls ≡ a + count_by P ls
count_from P a [] = omega arith
count_from P a (l ∷ ls) = omega (arith, count_from P (a + cond (P l) 1 0) ls, count_from P (0 + cond (P l) 1 0) ls)

count_by-cons : (P : List ℕ → Bool) (l : List ℕ) (ls : List (List ℕ)) → count_by P (l ∷ ls) ≡ cond (P l) 1 0 + count_by P ls
count_by-cons P l ls = count_from P (0 + cond (P l) 1 0) ls ∙ omega arith

-- the counts know how this line begins and ends
record Tracks (c : Counts) (p : List ℕ) : Type 0 where
  begun : c.begun ≡ begun_of p
  matched : c.matched ≡ matched_of p

tracks_more : (c : Counts) (p : List ℕ) (b : ℕ) → Tracks c p → Tracks (record c { begun = begun_after_lem c.begun b; matched = matched_after_lem c.matched b }) (p ++ b ∷ [])
tracks_more c p b tracks = record {
  begun = ap (λ x. begun_after_lem x b) tracks.begun ∙ sym (fold-append begun_after_lem Empty p (b ∷ []));
  matched = ap (λ x. matched_after_lem x b) tracks.matched ∙ sym (fold-append matched_after_lem 0 p (b ∷ []));
}

tracks_none : (c : Counts) → Tracks (line_ended_lem c) []
tracks_none c = record { begun = refl; matched = refl }

abbrev max_count : ℕ
max_count = 2 ^ 32 - 1

module _ (f : Counts → ℕ) (t : Counts → Bool) (P : List ℕ → Bool)
    (at_end : (c : Counts) → f (line_ended_lem c) ≡ one_more_where_lem (t c) (f c))
    (still : (c : Counts) (b : ℕ) → f (record c { begun = begun_after_lem c.begun b; matched = matched_after_lem c.matched b }) ≡ f c)
    (says : (c : Counts) (p : List ℕ) → Tracks c p → t c ≡ P p) where
  one_line : (u : Bool) (a n x y : ℕ) → a ≤ max_count → x ≡ one_more_where_lem u a → y ≡ min (x + n) max_count
      → (y ≡ min (a + (cond u 1 0 + n)) max_count) × (x ≤ max_count)
  one_line true a n x y most is comes = (omega (arith, most, is, comes), omega (arith, most, is))
  one_line false a n x y most is comes = (omega (arith, most, is, comes), omega (arith, most, is))

  counts : (bytes p : List ℕ) (c : Counts) → Tracks c p → f c ≤ max_count
      → f (fold count_byte c bytes) ≡ min (f c + count_by P (whole p bytes)) max_count
  counts [] p c tracks most = omega (arith, most)
  counts (b ∷ bs) p c tracks most =
      by_test (b == newline) refl (counts bs [] (line_ended_lem c) (tracks_none c))
      (counts bs (p ++ b ∷ []) (record c { begun = begun_after_lem c.begun b; matched = matched_after_lem c.matched b }) (tracks_more c p b tracks))
    where
      next : Counts
      next = record c { begun = begun_after_lem c.begun b; matched = matched_after_lem c.matched b }

      by_test : (u : Bool) → (b == newline) ≡ u
          → (f (line_ended_lem c) ≤ max_count → f (fold count_byte (line_ended_lem c) bs) ≡ min (f (line_ended_lem c) + count_by P (whole [] bs)) max_count)
          → (f next ≤ max_count → f (fold count_byte next bs) ≡ min (f next + count_by P (whole (p ++ b ∷ []) bs)) max_count)
          → f (fold count_byte (if u then line_ended_lem c else next) bs) ≡ min (f c + count_by P (if u then p ∷ whole [] bs else whole (p ++ b ∷ []) bs)) max_count
      by_test true is fresh longer =
          let ended : f (line_ended_lem c) ≡ one_more_where_lem (P p) (f c) = at_end c ∙ ap (λ x. one_more_where_lem x (f c)) (says c p tracks) in
          let below = (one_line (P p) (f c) 0 (f (line_ended_lem c)) (min (f (line_ended_lem c) + 0) max_count) most ended refl).1 in
          (one_line (P p) (f c) (count_by P (whole [] bs)) (f (line_ended_lem c)) _ most ended (fresh below)).0
          ∙ ap (λ n. min (f c + n) max_count) (sym (count_by-cons P p (whole [] bs)))
      by_test false is fresh longer =
          let same = still c b in
          longer (subst (λ n. n ≤ max_count) (sym same) most)
          ∙ ap (λ n. min (n + count_by P (whole (p ++ b ∷ []) bs)) max_count) same

  counts_all : (bytes : List ℕ) → EndsLine bytes → f blank_counts ≡ 0 → f (fold count_byte blank_counts bytes) ≡ count_of P bytes
  counts_all bytes ends none =
      counts bytes [] blank_counts (record { begun = refl; matched = refl }) (omega (arith, none))
      ∙ ap (λ ls. min (f blank_counts + count_by P ls) max_count) (sym (lines-ended_whole bytes ends))
      ∙ (ap (λ n. min (n + count_by P (lines bytes)) max_count) none ∙ ap (λ n. min n max_count) (omega arith))

pub ok-is : (bytes : List ℕ) → EndsLine bytes → (counted bytes).ok ≡ are_ok bytes
unfolding counted
ok-is bytes ends =
    counts_all (λ c. c.ok) (λ c. is_done c.begun) (begins_with (codes "OK")) (λ c. refl) (λ c b. refl)
    (λ c p tracks. ap is_done tracks.begun ∙ is_done-is p) bytes ends refl

pub refused-is : (bytes : List ℕ) → EndsLine bytes → (counted bytes).refused ≡ are_refused bytes
unfolding counted
refused-is bytes ends =
    counts_all (λ c. c.refused) (λ c. is_refused c.begun) (begins_with (codes "NO")) (λ c. refl) (λ c b. refl)
    (λ c p tracks. ap is_refused tracks.begun ∙ is_refused-is p) bytes ends refl

pub old-is : (bytes : List ℕ) → EndsLine bytes → (counted bytes).old ≡ are_old bytes
unfolding counted
old-is bytes ends =
    counts_all (λ c. c.old) (λ c. c.matched == 9) (ends_with mark) (λ c. refl) (λ c b. refl)
    (λ c p tracks. ap (λ k. k == 9) tracks.matched ∙ is_matched-is p) bytes ends refl

-- one byte more
pub counted-more : (bytes : List ℕ) (b : ℕ) → counted (bytes ++ b ∷ []) ≡ count_byte (counted bytes) b
unfolding counted
counted-more bytes b = fold-append count_byte blank_counts bytes (b ∷ [])
