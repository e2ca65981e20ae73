-- A part that fits is kept whole, and of a longer one so much that its line is too long.
use Rattle.std.proofs.Common.{◌≡◌, ◌≢◌, ◌≤◌, ◌<◌, ℕ, Bool, IsTrue, List, [], ◌∷◌, ◌++◌, length, take, refl, sym, ap, subst, ◌∙◌, inl, inr, arith, append_assoc, length-append}
use Rattle.std.proofs.lemmas.Bool.{cases_lt}
use Rattle.std.proofs.lemmas.List.{append-nil, take_all, length-take}
use Rattle.std.proofs.lemmas.List.Elements.{All-append, All-head, All-tail, All-take}
use Rattle.line_service.specs.Lines.{newline, lines, NoNewline}
use Rattle.line_service.specs.Reading.{Reading, KeepsPart, Takes, TakesLine}
use Rattle.line_service.specs.declared.lines.Taken.{Taken}
use Rattle.line_service.specs.declared.lines.Taken.TheVariants.{Line, TooLong, End}
use Rattle.line_service.proofs.CutLines.{lines-nil, lines-whole, lines-last}
use Rattle.line_service.proofs.lines.a_fault_loses_no_byte_of_a_line.Goals as goal

-- the front of some bytes that are a line and more is a front of the line
record IsFront (xs rest line tail : List ℕ) : Type 0 where
  more : List ℕ
  line_is : line ≡ xs ++ more
  rest_is : rest ≡ more ++ tail

front_of : (xs rest line tail : List ℕ) → xs ++ rest ≡ line ++ tail → length xs ≤ length line → IsFront xs rest line tail
front_of [] rest line tail is within = record { more = line; line_is = refl; rest_is = is }
front_of (x ∷ xs) rest [] tail is within = absurd (omega arith)
front_of (x ∷ xs) rest (l ∷ ls) tail is within =
    let head : x ≡ l = cc is in
    let tails : xs ++ rest ≡ ls ++ tail = cc is in
    let found = front_of xs rest ls tail tails (omega arith) in
    let line_is : ls ≡ xs ++ found.more = found.line_is in
    record { more = found.more; line_is = cc (head, line_is); rest_is = found.rest_is }

-- a newline stands in no part
no_newline : (xs rest line tail : List ℕ) → xs ++ rest ≡ line ++ newline ∷ tail → length line < length xs → NoNewline xs → ⊥
no_newline [] rest line tail is within clean = omega arith
no_newline (x ∷ xs) rest [] tail is within clean = All-head (λ b. b ≢ newline) x xs clean (cc is)
no_newline (x ∷ xs) rest (l ∷ ls) tail is within clean =
    let tails : xs ++ rest ≡ ls ++ newline ∷ tail = cc is in no_newline xs rest ls tail tails (omega arith) (All-tail (λ b. b ≢ newline) x xs clean)

clean_behind : (xs more : List ℕ) → NoNewline (xs ++ more) → NoNewline more
clean_behind [] more clean = clean
clean_behind (x ∷ xs) more clean = clean_behind xs more (All-tail (λ b. b ≢ newline) x (xs ++ more) clean)

module _ (ahead kept rest later : List ℕ) (keeps : KeepsPart ahead kept rest) where
  whole : length keeps.part ≤ 9217 → ahead ≡ kept ++ rest
  whole small = keeps.bytes ∙ ap (λ p. p ++ rest) (sym (keeps.front ∙ take_all 9217 keeps.part small))

  kept_clean : NoNewline kept
  kept_clean = subst NoNewline (sym keeps.front) (All-take (λ b. b ≢ newline) 9217 keeps.part keeps.clean)

  module _ (long : 9217 < length keeps.part) where
    kept_size : length kept ≡ 9217
    kept_size = omega (arith, ap length keeps.front, length-take 9217 keeps.part)

    long_line : (line : List ℕ) (ended : Bool) → TakesLine (kept ++ rest) line later ended → length kept ≤ length line
    long_line line ended takes =
        elim takes.bytes [
          | inl is ↦
              elim (cases_lt (length line) (length kept)) [
                | inl less ↦ absurd (no_newline kept rest line later is less kept_clean)
                | inr more ↦ more
              ]
          | inr last ↦ omega (arith, ap length last.0, length-append kept rest)
        ]

    -- the line of which the bytes that are kept are the front
    long_taken : (line : List ℕ) (ended : Bool) (more : List ℕ) → TakesLine (kept ++ rest) line later ended → line ≡ kept ++ more → rest ≡ more ++ newline ∷ later → TakesLine ahead (keeps.part ++ more) later ended
    long_taken line ended more takes line_is rest_is =
        let clean : NoNewline (keeps.part ++ more) = All-append (λ b. b ≢ newline) keeps.part more keeps.clean (clean_behind kept more (subst NoNewline line_is takes.clean)) in
        let bytes : ahead ≡ (keeps.part ++ more) ++ newline ∷ later = keeps.bytes ∙ ap (λ r. keeps.part ++ r) rest_is ∙ sym (append_assoc keeps.part more (newline ∷ later)) in
        record { first = ap lines bytes ∙ lines-whole (keeps.part ++ more) later clean; bytes = inl bytes; clean = clean }

    last_taken : (line : List ℕ) (ended : Bool) (more : List ℕ) → TakesLine (kept ++ rest) line later ended → line ≡ kept ++ more → rest ≡ more ++ [] → (later ≡ []) × IsTrue ended → TakesLine ahead (keeps.part ++ more) later ended
    last_taken line ended more takes line_is rest_is last =
        let clean : NoNewline (keeps.part ++ more) = All-append (λ b. b ≢ newline) keeps.part more keeps.clean (clean_behind kept more (subst NoNewline line_is takes.clean)) in
        let bytes : ahead ≡ keeps.part ++ more = keeps.bytes ∙ ap (λ r. keeps.part ++ r) (rest_is ∙ append-nil more) in
        record {
          first = ap lines bytes ∙ lines-last (keeps.part ++ more) clean (omega (arith, length-append keeps.part more)) ∙ ap (λ ls. (keeps.part ++ more) ∷ ls) (sym (ap lines last.0 ∙ lines-nil));
          bytes = inr (bytes, last.0, last.1);
          clean = clean;
        }

    too_long : (line : List ℕ) (now : Reading) → TakesLine (kept ++ rest) line later now.ended → Takes TooLong ahead now later
    too_long line now takes =
        let size = long_line line now.ended takes in
        elim takes.bytes [
          | inl is ↦
              let found = front_of kept rest line (newline ∷ later) is size in (
                keeps.part ++ found.more,
                long_taken line now.ended found.more takes found.line_is found.rest_is,
                omega (arith, length-append keeps.part found.more),
              )
          | inr last ↦
              let found = front_of kept rest line [] (last.0 ∙ sym (append-nil line)) size in (
                keeps.part ++ found.more,
                last_taken line now.ended found.more takes found.line_is found.rest_is (last.1, last.2),
                omega (arith, length-append keeps.part found.more),
              )
        ]

  as_before : (taken : Taken) (now : Reading) → Takes taken (kept ++ rest) now later → Takes taken ahead now later
  as_before taken now takes =
      elim (cases_lt 9217 (length keeps.part)) [
        | inl long ↦ by_taken long taken takes
        | inr small ↦ subst (λ (bytes : List ℕ). Takes taken bytes now later) (sym (whole small)) takes
      ]
    where
      by_taken : 9217 < length keeps.part → (taken : Taken) → Takes taken (kept ++ rest) now later → Takes taken ahead now later
      by_taken long Line takes = absurd (omega (arith, long_line long now.line now.ended takes.0, kept_size long, takes.1))
      by_taken long TooLong takes = too_long long takes.0 now takes.1
      by_taken long End takes = absurd (omega (arith, ap length takes.0, length-append kept rest, kept_size long))

pub returns : goal.returns
returns c ahead kept rest later taken now keeps takes = as_before ahead kept rest later keeps taken now takes
