-- How what was gathered grows: by bytes that move to the line, and by a read of the source.
use Rattle.std.proofs.Common.{◌≡◌, ◌≢◌, ℕ, zero, suc, ◌+◌, ◌≤◌, true, false, IsTrue, List, [], ◌∷◌, ◌++◌, Option, length, take, refl, sym, ap, subst, ◌∙◌, inl, inr, arith, append_assoc, length-append}
use Rattle.std.proofs.lemmas.List.{length-take}
use Rattle.std.proofs.lemmas.List.Elements.{All-append, All-take, All-nil}
use Rattle.std.specs.Io.KnownBytes.{IsAtEnd, Keeps}
use Rattle.device_cells.proofs.WhereToldLemmas.{told_weaker, told_then, told_kept, told_same}
use Rattle.line_service.specs.Lines.{newline, NoNewline}
use Rattle.line_service.specs.Reading.{Reading, KeepsPart, input_limit, IsReady}
use Rattle.line_service.specs.Gathering.{line_room, IsBounded, Moves, Refills, Gathering}

-- the front of a list to which something was added shows in the front of its front
take-take-append : (n : ℕ) (xs ys : List ℕ) → take n (take n xs ++ ys) ≡ take n (xs ++ ys)
take-take-append zero xs ys = refl
take-take-append (suc n) [] ys = refl
take-take-append (suc n) (x ∷ xs) ys = ap (λ zs. x ∷ zs) (take-take-append n xs ys)

-- a piece without a newline moves to the part
gathers-more : (ahead kept piece rest : List ℕ) → NoNewline piece → KeepsPart ahead kept (piece ++ rest) → KeepsPart ahead (take line_room (kept ++ piece)) rest
gathers-more ahead kept piece rest clean so_far = record {
  part = so_far.part ++ piece;
  clean = All-append (λ b. b ≢ newline) so_far.part piece so_far.clean clean;
  front = ap (λ bs. take line_room (bs ++ piece)) so_far.front ∙ take-take-append line_room so_far.part piece;
  bytes = so_far.bytes ∙ sym (append_assoc so_far.part piece rest);
}

-- the kept line has no newline
clean-more : (n : ℕ) (kept piece : List ℕ) → NoNewline kept → NoNewline piece → NoNewline (take n (kept ++ piece))
clean-more n kept piece clean also = All-take (λ b. b ≢ newline) n (kept ++ piece) (All-append (λ b. b ≢ newline) kept piece clean also)

-- nothing was gathered yet
pub gathering-none : (a : Option (List ℕ)) (old : Reading) → old.line ≡ [] → (IsTrue old.ended → IsAtEnd a) → IsBounded old → Gathering [] a a old old
gathering-none a old empty at_end bounded =
    let empty_front : old.line ≡ take line_room [] = empty in
    record {
      told = told_same a (λ x y. KeepsPart (old.pending ++ x) old.line (old.pending ++ y))
          (λ x. record { part = []; clean = All-nil (λ b. b ≢ newline); front = empty_front; bytes = refl });
      counted = told_same a (λ x y. old.taken + length y ≡ old.taken + length x) (λ x. refl);
      clean = rw empty (All-nil (λ b. b ≢ newline));
      fewer = omega (arith, ap length empty);
      ended = λ is. is;
      at_end = at_end;
      later = omega arith;
      bounded = bounded;
    }

module _ (a b : Option (List ℕ)) (old mid now : Reading) (so_far : Gathering [] a b old mid) where
  -- all that was pending moved
  pub gathering-moved : Moves false mid now → Gathering [] a b old now
  gathering-moved moves = subst (Gathering [] a b old) (sym moves.1) (record {
    told = told_weaker a b (λ x y. KeepsPart (old.pending ++ x) mid.line (mid.pending ++ y))
        (λ x y. KeepsPart (old.pending ++ x) (take line_room (mid.line ++ mid.pending)) y)
        (λ x y. gathers-more (old.pending ++ x) mid.line mid.pending y moves.0) so_far.told;
    counted = so_far.counted;
    clean = clean-more line_room mid.line mid.pending so_far.clean moves.0;
    fewer = omega (arith, so_far.fewer, length-take line_room (mid.line ++ mid.pending), length-append mid.line mid.pending);
    ended = so_far.ended;
    at_end = so_far.at_end;
    later = so_far.later;
    bounded = record { within = so_far.bounded.within; early = so_far.bounded.early };
  })

  -- what stands before a newline moved
  pub gathering-cut : Moves true mid now → Gathering (newline ∷ []) a b old now
  gathering-cut moves =
      let piece = moves.0 in
      let lengths = ap length moves.2 ∙ length-append piece (newline ∷ now.pending) in
      subst (Gathering (newline ∷ []) a b old) (sym moves.3) (record {
        told = told_weaker a b (λ x y. KeepsPart (old.pending ++ x) mid.line (mid.pending ++ y))
            (λ x y. KeepsPart (old.pending ++ x) (take line_room (mid.line ++ piece)) (newline ∷ now.pending ++ y))
            (λ x y g. gathers-more (old.pending ++ x) mid.line piece (newline ∷ now.pending ++ y) moves.1
            (subst (KeepsPart (old.pending ++ x) mid.line) (ap (λ bs. bs ++ y) moves.2 ∙ append_assoc piece (newline ∷ now.pending) y) g))
            so_far.told;
        counted = so_far.counted;
        clean = clean-more line_room mid.line piece so_far.clean moves.1;
        fewer = omega (arith, so_far.fewer, lengths, length-take line_room (mid.line ++ piece), length-append mid.line piece);
        ended = so_far.ended;
        at_end = so_far.at_end;
        later = so_far.later;
        bounded = record { within = so_far.bounded.within; early = so_far.bounded.early };
      })

  -- a read brought bytes, or the end
  pub gathering-refilled : (c : Option (List ℕ)) → mid.pending ≡ [] → Refills b c mid now → Gathering [] a c old now
  gathering-refilled c used refills = record {
    told = told_then a b c (λ x y. KeepsPart (old.pending ++ x) mid.line (mid.pending ++ y)) (λ y z. y ≡ now.pending ++ z)
        (λ x z. KeepsPart (old.pending ++ x) now.line (now.pending ++ z))
        (λ x y z g e. rw refills.line (subst (KeepsPart (old.pending ++ x) mid.line) (ap (λ bs. bs ++ y) used ∙ e) g))
        so_far.told refills.bytes;
    counted = told_then a b c (λ x y. mid.taken + length y ≡ old.taken + length x) (λ y z. y ≡ now.pending ++ z)
        (λ x z. now.taken + length z ≡ old.taken + length x)
        (λ x y z n e. omega (arith, n, refills.taken, ap length e ∙ length-append now.pending z))
        so_far.counted refills.bytes;
    clean = rw refills.line so_far.clean;
    fewer = omega (arith, so_far.fewer, refills.taken, refills.bounded.within, ap length refills.line, ap length used);
    ended = λ is. elim refills.some [ inl some ↦ some.1 ∙ so_far.ended is | inr ends ↦ ends ];
    at_end = refills.at_end;
    later = omega (arith, so_far.later, refills.taken);
    bounded = refills.bounded;
  }

  -- a read failed
  pub gathering-failed : (c : Option (List ℕ)) → mid.ended ≡ false → Keeps b c → now ≡ mid → Gathering [] a c old now
  gathering-failed c going keeps same = subst (Gathering [] a c old) (sym same) (record {
    told = told_then a b c (λ x y. KeepsPart (old.pending ++ x) mid.line (mid.pending ++ y)) (λ y z. z ≡ y)
        (λ x z. KeepsPart (old.pending ++ x) mid.line (mid.pending ++ z))
        (λ x y z g e. subst (λ w. KeepsPart (old.pending ++ x) mid.line (mid.pending ++ w)) (sym e) g)
        so_far.told (told_kept b c keeps);
    counted = told_then a b c (λ x y. mid.taken + length y ≡ old.taken + length x) (λ y z. z ≡ y)
        (λ x z. mid.taken + length z ≡ old.taken + length x)
        (λ x y z n e. ap (λ w. mid.taken + length w) e ∙ n)
        so_far.counted (told_kept b c keeps);
    clean = so_far.clean;
    fewer = so_far.fewer;
    ended = so_far.ended;
    at_end = λ is. absurd (let no : true ≡ false = sym is ∙ going in cc);
    later = so_far.later;
    bounded = so_far.bounded;
  })

-- a call that goes on to read found no whole line, no end and no limit before it
pub not-ready : (old mid now : Reading) → mid ≡ old → Moves false mid now → now.ended ≡ false → (now.taken ≡ input_limit → ⊥) → IsReady old → ⊥
not-ready old mid now same moves going short ready =
    elim ready [
      | inl held ↦ absurd (subst (λ (r : Reading). NoNewline r.pending) same moves.0 held.0 newline held.1 held.2)
      | inr done ↦
          elim done [
            | inl ended ↦ let no_end : true ≡ false = sym ended ∙ ap (λ r. r.ended) (sym same) ∙ ap (λ r. r.ended) (sym moves.1) ∙ going in absurd (cc)
            | inr full ↦ absurd (short (ap (λ r. r.taken) moves.1 ∙ ap (λ r. r.taken) same ∙ full))
          ]
    ]

-- a count that is as it was isn't less
pub same-later : (before now : ℕ) → now ≡ before → before ≤ now
same-later before now same = omega (arith, same)
