-- What the answers of a call say, from what it gathered.
use Rattle.std.proofs.Common.{◌≡◌, ℕ, ◌+◌, ◌-◌, ◌<◌, ◌≤◌, ◌↔◌, Bool, true, false, IsTrue, List, [], ◌∷◌, ◌++◌, Option, Result, Ok, Err, length, take, drop, refl, sym, ap, subst, ◌∙◌, inl, inr, arith, append_assoc, length-append}
use Rattle.std.proofs.lemmas.List.{append-nil, take-append-drop, take_at, take_all, length-take, get_or_at, nil_from_length}
use Rattle.device_cells.specs.WhereTold.{WhereTold}
use Rattle.device_cells.proofs.WhereToldLemmas.{told_weaker, told_both, told_at_end}
use Rattle.line_service.specs.Lines.{newline, lines, NoNewline}
use Rattle.line_service.specs.Reading.{Reading, line_limit, input_limit, bytes_ahead, blank, TakesLine, Takes, Shows, Advances, KeepsPart, given}
use Rattle.line_service.specs.Gathering.{line_room, IsBounded, Gathering, cut_of, Judges}
use Rattle.line_service.specs.declared.lines.Taken.{Taken}
use Rattle.line_service.specs.declared.lines.Taken.TheVariants.{Line, TooLong, End}
use Rattle.line_service.specs.declared.lines.LineFault.{LineFault}
use Rattle.line_service.specs.declared.lines.LineFault.TheVariants.{ReadFault, InputLimit}
use Rattle.line_service.proofs.CutLines.{lines-nil, lines-whole, lines-last}

-- ---- answers

pub ok_not_err : {T : Type 0} (x : T) (fault : LineFault) → ◌≡◌ {A = Result T LineFault} (Ok x) (Err fault) → ⊥
ok_not_err x fault is = cc is

pub err_not_ok : {T : Type 0} (fault : LineFault) (x : T) → ◌≡◌ {A = Result T LineFault} (Err fault) (Ok x) → ⊥
err_not_ok fault x is = cc is

pub true_not_false : ◌≡◌ {A = Result Bool LineFault} (Ok true) (Ok false) → ⊥
true_not_false is = cc is

pub limit_not_fault : {T : Type 0} → ◌≡◌ {A = Result T LineFault} (Err InputLimit) (Err ReadFault) → ⊥
limit_not_fault is = cc is

pub fault_not_limit : {T : Type 0} → ◌≡◌ {A = Result T LineFault} (Err ReadFault) (Err InputLimit) → ⊥
fault_not_limit is = cc is

pub err_as : {T U : Type 0} (a b : LineFault) → ◌≡◌ {A = Result T LineFault} (Err a) (Err b) → ◌≡◌ {A = Result U LineFault} (Err a) (Err b)
err_as a b is = let same : a ≡ b = cc is in ap Err same

-- ---- lines

-- a part that has its newline is the first line
takes-whole : (ahead kept rest : List ℕ) (ended : Bool) (g : KeepsPart ahead kept (newline ∷ rest)) → TakesLine ahead g.part rest ended
takes-whole ahead kept rest ended g = record {
  first = ap lines g.bytes ∙ lines-whole g.part rest g.clean;
  bytes = inl g.bytes;
  clean = g.clean;
}

-- a part that stands before the end is the last line
takes-last : (ahead kept rest : List ℕ) (ended : Bool) (g : KeepsPart ahead kept rest) → rest ≡ [] → IsTrue ended → 0 < length g.part → TakesLine ahead g.part rest ended
takes-last ahead kept rest ended g nothing is some =
    let all : ahead ≡ g.part = g.bytes ∙ ap (λ r. g.part ++ r) nothing ∙ append-nil g.part in
    record {
      first = ap lines all ∙ lines-last g.part g.clean some ∙ ap (λ ls. g.part ∷ ls) (sym (ap lines nothing ∙ lines-nil));
      bytes = inr (all, nothing, is);
      clean = g.clean;
    }

-- a kept line that isn't too long is the whole part
kept-all : (ahead kept rest : List ℕ) (g : KeepsPart ahead kept rest) → length kept ≤ line_limit → kept ≡ g.part
kept-all ahead kept rest g small =
    g.front ∙ take_all line_room g.part (omega (arith, ap length g.front, length-take line_room g.part))

-- and one that is too long shows that the part is
kept-long : (ahead kept rest : List ℕ) (g : KeepsPart ahead kept rest) → line_limit < length kept → line_limit < length g.part
kept-long ahead kept rest g long = omega (arith, ap length g.front, length-take line_room g.part)

-- what was gathered and judged is answered
answers : (whole : Bool) (taken : Taken) (ahead rest : List ℕ) (mid now : Reading) → KeepsPart ahead mid.line (cut_of (Ok whole) ++ rest) → (whole ≡ false → IsTrue mid.ended × (rest ≡ [])) → Judges whole taken mid now → Takes taken ahead now rest
answers true Line ahead rest mid now g last judged =
    subst (λ (r : Reading). Takes Line ahead r rest) (sym judged.0) (
      subst (λ l. TakesLine ahead l rest mid.ended) (sym (kept-all ahead mid.line (newline ∷ rest) g judged.1)) (takes-whole ahead mid.line rest mid.ended g),
      judged.1,
    )
answers true TooLong ahead rest mid now g last judged =
    subst (λ (r : Reading). Takes TooLong ahead r rest) (sym judged.0) (
      g.part,
      takes-whole ahead mid.line rest mid.ended g,
      kept-long ahead mid.line (newline ∷ rest) g judged.1,
    )
answers true End ahead rest mid now g last judged = absurd (let no : true ≡ false = judged.1 in cc)
answers false Line ahead rest mid now g last judged =
    let at_end = last refl in
    let whole = kept-all ahead mid.line rest g judged.1 in
    subst (λ (r : Reading). Takes Line ahead r rest) (sym judged.0) (
      subst (λ l. TakesLine ahead l rest mid.ended) (sym whole)
          (takes-last ahead mid.line rest mid.ended g at_end.1 at_end.0 (omega (arith, judged.2 refl, ap length whole))),
      judged.1,
    )
answers false TooLong ahead rest mid now g last judged =
    let at_end = last refl in
    let long = kept-long ahead mid.line rest g judged.1 in
    subst (λ (r : Reading). Takes TooLong ahead r rest) (sym judged.0) (
      g.part,
      takes-last ahead mid.line rest mid.ended g at_end.1 at_end.0 (omega arith),
      long,
    )
answers false End ahead rest mid now g last judged =
    let at_end = last refl in
    let none : g.part ≡ [] = nil_from_length g.part (omega (arith, ap length g.front, ap length judged.2, length-take line_room g.part)) in
    subst (λ (r : Reading). Takes End ahead r rest) (sym judged.0) (
      g.bytes ∙ ap (λ p. p ++ rest) none ∙ at_end.1,
      at_end.1,
      at_end.0,
    )

-- how many bytes were taken stays
pub judged-taken : (whole : Bool) (taken : Taken) (mid now : Reading) → Judges whole taken mid now → now.taken ≡ mid.taken
judged-taken whole Line mid now judged = ap (λ r. r.taken) judged.0
judged-taken whole TooLong mid now judged = ap (λ r. r.taken) judged.0
judged-taken whole End mid now judged = ap (λ r. r.taken) judged.0

-- the bytes that stay pending are those that were
judged-pending : (whole : Bool) (taken : Taken) (mid now : Reading) → Judges whole taken mid now → now.pending ≡ mid.pending
judged-pending whole Line mid now judged = ap (λ r. r.pending) judged.0
judged-pending whole TooLong mid now judged = ap (λ r. r.pending) judged.0
judged-pending whole End mid now judged = ap (λ r. r.pending) judged.0

-- whether the source gave its end stays
pub judged-ended : (whole : Bool) (taken : Taken) (mid now : Reading) → Judges whole taken mid now → now.ended ≡ mid.ended
judged-ended whole Line mid now judged = ap (λ r. r.ended) judged.0
judged-ended whole TooLong mid now judged = ap (λ r. r.ended) judged.0
judged-ended whole End mid now judged = ap (λ r. r.ended) judged.0

-- the line that stays is shown
pub shown : (whole : Bool) (taken : Taken) (mid now : Reading) → NoNewline mid.line → Judges whole taken mid now → Shows taken now
shown whole Line mid now clean judged = subst (λ (r : Reading). NoNewline r.line × (length r.line ≤ line_limit)) (sym judged.0) (clean, judged.1)
shown whole TooLong mid now clean judged = ap (λ r. r.line) judged.0
shown whole End mid now clean judged = ap (λ r. r.line) judged.0 ∙ judged.2

-- fewer bytes may come: the newline went, or bytes of the line
pub advances : (a b : Option (List ℕ)) (whole : Bool) (taken : Taken) (old start mid now : Reading) → bytes_ahead start ≡ bytes_ahead old → Gathering (cut_of (Ok whole)) a b start mid → Judges whole taken mid now → Advances taken old now
advances a b true Line old start mid now same gathered judged = omega (arith, same, gathered.fewer, ap bytes_ahead judged.0)
advances a b true TooLong old start mid now same gathered judged = omega (arith, same, gathered.fewer, ap bytes_ahead judged.0)
advances a b true End old start mid now same gathered judged = tt
advances a b false Line old start mid now same gathered judged = omega (arith, same, gathered.fewer, ap bytes_ahead judged.0, judged.2 refl)
advances a b false TooLong old start mid now same gathered judged = omega (arith, same, gathered.fewer, ap bytes_ahead judged.0, judged.1)
advances a b false End old start mid now same gathered judged = tt

-- an answer on equal bytes
same-answers : (taken : Taken) (now : Reading) (ahead ahead' rest rest' : List ℕ) → ahead ≡ ahead' → rest ≡ rest' → Takes taken ahead' now rest' → Takes taken ahead now rest
same-answers taken now ahead ahead' rest rest' same-ahead same-rest says =
    subst (λ bs. Takes taken bs now rest) (sym same-ahead) (subst (Takes taken ahead' now) (sym same-rest) says)

-- the clause on the answer
pub told-answers : (a b : Option (List ℕ)) (old start mid now : Reading) (whole : Bool) (taken : Taken) → old.pending ≡ start.pending → Gathering (cut_of (Ok whole)) a b start mid → (◌≡◌ {A = Result Bool LineFault} (Ok whole) (Ok false) → IsTrue mid.ended × (mid.pending ≡ [])) → Judges whole taken mid now → WhereTold a b (λ x y. Takes taken (old.pending ++ x) now (now.pending ++ y))
told-answers a b old start mid now true taken same gathered last judged =
    told_weaker a b (λ x y. KeepsPart (start.pending ++ x) mid.line (newline ∷ mid.pending ++ y)) (λ x y. Takes taken (old.pending ++ x) now (now.pending ++ y))
    (λ x y g. same-answers taken now (old.pending ++ x) (start.pending ++ x) (now.pending ++ y) (mid.pending ++ y)
    (ap (λ p. p ++ x) same) (ap (λ p. p ++ y) (judged-pending true taken mid now judged))
    (answers true taken (start.pending ++ x) (mid.pending ++ y) mid now g (λ no. absurd (let never : true ≡ false = no in cc)) judged))
    gathered.told
told-answers a b old start mid now false taken same gathered last judged =
    let at_end = last refl in
    told_weaker a b (λ x y. KeepsPart (start.pending ++ x) mid.line (mid.pending ++ []) × (y ≡ [])) (λ x y. Takes taken (old.pending ++ x) now (now.pending ++ y))
    (λ x y g. same-answers taken now (old.pending ++ x) (start.pending ++ x) (now.pending ++ y) (mid.pending ++ [])
    (ap (λ p. p ++ x) same) (ap (λ p. p ++ y) (judged-pending false taken mid now judged) ∙ ap (λ w. mid.pending ++ w) g.1)
    (answers false taken (start.pending ++ x) (mid.pending ++ []) mid now g.0 (λ _. (at_end.0, ap (λ p. p ++ []) at_end.1)) judged))
    (told_at_end a b (λ x y. KeepsPart (start.pending ++ x) mid.line (mid.pending ++ y)) (gathered.at_end at_end.0) gathered.told)

-- no line is taken of no bytes
no-line : (ahead line rest : List ℕ) (ended : Bool) → TakesLine ahead line rest ended → ahead ≡ [] → ⊥
no-line ahead line rest ended takes nothing = let no : line ∷ lines rest ≡ [] = sym takes.first ∙ ap lines nothing ∙ lines-nil in cc

-- the answer is the end where the source gave its end and no byte was ahead
takes-end : (taken : Taken) (ahead rest : List ℕ) (now : Reading) → Takes taken ahead now rest → (◌≡◌ {A = Result Taken LineFault} (Ok taken) (Ok End)) ↔ (IsTrue now.ended × (ahead ≡ []))
takes-end Line ahead rest now takes = (λ no. absurd (cc), λ both. absurd (no-line ahead now.line rest now.ended takes.0 both.1))
takes-end TooLong ahead rest now takes = (λ no. absurd (cc), λ both. absurd (no-line ahead takes.0 rest now.ended takes.1 both.1))
takes-end End ahead rest now takes = (λ _. (takes.2, takes.0), λ _. refl)

-- the clause on the end, where something was taken
pub told-end : (a b : Option (List ℕ)) (old start mid now : Reading) (whole : Bool) (taken : Taken) → old.pending ≡ start.pending → Gathering (cut_of (Ok whole)) a b start mid → (◌≡◌ {A = Result Bool LineFault} (Ok whole) (Ok false) → IsTrue mid.ended × (mid.pending ≡ [])) → Judges whole taken mid now → WhereTold a b (λ x y. (◌≡◌ {A = Result Taken LineFault} (Ok taken) (Ok End)) ↔ (IsTrue now.ended × (old.pending ++ x ≡ [])))
told-end a b old start mid now whole taken same gathered last judged =
    told_weaker a b (λ x y. Takes taken (old.pending ++ x) now (now.pending ++ y))
    (λ x y. (◌≡◌ {A = Result Taken LineFault} (Ok taken) (Ok End)) ↔ (IsTrue now.ended × (old.pending ++ x ≡ [])))
    (λ x y takes. takes-end taken (old.pending ++ x) (now.pending ++ y) now takes)
    (told-answers a b old start mid now whole taken same gathered last judged)

-- and where nothing was
pub told-no-end : (a b : Option (List ℕ)) (cut : List ℕ) (old start mid now : Reading) (fault : LineFault) → now.ended ≡ false → Gathering cut a b start mid → WhereTold a b (λ x y. (◌≡◌ {A = Result Taken LineFault} (Err fault) (Ok End)) ↔ (IsTrue now.ended × (old.pending ++ x ≡ [])))
told-no-end a b cut old start mid now fault going gathered =
    told_weaker a b (λ x y. mid.taken + length y ≡ start.taken + length x)
    (λ x y. (◌≡◌ {A = Result Taken LineFault} (Err fault) (Ok End)) ↔ (IsTrue now.ended × (old.pending ++ x ≡ [])))
    (λ x y _. (λ no. absurd (cc), λ both. absurd (let never : true ≡ false = sym both.0 ∙ going in cc)))
    gathered.counted

-- the clause on the count
pub told-counted : (a b : Option (List ℕ)) (cut : List ℕ) (old start mid now : Reading) → old.taken ≡ start.taken → now.taken ≡ mid.taken → Gathering cut a b start mid → WhereTold a b (λ x y. now.taken + length y ≡ old.taken + length x)
told-counted a b cut old start mid now same-old same-now gathered =
    subst (λ n. WhereTold a b (λ x y. n + length y ≡ old.taken + length x)) (sym same-now)
    (subst (λ n. WhereTold a b (λ x y. mid.taken + length y ≡ n + length x)) (sym same-old) gathered.counted)

-- ---- a part that stays

pub told-kept : (a b : Option (List ℕ)) (old start mid now : Reading) → old.pending ≡ start.pending → Gathering [] a b start mid → mid.pending ≡ [] → now ≡ record mid { line = []; pending = mid.line } → WhereTold a b (λ x y. KeepsPart (old.pending ++ x) now.pending y)
told-kept a b old start mid now same gathered used back =
    told_weaker a b (λ x y. KeepsPart (start.pending ++ x) mid.line (mid.pending ++ y)) (λ x y. KeepsPart (old.pending ++ x) now.pending y)
    (λ x y g. record {
      part = g.part;
      clean = g.clean;
      front = ap (λ (r : Reading). r.pending) back ∙ g.front;
      bytes = ap (λ p. p ++ x) same ∙ g.bytes ∙ ap (λ p. g.part ++ (p ++ y)) used;
    })
    gathered.told

-- nothing but that part and the count stays
pub emptied : (mid now : Reading) → now ≡ record mid { line = []; pending = mid.line } → mid.ended ≡ false → now ≡ record blank { pending = now.pending; taken = now.taken }
emptied mid now back going =
    subst (λ (r : Reading). r ≡ record blank { pending = r.pending; taken = r.taken }) (sym back)
    (ap (λ e. record blank { pending = mid.line; taken = mid.taken; ended = e }) going)

-- ---- the limit of the input

-- the bytes in hand, where what followed them is known
in-hand : (p x q y : List ℕ) → p ++ x ≡ q ++ y → length y ≤ length x → p ++ given x y ≡ q
in-hand p x q y same short =
    let k = length x - length y in
    let lengths = ap length same in
    let size : length (p ++ take k x) ≡ length q =
    omega (arith, lengths, length-append p x, length-append q y, length-append p (take k x), length-take k x) in
    let whole : (p ++ take k x) ++ drop k x ≡ q ++ y = append_assoc p (take k x) (drop k x) ∙ ap (λ bs. p ++ bs) (take-append-drop k x) ∙ same in
    sym (take_at (p ++ take k x) (drop k x) (length q) size) ∙ ap (take (length q)) whole ∙ take_at q y (length q) refl

-- a newline stands in bytes that hold one
has-newline : (front rest : List ℕ) → NoNewline (front ++ newline ∷ rest) → ⊥
has-newline front rest clean = clean (length front) 0 (omega (arith, length-append front (newline ∷ rest))) (get_or_at front newline rest 0 (length front) refl)

-- where a line was taken, the bytes in hand hold its newline, or the end came before the limit
no-limit : (whole : Bool) (x y : List ℕ) (start mid : Reading) → KeepsPart (start.pending ++ x) mid.line (cut_of (Ok whole) ++ mid.pending ++ y) → mid.taken + length y ≡ start.taken + length x → start.taken ≤ mid.taken → IsBounded mid → (◌≡◌ {A = Result Bool LineFault} (Ok whole) (Ok false) → IsTrue mid.ended × (mid.pending ≡ [])) → mid.taken ≡ input_limit → NoNewline (start.pending ++ given x y) → ⊥
no-limit true x y start mid g counted later bounded last full clean =
    let q = g.part ++ newline ∷ mid.pending in
    let hand = in-hand start.pending x q y (g.bytes ∙ sym (append_assoc g.part (newline ∷ mid.pending) y)) (omega arith) in
    has-newline g.part mid.pending (subst NoNewline hand clean)
no-limit false x y start mid g counted later bounded last full clean =
    let early = bounded.early (last refl).0 in omega (arith, early)

-- the clause on the limit, where something was taken
pub told-no-limit : (a b : Option (List ℕ)) (old start mid now : Reading) (whole : Bool) (taken : Taken) → old.pending ≡ start.pending → now.taken ≡ mid.taken → Gathering (cut_of (Ok whole)) a b start mid → (◌≡◌ {A = Result Bool LineFault} (Ok whole) (Ok false) → IsTrue mid.ended × (mid.pending ≡ [])) → WhereTold a b (λ x y. (◌≡◌ {A = Result Taken LineFault} (Ok taken) (Err InputLimit)) ↔ ((now.taken ≡ input_limit) × NoNewline (old.pending ++ given x y)))
told-no-limit a b old start mid now whole taken same same-taken gathered last =
    told_weaker a b
    (λ x y. KeepsPart (start.pending ++ x) mid.line (cut_of (Ok whole) ++ mid.pending ++ y) × (mid.taken + length y ≡ start.taken + length x))
    (λ x y. (◌≡◌ {A = Result Taken LineFault} (Ok taken) (Err InputLimit)) ↔ ((now.taken ≡ input_limit) × NoNewline (old.pending ++ given x y)))
    (λ x y g. (
      λ never. absurd (cc),
      λ at. absurd (no-limit whole x y start mid g.0 g.1 gathered.later gathered.bounded last (sym same-taken ∙ at.0)
          (subst (λ p. NoNewline (p ++ given x y)) same at.1)),
    ))
    (told_both a b (λ x y. KeepsPart (start.pending ++ x) mid.line (cut_of (Ok whole) ++ mid.pending ++ y))
    (λ x y. mid.taken + length y ≡ start.taken + length x) gathered.told gathered.counted)

-- which fault it was
limit-fault : (fault : LineFault) (taken : ℕ) → (◌≡◌ {A = Result Bool LineFault} (Err fault) (Err ReadFault) → taken < input_limit) → taken ≡ input_limit → ◌≡◌ {A = Result Taken LineFault} (Err fault) (Err InputLimit)
limit-fault ReadFault taken short full = absurd (omega (arith, short refl))
limit-fault InputLimit taken short full = refl

-- the clause on the limit, where nothing was taken
pub told-limit : (a b : Option (List ℕ)) (old start mid now : Reading) (fault : LineFault) → old.pending ≡ start.pending → now.taken ≡ mid.taken → Gathering [] a b start mid → mid.pending ≡ [] → (◌≡◌ {A = Result Bool LineFault} (Err fault) (Err InputLimit) → mid.taken ≡ input_limit) → (◌≡◌ {A = Result Bool LineFault} (Err fault) (Err ReadFault) → mid.taken < input_limit) → WhereTold a b (λ x y. (◌≡◌ {A = Result Taken LineFault} (Err fault) (Err InputLimit)) ↔ ((now.taken ≡ input_limit) × NoNewline (old.pending ++ given x y)))
told-limit a b old start mid now fault same same-taken gathered used full short =
    told_weaker a b
    (λ x y. KeepsPart (start.pending ++ x) mid.line (mid.pending ++ y) × (mid.taken + length y ≡ start.taken + length x))
    (λ x y. (◌≡◌ {A = Result Taken LineFault} (Err fault) (Err InputLimit)) ↔ ((now.taken ≡ input_limit) × NoNewline (old.pending ++ given x y)))
    (λ x y g.
    let later = gathered.later in
    let counted = g.1 in
    let hand = in-hand start.pending x g.0.part y (g.0.bytes ∙ ap (λ p. g.0.part ++ (p ++ y)) used) (omega arith) in (
      λ is. (
        same-taken ∙ full (cc),
        subst (λ p. NoNewline (p ++ given x y)) (sym same) (subst NoNewline (sym hand) g.0.clean),
      ),
      λ at. limit-fault fault mid.taken short (sym same-taken ∙ at.0),
    ))
    (told_both a b (λ x y. KeepsPart (start.pending ++ x) mid.line (mid.pending ++ y))
    (λ x y. mid.taken + length y ≡ start.taken + length x) gathered.told gathered.counted)
